use Rattle.std.proofs.Common.{◌-◌, ◌*◌, ◌≤◌, ◌++◌}
use Rattle.byte_streams.specs.Streams.{IsSent}
use Rattle.heap_frames.specs.Memory.{vmem}
use Rattle.tk_watch.specs.MemoryText.{row_text}
use Rattle.tk_watch.specs.Rows.{rows}
use Rattle.tk_watch.proofs.memory.tell_memory.Given as goal

abbrev pub invariant-rows : goal.invariant-rows
invariant-rows g l = record {
  within : l.row ≤ 4096;
  sent : IsSent (l.fn.gathered.items ++ rows (λ row. row_text (vmem l.mote.sram l.mote.swap) (16 * row)) l.row) l.gathered.items (g.K.Sink.taken l.fn.out) (g.K.Sink.taken l.out);
  faults : g.K.Sink.faults l.fn.out ≤ g.K.Sink.faults l.out;
}

abbrev pub decreases-rows : goal.decreases-rows
decreases-rows g l = 4096 - l.row
