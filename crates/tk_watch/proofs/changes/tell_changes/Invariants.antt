use Rattle.std.proofs.Common.{◌-◌, ◌≡◌, ◌≤◌, ◌<◌, ◌+◌, ◌++◌, ℕ, length}
use Rattle.std.specs.Prelude.{slice_index}
use Rattle.byte_streams.specs.Streams.{IsSent}
use Rattle.heap_frames.specs.Memory.{vmem}
use Rattle.tk_watch.specs.Rows.{rows}
use Rattle.tk_watch.specs.ChangesText.{change_text}
use Rattle.tk_watch.proofs.changes.tell_changes.Given as goal

abbrev pub invariant-bytes : goal.invariant-bytes
invariant-bytes g l = record {
  from : l.outset.reach.0 ≤ l.i;
  within : l.i ≤ l.outset.reach.1;
  sent : IsSent
      (l.fn.gathered.items ++ rows (λ i. change_text l.step l.outset.pc (l.range.0 + i) (slice_index l.fn.bytes i) (slice_index (vmem l.mote.sram l.mote.swap) (l.range.0 + i))) l.i)
      l.gathered.items (g.K.Sink.taken l.fn.out) (g.K.Sink.taken l.out);
  size : length l.bytes ≡ 64;
  now : (j : ℕ) → l.outset.reach.0 ≤ j → j < l.i → slice_index l.bytes j ≡ slice_index (vmem l.mote.sram l.mote.swap) (l.range.0 + j);
  front : (j : ℕ) → j < l.outset.reach.0 → slice_index l.bytes j ≡ slice_index l.fn.bytes j;
  later : (j : ℕ) → l.i ≤ j → slice_index l.bytes j ≡ slice_index l.fn.bytes j;
  faults : g.K.Sink.faults l.fn.out ≤ g.K.Sink.faults l.out;
}

abbrev pub decreases-bytes : goal.decreases-bytes
decreases-bytes g l = l.outset.reach.1 - l.i
