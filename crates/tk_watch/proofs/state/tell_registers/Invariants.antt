use Rattle.std.proofs.Common.{◌-◌, ◌≤◌, ◌++◌}
use Rattle.std.specs.Prelude.{slice_index}
use Rattle.byte_streams.specs.Streams.{IsSent}
use Rattle.tk_watch.specs.Rows.{rows}
use Rattle.tk_watch.specs.StateText.{register_text}
use Rattle.tk_watch.proofs.state.tell_registers.Given as goal

abbrev pub invariant-registers : goal.invariant-registers
invariant-registers g l = record {
  within : l.number ≤ 32;
  sent : IsSent (l.fn.gathered.items ++ rows (λ n. register_text n (slice_index l.registers n)) l.number) l.gathered.items (g.K.Sink.taken l.fn.out) (g.K.Sink.taken l.out);
  faults : g.K.Sink.faults l.fn.out ≤ g.K.Sink.faults l.out;
}

abbrev pub decreases-registers : goal.decreases-registers
decreases-registers g l = 32 - l.number
