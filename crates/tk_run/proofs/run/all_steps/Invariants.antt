use Rattle.std.proofs.Common.{◌-◌, ◌≤◌}
use Rattle.page_cursor.specs.Cursors.{IsCursor}
use Rattle.program_steps.specs.Wholes.{whole}
use Rattle.tk_run.specs.InTurn.{GoOutInTurn}
use Rattle.tk_run.proofs.Gathered.{IsUnderWay}
use Rattle.tk_run.proofs.run.all_steps.Given as goal

abbrev pub invariant-steps : goal.invariant-steps
invariant-steps g l = record {
  way : IsUnderWay (whole l.fn.k l.fn.p) (whole l.k l.p) l.done l.gathered.items (g.K.Sink.taken l.fn.out) (g.K.Sink.taken l.out);
  cursor : IsCursor l.k.layout l.k.mote.flash.words l.cursor;
  turns : GoOutInTurn g.K.Sink.taken (whole l.fn.k l.fn.p) l.fn.out l.out l.done;
  within : l.done ≤ l.n;
  faults : g.K.Sink.faults l.fn.out ≤ g.K.Sink.faults l.out;
}

abbrev pub decreases-steps : goal.decreases-steps
decreases-steps g l = l.n - l.done
