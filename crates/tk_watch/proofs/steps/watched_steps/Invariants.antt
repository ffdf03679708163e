use Rattle.std.proofs.Common.{◌-◌, ◌≤◌, ◌≡◌, length}
use Rattle.page_cursor.specs.Cursors.{IsCursor}
use Rattle.program_steps.specs.Machines.{flat_of}
use Rattle.program_steps.specs.Wholes.{whole}
use Rattle.tk_watch.specs.Kept.{AreHeld}
use Rattle.tk_watch.specs.Watching.{GoOutInTurn}
use Rattle.tk_watch.proofs.Telling.{IsToldSoFar}
use Rattle.tk_watch.proofs.steps.watched_steps.Given as goal

abbrev pub invariant-turns : goal.invariant-turns
invariant-turns g l = record {
  way : IsToldSoFar l.view (whole l.fn.k l.fn.p) (whole l.k l.p) l.done l.gathered.items (g.K.Sink.taken l.fn.out) (g.K.Sink.taken l.out);
  cursor : IsCursor l.k.layout l.k.mote.flash.words l.cursor;
  held : AreHeld l.view (flat_of (whole l.k l.p)).now.memory l.bytes;
  size : length l.bytes ≡ 64;
  turns : GoOutInTurn g.K.Sink.taken l.view (whole l.fn.k l.fn.p) l.fn.out l.done;
  within : l.done ≤ l.n;
  faults : g.K.Sink.faults l.fn.out ≤ g.K.Sink.faults l.out;
}

abbrev pub decreases-turns : goal.decreases-turns
decreases-turns g l = l.n - l.done
