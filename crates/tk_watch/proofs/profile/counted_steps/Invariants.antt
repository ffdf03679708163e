use Rattle.std.proofs.Common.{◌-◌, ◌≤◌, ◌≡◌, length}
use Rattle.page_cursor.specs.Cursors.{IsCursor}
use Rattle.program_steps.specs.Wholes.{whole}
use Rattle.tk_watch.proofs.CountingSteps.{IsCountedSoFar}
use Rattle.tk_watch.proofs.profile.counted_steps.Given as goal

abbrev pub invariant-turns : goal.invariant-turns
invariant-turns l = record {
  way : IsCountedSoFar (whole l.fn.k l.fn.p) (whole l.k l.p) l.done l.counts;
  cursor : IsCursor l.k.layout l.k.mote.flash.words l.cursor;
  within : l.done ≤ l.n;
  size : length l.counts ≡ 65536;
}

abbrev pub decreases-turns : goal.decreases-turns
decreases-turns l = l.n - l.done
