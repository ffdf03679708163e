use Rattle.std.proofs.Common.{◌+◌, ◌-◌, ◌≤◌}
use Rattle.branch_bridge.proofs.UpToLaws.{UpTo}
use Rattle.branch_bridge.proofs.unresolving.unresolve.Given as goal

-- the pages so far are done
abbrev pub invariant-pages : goal.invariant-pages
invariant-pages l = record {
  start : l.layout.pool_first ≤ l.from;
  below : l.from ≤ l.layout.pool_first + l.layout.pool_pages;
  up : UpTo l.layout l.fn.flash l.flash l.victim (l.from - l.layout.pool_first);
}

-- the pages that are left
abbrev pub decreases-pages : goal.decreases-pages
decreases-pages l = l.layout.pool_first + l.layout.pool_pages - l.from
