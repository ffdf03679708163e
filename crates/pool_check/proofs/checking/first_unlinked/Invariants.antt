use Rattle.std.proofs.Common.{ℕ, ◌<◌}
use Rattle.page_index.specs.Maps.{IsPool}
use Rattle.pool_check.specs.Links.{HasLinks}
use Rattle.pool_check.proofs.checking.first_unlinked.Given as goal

abbrev pub invariant-loop-page : goal.invariant-loop-page
invariant-loop-page l = (other : ℕ) → IsPool l.layout other → other < l.page → HasLinks l.layout l.image l.flash.words other
