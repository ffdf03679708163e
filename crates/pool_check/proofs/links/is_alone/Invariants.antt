use Rattle.std.proofs.Common.{ℕ, ◌<◌}
use Rattle.page_index.specs.Maps.{address_of}
use Rattle.pool_check.specs.Links.{IsUnlisted}
use Rattle.pool_check.proofs.links.is_alone.Given as goal

abbrev pub invariant-loop-i : goal.invariant-loop-i
invariant-loop-i l = (j : ℕ) → j < l.i → IsUnlisted l.layout l.flash.words l.page (address_of l.flash.words l.page j)
