use Rattle.std.proofs.Common.{ℕ, ◌<◌}
use Rattle.page_index.specs.Maps.{IsPool}
use Rattle.page_index.specs.Entries.{Lists}
use Rattle.pool_check.proofs.links.is_unlisted.Given as goal

abbrev pub invariant-loop-lower : goal.invariant-loop-lower
invariant-loop-lower l = (p i v : ℕ) → IsPool l.layout p → p < l.lower → Lists l.flash.words p i l.t v → ⊥
