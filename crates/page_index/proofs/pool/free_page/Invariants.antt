use Rattle.std.proofs.Common.{ℕ, ◌+◌, ◌-◌, ◌<◌, ◌≤◌}
use Rattle.page_index.specs.Maps.{IsPool, IsFree}
use Rattle.page_index.proofs.pool.free_page.Given as goal

-- no page before is free
abbrev pub invariant-pages : goal.invariant-pages
invariant-pages l = (l.layout.pool_first ≤ l.from) × ((lower : ℕ) → IsPool l.layout lower → lower < l.from → IsFree l.flash.words lower → ⊥)

-- the pages that are left
abbrev pub decreases-pages : goal.decreases-pages
decreases-pages l = l.layout.pool_first + l.layout.pool_pages - l.from
