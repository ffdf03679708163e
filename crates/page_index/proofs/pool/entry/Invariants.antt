use Rattle.std.proofs.Common.{ℕ, ◌<◌}
use Rattle.page_index.specs.Maps.{IsPool}
use Rattle.page_index.specs.Entries.{Lists}
use Rattle.page_index.proofs.pool.entry.Given as goal

-- no page before has an entry of the address
abbrev pub invariant-loop-page : goal.invariant-loop-page
invariant-loop-page l = (lower i v : ℕ) → IsPool l.layout lower → lower < l.page → Lists l.flash.words lower i l.t v → ⊥
