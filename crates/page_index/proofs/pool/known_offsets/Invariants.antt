use Rattle.std.proofs.Common.{◌≡◌, ℕ, ◌+◌, ◌-◌, ◌*◌, ◌<◌, ◌≤◌, true, false, length}
use Rattle.std.specs.Prelude.{slice_index_or}
use Rattle.page_index.specs.Maps.{IsPool}
use Rattle.page_index.specs.Entries.{Lists, IsEntry}
use Rattle.page_index.proofs.pool.known_offsets.Given as goal

-- those that the pages so far have entries of
abbrev pub invariant-pages : goal.invariant-pages
invariant-pages l = record {
  start : l.layout.pool_first ≤ l.from;
  size : length l.known ≡ 128;
  found : (k : ℕ) → k < 128 → slice_index_or l.known k false ≡ true → (v : ℕ) × IsEntry l.layout l.flash.words (128 * l.original + k) v;
  only : (lower i k v : ℕ) → k < 128 → IsPool l.layout lower → lower < l.from → Lists l.flash.words lower i (128 * l.original + k) v → slice_index_or l.known k false ≡ true;
}

-- the pages that are left
abbrev pub decreases-pages : goal.decreases-pages
decreases-pages l = l.layout.pool_first + l.layout.pool_pages - l.from
