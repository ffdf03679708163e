use Rattle.std.proofs.Common.{◌≡◌, ℕ, ◌<◌, true}
use Rattle.page_index.specs.Maps.{IsPool}
use Rattle.page_index.specs.Entries.{Lists, IsEntry}
use Rattle.pool_check.proofs.links.is_one_entry.Given as goal

-- the pages so far have no entry elsewhere, and one there if it was found
abbrev pub invariant-loop-page : goal.invariant-loop-page
invariant-loop-page l = record {
  here : l.found ≡ true → IsEntry l.layout l.flash.words l.t l.place;
  only : (p i v : ℕ) → IsPool l.layout p → p < l.page → Lists l.flash.words p i l.t v → (v ≡ l.place) × (l.found ≡ true);
}
