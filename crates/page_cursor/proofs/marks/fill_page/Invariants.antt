use Rattle.std.proofs.Common.{◌≡◌, ℕ, ◌*◌, ◌/◌, ◌%◌, ◌<◌, false, length}
use Rattle.std.specs.Prelude.{◌≢◌, slice_index_or}
use Rattle.page_cursor.specs.Marks.{no_entry, StaysAt}
use Rattle.page_cursor.proofs.marks.fill_page.Given as goal

-- of the first places of the page it is noted, and what is noted of other pages stays
abbrev pub invariant-places : goal.invariant-places
invariant-places l = record {
  first : l.first ≡ 128 * l.page;
  quiet : length l.quiet ≡ 65536;
  marks : length l.marks ≡ 65536;
  filled : (place : ℕ) → place / 128 ≡ l.page → place % 128 < l.k → (slice_index_or l.quiet place false ≡ l.none_begins) × (slice_index_or l.marks place 0 ≡ no_entry);
  others : (place : ℕ) → place / 128 ≢ l.page → StaysAt l.quiet l.marks l.fn.quiet l.fn.marks place;
}
