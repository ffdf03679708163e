use Rattle.std.proofs.Common.{◌≡◌, ℕ, ◌+◌, ◌/◌, ◌<◌, ◌⊎◌, true, false, length}
use Rattle.std.specs.Prelude.{slice_index_or}
use Rattle.page_index.specs.Maps.{page_word}
use Rattle.page_index.proofs.page.unmark_offsets.Given as goal

-- the offsets of the entries so far are unmarked, and no others
abbrev pub invariant-entries : goal.invariant-entries
invariant-entries l = record {
  size : length l.known ≡ length l.fn.known;
  only : (k : ℕ) → slice_index_or l.known k false ≡ true → slice_index_or l.fn.known k false ≡ true;
  unmarked : (j : ℕ) → j < l.i → slice_index_or l.known (page_word l.flash.words l.page (2 + j) / 256) false ≡ false;
  kept : (k : ℕ) → slice_index_or l.fn.known k false ≡ true → (slice_index_or l.known k false ≡ true) ⊎ ((j : ℕ) × (j < l.i) × (page_word l.flash.words l.page (2 + j) / 256 ≡ k));
}
