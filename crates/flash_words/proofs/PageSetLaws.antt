-- A set of pages with one page more, and one less.
use Rattle.std.proofs.Common.{◌≡◌, ℕ, ◌*◌, ◌/◌, ◌%◌, ◌^◌, ◌<◌, List, length, true, w64, arith, sym, ap, ◌∙◌, inl, inr}
use Rattle.std.specs.Prelude.{◌==◌, ◌≢◌, slice_index, slice_set, bit_or, bit_and}
use Rattle.std.specs.Int.{bit_at, bit_not}
use Rattle.std.proofs.lemmas.List.{get_or-set_same, get_or-set_other}
use Rattle.std.proofs.lemmas.Bool.{cases_eq}
use Rattle.std.proofs.lemmas.Nat.Bits.{bit_at_set_same, bit_at_set_other, bit_at_clear_other}
use Rattle.flash_words.specs.declared.page_set.PageSet.{PageSet}
use Rattle.flash_words.specs.PageSets.{has_page}

-- the words with a bit set
abbrev with_bit : List ℕ → (i k : ℕ) → List ℕ
with_bit bits i k = slice_set bits i (bit_or (slice_index bits i) (1 * 2 ^ k % 2 ^ 64))

-- .. that bit
the_bit : (bits : List ℕ) (i k : ℕ) → i < length bits → k < 64 → (bit_at (slice_index (with_bit bits i k) i) k == 1) ≡ true
the_bit bits i k inside within =
    ap (λ w. bit_at w k == 1) (get_or-set_same bits i (bit_or (slice_index bits i) (1 * 2 ^ k % 2 ^ 64)) 0 inside) ∙ ap (λ b. b == 1) (bit_at_set_same w64 (slice_index bits i) k within)

-- a bit of words one of which was replaced, which has that bit as it was
same_bit : (bits : List ℕ) (i w j m : ℕ) → i < length bits → (j ≡ i → bit_at w m ≡ bit_at (slice_index bits i) m) → bit_at (slice_index (slice_set bits i w) j) m ≡ bit_at (slice_index bits j) m
same_bit bits i w j m inside stays = elim (cases_eq j i) [
  | inl here ↦ rw (here, get_or-set_same bits i w 0 inside) (stays here)
  | inr other ↦ ap (λ w. bit_at w m) (get_or-set_other bits i j w 0 other)
]

-- the page that is put in
pub page_added : (set : PageSet) (i page : ℕ) → i ≡ page / 64 % 8 → length set.bits ≡ 8 → has_page (record { bits = with_bit set.bits i (page % 64) }) page ≡ true
page_added set i page is size =
    ap (λ j. bit_at (slice_index (with_bit set.bits i (page % 64)) j) (page % 64) == 1) (sym is) ∙ the_bit set.bits i (page % 64) (omega arith) (omega arith)

-- each other page
pub page_apart : (set : PageSet) (i page other : ℕ) → i ≡ page / 64 % 8 → length set.bits ≡ 8 → other % 512 ≢ page % 512
    → has_page (record { bits = with_bit set.bits i (page % 64) }) other ≡ has_page set other
page_apart set i page other is size apart =
    ap (λ b. b == 1) (same_bit set.bits i _ (other / 64 % 8) (other % 64) (omega arith)
    (λ same. bit_at_set_other w64 (slice_index set.bits i) (page % 64) (omega arith) (other % 64) (λ here. apart (omega arith))))

-- each page that was there
pub page_stays : (set : PageSet) (i page other : ℕ) → i ≡ page / 64 % 8 → length set.bits ≡ 8 → has_page set other ≡ true
    → has_page (record { bits = with_bit set.bits i (page % 64) }) other ≡ true
page_stays set i page other is size has = elim (cases_eq (other % 512) (page % 512)) [
  | inl same ↦
      let word : other / 64 % 8 ≡ page / 64 % 8 = omega arith in
      let bit : other % 64 ≡ page % 64 = omega arith in
      rw (word, bit) (page_added set i page is size)
  | inr apart ↦ page_apart set i page other is size apart ∙ has
]

-- the words with a bit cleared
abbrev without_bit : List ℕ → (i k : ℕ) → List ℕ
without_bit bits i k = slice_set bits i (bit_and (slice_index bits i) (bit_not w64 (1 * 2 ^ k % 2 ^ 64)))

-- each other page, where one is taken out
pub page_left : (set : PageSet) (i page other : ℕ) → i ≡ page / 64 % 8 → length set.bits ≡ 8 → other % 512 ≢ page % 512 → has_page set other ≡ true
    → has_page (record { bits = without_bit set.bits i (page % 64) }) other ≡ true
page_left set i page other is size apart has =
    let stays = λ (same : other / 64 % 8 ≡ i). bit_at_clear_other w64 (slice_index set.bits i) (page % 64) (omega arith) (other % 64) (omega arith) (λ here. apart (omega arith)) in
    ap (λ b. b == 1) (same_bit set.bits i _ (other / 64 % 8) (other % 64) (omega arith) stays) ∙ has
