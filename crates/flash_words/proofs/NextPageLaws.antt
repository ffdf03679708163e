-- The lowest page of a set from one on, by the bits of one word.
use Rattle.std.proofs.Common.{◌≡◌, ℕ, ◌+◌, ◌-◌, ◌*◌, ◌/◌, ◌%◌, ◌^◌, ◌<◌, ◌≤◌, false, w64, arith, sym, ap, ◌∙◌, inl, inr}
use Rattle.std.specs.Prelude.{◌==◌, slice_index}
use Rattle.std.specs.Int.{bit_at, trailing_zeros}
use Rattle.std.proofs.Math.Nat.{div-div-eq-div-mul, div-eq_of_lt, pow-le-pow_right}
use Rattle.std.proofs.lemmas.Nat.{pow-add}
use Rattle.std.proofs.lemmas.Nat.Bits.{bit_at-zero, bit_at-trailing_zeros}
use Rattle.std.proofs.lemmas.Bool.{cases_lt}
use Rattle.flash_words.specs.declared.page_set.PageSet.{PageSet}
use Rattle.flash_words.specs.PageSets.{has_page}

-- a bit of a word without its lowest k bits
bit_behind : (n k i : ℕ) → bit_at (n / 2 ^ k) i ≡ bit_at n (k + i)
bit_behind n k i = ap (λ q. q % 2) (div-div-eq-div-mul n (2 ^ k) (2 ^ i) ∙ ap (λ p. n / p) (sym (pow-add 2 k i)))

-- a word of 64 bits has no others
no_bit : (n i : ℕ) → n < 2 ^ 64 → 64 ≤ i → bit_at n i ≡ 0
no_bit n i fits above = ap (λ q. q % 2) (div-eq_of_lt (let grows : 2 ^ 64 ≤ 2 ^ i = pow-le-pow_right (omega arith) above in omega arith))

-- a page whose bit isn't set
not_set : (set : PageSet) (page n k : ℕ) → n ≡ slice_index set.bits (page / 64 % 8) → k ≡ page % 64 → bit_at n k ≡ 0 → has_page set page ≡ false
not_set set page n k word place none = rw (← word, ← place, none)

-- no bit of a page's word is set
pub no_page : (set : PageSet) (page : ℕ) → slice_index set.bits (page / 64 % 8) ≡ 0 → has_page set page ≡ false
no_page set page none = ap (λ w. bit_at w (page % 64) == 1) none ∙ ap (λ b. b == 1) (bit_at-zero (page % 64))

-- the pages of one word from a page on, as far as their bits aren't set
none_before : (set : PageSet) (page n d : ℕ) → n ≡ slice_index set.bits (page / 64 % 8) → page % 64 + d ≤ 64 → ((i : ℕ) → i < d → bit_at (n / 2 ^ (page % 64)) i ≡ 0)
    → (lower : ℕ) → page ≤ lower → lower < page + d → has_page set lower ≡ false
none_before set page n d word room none lower from to =
    let i = lower - page in
    let same : page / 64 % 8 ≡ lower / 64 % 8 = omega arith in
    let place : page % 64 + i ≡ lower % 64 = omega arith in
    not_set set lower n (page % 64 + i) (word ∙ ap (slice_index set.bits) same) place (sym (bit_behind n (page % 64) i) ∙ none i (omega arith))

-- where none of them is set
pub word_passed : (set : PageSet) (page i : ℕ) → i ≡ page / 64 % 8 → slice_index set.bits i / 2 ^ (page % 64) ≡ 0
    → (lower : ℕ) → page ≤ lower → lower < page / 64 * 64 + 64 → has_page set lower ≡ false
word_passed set page i is zeros lower from to =
    none_before set page (slice_index set.bits i) (64 - page % 64) (ap (slice_index set.bits) is) (omega arith) (λ k below. ap (λ rest. bit_at rest k) zeros ∙ bit_at-zero k) lower from (omega arith)

-- the lowest that is set is in the same word
pub lowest_near : (n k : ℕ) → n < 2 ^ 64 → n / 2 ^ k < 2 ^ 64 → 0 < n / 2 ^ k → k + trailing_zeros w64 (n / 2 ^ k) < 64
lowest_near n k fits fits' some = elim (cases_lt (k + trailing_zeros w64 (n / 2 ^ k)) 64) [
  | inl below ↦ below
  | inr above ↦ (
      let lowest = bit_at-trailing_zeros w64 (n / 2 ^ k) some fits' in
      let one : bit_at n (k + trailing_zeros w64 (n / 2 ^ k)) ≡ 1 = sym (bit_behind n k (trailing_zeros w64 (n / 2 ^ k))) ∙ lowest.1 in
      absurd (omega (arith, one, no_bit n (k + trailing_zeros w64 (n / 2 ^ k)) fits above)))
]

-- .. and none before it is
pub none_lower : (set : PageSet) (page i : ℕ) → i ≡ page / 64 % 8 → slice_index set.bits i < 2 ^ 64 → slice_index set.bits i / 2 ^ (page % 64) < 2 ^ 64 → 0 < slice_index set.bits i / 2 ^ (page % 64)
    → (lower : ℕ) → page ≤ lower → lower < page + trailing_zeros w64 (slice_index set.bits i / 2 ^ (page % 64)) → has_page set lower ≡ false
none_lower set page i is fits fits' some =
    let n = slice_index set.bits i in
    none_before set page n (trailing_zeros w64 (n / 2 ^ (page % 64))) (ap (slice_index set.bits) is) (omega (arith, lowest_near n (page % 64) fits fits' some))
    (bit_at-trailing_zeros w64 (n / 2 ^ (page % 64)) some fits').2
