-- The words of a page where power was lost, one after another.
use Rattle.std.proofs.Common.{◌≡◌, ℕ, zero, suc, ◌+◌, ◌/◌, ◌%◌, ◌<◌, List, length, slice_index, refl, sym, ap, ◌∙◌, arith}
use Rattle.std.specs.Prelude.{◌^◌}
use Rattle.std.proofs.lemmas.Grind.{same_number_lists}
use Rattle.base.specs.Sequences.{next_number}
use Rattle.tk_restart.specs.Losing.{torn_words}

-- the number k places behind the first that follows x
abbrev pub number_at : (x k : ℕ) → ℕ
number_at x zero = next_number x
number_at x (suc k) = next_number (number_at x k)

pub number_next : (x k : ℕ) → number_at x (k + 1) ≡ next_number (number_at x k)
number_next x k = let e : k + 1 ≡ suc k = omega arith in ap (number_at x) e

-- of a number its lower 32 bits are enough
pub next_low : (x : ℕ) → next_number (x % 4294967296) ≡ next_number x
next_low x = omega arith

number_moved : (x k : ℕ) → number_at (next_number x) k ≡ next_number (number_at x k)
number_moved x zero = refl
number_moved x (suc k) = ap next_number (number_moved x k)

pub length_torn : (x n : ℕ) → length (torn_words x n) ≡ n
unfolding torn_words
length_torn x zero = refl
length_torn x (suc n) = ap suc (length_torn (next_number x) n)

pub torn_word : (x n k : ℕ) → k < n → slice_index (torn_words x n) k ≡ number_at x k / 2 ^ 16
unfolding torn_words
torn_word x zero k below = absurd (omega (arith, below))
torn_word x (suc n) zero below = refl
torn_word x (suc n) (suc k) below = torn_word (next_number x) n k (omega (arith, below)) ∙ ap (λ y. y / 2 ^ 16) (number_moved x k)

-- a page that has them
pub page_torn : (x : ℕ) (words : List ℕ) → length words ≡ 128 → ((k : ℕ) → k < 128 → slice_index words k ≡ number_at x k / 2 ^ 16) → words ≡ torn_words x 128
page_torn x words long done =
    same_number_lists words (torn_words x 128) (long ∙ sym (length_torn x 128)) (λ k within. let below : k < 128 = omega (arith, within, long) in done k below ∙ sym (torn_word x 128 k below))
