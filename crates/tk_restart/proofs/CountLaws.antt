-- How many pages of the pool a test picks, and counts of erases.
use Rattle.std.proofs.Common.{◌≡◌, ℕ, zero, suc, ◌+◌, ◌<◌, ◌≤◌, Bool, true, false, List, arith, refl, ap, ap₂}
use Rattle.std.specs.Prelude.{◌||◌, if◌then◌else◌}
use Rattle.nat_page.specs.Used.{is_used, used_among}
use Rattle.tk_restart.specs.Keeping.{count_where}
use Rattle.tk_restart.specs.Restarting.{worn}
use Rattle.nat_page.proofs.UsedLaws.{at_most}

pub count_none : (test : ℕ → Bool) (first : ℕ) → 0 ≡ count_where test first 0
unfolding count_where
count_none test first = refl

pub count_more : (test : ℕ → Bool) (first k : ℕ) → count_where test first (k + 1) ≡ (if test (first + k) then 1 else 0) + count_where test first k
unfolding count_where
count_more test first k = let one : k + 1 ≡ suc k = omega arith in ap (count_where test first) one

pub count_same : (test test' : ℕ → Bool) (first n : ℕ) → ((page : ℕ) → first ≤ page → page < first + n → test page ≡ test' page) → count_where test first n ≡ count_where test' first n
unfolding count_where
count_same test test' first zero same = refl
count_same test test' first (suc n) same =
    ap₂ (λ b m. (if b then 1 else 0) + m) (same (first + n) (omega arith) (omega arith)) (count_same test test' first n (λ page low high. same page low (omega arith)))

pub count_most : (test : ℕ → Bool) (first n : ℕ) → count_where test first n ≤ n
unfolding count_where
count_most test first zero = omega arith
count_most test first (suc n) = at_most (test (first + n)) n (count_where test first n) (count_most test first n)

-- pages that are used
pub count_used : (words : List ℕ) (first n : ℕ) → used_among words first n ≡ count_where (is_used words) first n
unfolding used_among count_where
count_used words first zero = refl
count_used words first (suc n) = ap (λ m. (if is_used words (first + n) then 1 else 0) + m) (count_used words first n)

-- of two times a page was erased at most once
pub worn_once : (one two : Bool) (n : ℕ) → (one ≡ true → two ≡ false) → worn two (worn one n) ≡ worn (one || two) n
worn_once true true n apart = absurd (let off = apart refl in cc)
worn_once true false n apart = refl
worn_once false two n apart = refl
