-- As many pages have a slot as slots are given.
use Rattle.std.proofs.Common.{◌≡◌, ℕ, zero, suc, ◌+◌, ◌<◌, ◌≤◌, List, arith, ap, ap₂, ◌∙◌, sym, refl, inl, inr, cond, map, subst}
use Rattle.std.specs.Prelude.{◌≢◌, Bool, true, false, ◌==◌, nat_lt}
use Rattle.std.specs.List.{range_with_len, count_by}
use Rattle.std.proofs.lemmas.List.FromFn.{sum_by-map-range_with_len_more}
use Rattle.std.proofs.lemmas.Bool.{cases_eq, eq-eqb, lt-ltb, le-ltb}
use Rattle.std.proofs.lemmas.Bool.Decides.{nat_tests}
use Rattle.heap_frames.specs.Frames.{table, pages, given, slot_of, has_slot}
use Rattle.heap_frames.specs.Paged.{IsPaged}
use Rattle.heap_frames.proofs.FrameLaws.{slot_held, slot_absent, other_number}

-- how many of the first n numbers pass a test
number : ℕ → (ℕ → Bool) → ℕ
number zero test = 0
number (suc n) test = number n test + cond (test n) 1 0

number_counts : (n : ℕ) (test : ℕ → Bool) → count_by (λ (has : Bool). has) (table n test) ≡ number n test
unfolding table number
number_counts zero test = refl
number_counts (suc n) test =
    let one : n + 1 ≡ suc n = omega arith in
    subst (λ k. count_by (λ (has : Bool). has) (map test (range_with_len 0 k)) ≡ number n test + cond (test n) 1 0) one
    (sum_by-map-range_with_len_more (λ (has : Bool). cond has 1 0) test 0 n n (omega arith) ∙ ap (λ k. k + cond (test n) 1 0) (number_counts n test))

-- tests that agree count alike
number_same : (n : ℕ) (f g : ℕ → Bool) → ((k : ℕ) → k < n → f k ≡ g k) → number n f ≡ number n g
unfolding number
number_same zero f g agree = refl
number_same (suc n) f g agree = ap₂ (λ (k : ℕ) (b : Bool). k + cond b 1 0) (number_same n f g (λ k below. agree k (omega arith))) (agree n (omega arith))

number_none : (n : ℕ) (f : ℕ → Bool) → ((k : ℕ) → k < n → f k ≡ false) → number n f ≡ 0
unfolding number
number_none zero f fail = refl
number_none (suc n) f fail = ap₂ (λ (k : ℕ) (b : Bool). k + cond b 1 0) (number_none n f (λ k below. fail k (omega arith))) (fail n (omega arith))

-- one number alone passes
number_one : (n : ℕ) (f : ℕ → Bool) (i : ℕ) → i < n → f i ≡ true → ((k : ℕ) → k < n → k ≢ i → f k ≡ false) → number n f ≡ 1
unfolding number
number_one zero f i below passes alone = absurd (omega arith)
number_one (suc n) f i below passes alone = elim (cases_eq i n) [
  | inl same ↦ ap₂ (λ (k : ℕ) (b : Bool). k + cond b 1 0) (number_none n f (λ k low. alone k (omega arith) (λ equal. omega arith))) (rw same at passes)
  | inr apart ↦
      ap₂ (λ (k : ℕ) (b : Bool). k + cond b 1 0) (number_one n f i (omega arith) passes (λ k low other. alone k (omega arith) other)) (alone n (omega arith) (λ equal. apart (sym equal)))
]

-- a test that two tests share out
number_sum : (n : ℕ) (f g h : ℕ → Bool) → ((k : ℕ) → k < n → cond (f k) 1 0 ≡ cond (g k) 1 0 + cond (h k) 1 0) → number n f ≡ number n g + number n h
unfolding number
number_sum zero f g h shared = refl
number_sum (suc n) f g h shared = omega (arith, number_sum n f g h (λ k below. shared k (omega arith)), shared n (omega arith))

below_suc : (a b : ℕ) → cond (nat_lt a (suc b)) 1 0 ≡ cond (nat_lt a b) 1 0 + cond (a == b) 1 0
below_suc a b = grind (arith, nat_tests)

-- as many pages have a slot below g as there are such slots
number_below : (m : List ℕ) (w : List (List ℕ)) (g : ℕ) → IsPaged m w → g ≤ given m → number 256 (λ page. nat_lt (slot_of m page) g) ≡ g
number_below m w zero paged fits = number_none 256 (λ page. nat_lt (slot_of m page) zero) (λ page below. le-ltb (slot_of m page) 0 (omega arith))
number_below m w (suc g) paged fits =
    let there = paged.each g (omega arith) in
    let has : has_slot m there.0 ≡ true = slot_held m there.0 (λ same. omega (arith, there.2, paged.room, paged.sized.swap.count)) in
    let one : number 256 (λ page. slot_of m page == g) ≡ 1 =
    number_one 256 (λ page. slot_of m page == g) there.0 there.1 (eq-eqb (slot_of m there.0) g there.2) (λ page below apart.
    other_number (slot_of m page) g (λ same. apart (sym (paged.once there.0 page there.1 below has (there.2 ∙ sym same))))) in
    number_sum 256 (λ page. nat_lt (slot_of m page) (suc g)) (λ page. nat_lt (slot_of m page) g) (λ page. slot_of m page == g) (λ page below. below_suc (slot_of m page) g)
    ∙ ap₂ (λ a b. a + b) (number_below m w g paged (omega arith)) one
    ∙ omega arith

has_by : (m : List ℕ) (w : List (List ℕ)) (page : ℕ) (has : Bool) → has_slot m page ≡ has → IsPaged m w → page < 256 → has_slot m page ≡ nat_lt (slot_of m page) (given m)
has_by m w page true is paged below = is ∙ sym (lt-ltb (slot_of m page) (given m) (paged.slots page below is))
has_by m w page false is paged below =
    is ∙ sym (le-ltb (slot_of m page) (given m) (omega (arith, slot_absent m page is, paged.room, paged.sized.swap.count)))

pub number_of_pages : (m : List ℕ) (w : List (List ℕ)) → IsPaged m w → count_by (λ (has : Bool). has) (pages m) ≡ given m
unfolding pages
number_of_pages m w paged =
    number_counts 256 (has_slot m)
    ∙ number_same 256 (has_slot m) (λ page. nat_lt (slot_of m page) (given m)) (λ page below. has_by m w page (has_slot m page) refl paged below)
    ∙ number_below m w (given m) paged (omega arith)
