-- The first of n numbers from a on that passes a test.
use Rattle.std.proofs.Common.{◌≡◌, ℕ, zero, suc, ◌+◌, ◌<◌, ◌≤◌, arith, ap, ◌∙◌, refl, inl, inr, cond}
use Rattle.std.specs.Prelude.{Bool, true, false, Option, Some, None}
use Rattle.std.specs.List.{range_with_len, find}
use Rattle.std.proofs.lemmas.Bool.{cases_eq}

-- the number passes and is in range
pub record Passes (p : ℕ → Bool) (a n i : ℕ) : Type 0 where
  pub from : a ≤ i
  pub to : i < a + n
  pub test : p i ≡ true

found_at : (p : ℕ → Bool) (a n i : ℕ) (first : Bool) → p a ≡ first → cond first (Some a) (find p (range_with_len (a + 1) n)) ≡ Some i
    → (find p (range_with_len (a + 1) n) ≡ Some i → Passes p (a + 1) n i) → Passes p a (suc n) i
found_at p a n i true is found later =
    let here : a ≡ i = cc in
    record { from = omega arith; to = omega arith; test = rw (← here) is }
found_at p a n i false is found later =
    let rest = later found in
    record { from = omega (arith, rest.from); to = omega (arith, rest.to); test = rest.test }

pub found_passes : (p : ℕ → Bool) (a n i : ℕ) → find p (range_with_len a n) ≡ Some i → Passes p a n i
found_passes p a zero i found = absurd (cc)
found_passes p a (suc n) i found = found_at p a n i (p a) refl found (λ rest. found_passes p (a + 1) n i rest)

missed_at : (p : ℕ → Bool) (a n i : ℕ) (first : Bool) → p a ≡ first → cond first (Some a) (find p (range_with_len (a + 1) n)) ≡ None → a ≤ i → i < a + suc n
    → (find p (range_with_len (a + 1) n) ≡ None → a + 1 ≤ i → p i ≡ false) → p i ≡ false
missed_at p a n i true is missed from to later = absurd (cc)
missed_at p a n i false is missed from to later = elim (cases_eq a i) [ inl same ↦ rw same at is | inr apart ↦ later missed (omega arith) ]

pub missed_passes : (p : ℕ → Bool) (a n i : ℕ) → find p (range_with_len a n) ≡ None → a ≤ i → i < a + n → p i ≡ false
missed_passes p a zero i missed from to = absurd (omega arith)
missed_passes p a (suc n) i missed from to = missed_at p a n i (p a) refl missed from to (λ rest after. missed_passes p (a + 1) n i rest after (omega arith))

-- where tests agree on the range, they find the same number
pub found_same : (p q : ℕ → Bool) (a n : ℕ) → ((i : ℕ) → a ≤ i → i < a + n → p i ≡ q i) → find p (range_with_len a n) ≡ find q (range_with_len a n)
found_same p q a zero agree = refl
found_same p q a (suc n) agree =
    rw (agree a (omega arith) (omega arith), found_same p q (a + 1) n (λ i from to. agree i (omega arith) (omega arith)))

-- where none passes, none is found
pub none_found : (p : ℕ → Bool) (a n : ℕ) → ((i : ℕ) → a ≤ i → i < a + n → p i ≡ false) → find p (range_with_len a n) ≡ None
none_found p a zero fail = refl
none_found p a (suc n) fail =
    rw (fail a (omega arith) (omega arith), none_found p (a + 1) n (λ i from to. fail i (omega arith) (omega arith)))

-- where one alone passes, it is found
only_case : (p : ℕ → Bool) (a n i : ℕ) (answer : Option ℕ) → find p (range_with_len a n) ≡ answer → a ≤ i → i < a + n → p i ≡ true → ((j : ℕ) → a ≤ j → j < a + n → p j ≡ true → j ≡ i)
    → find p (range_with_len a n) ≡ Some i
only_case p a n i None is from to passes alone = absurd (let fails = missed_passes p a n i is from to in cc)
only_case p a n i (Some j) is from to passes alone =
    let found = found_passes p a n j is in
    is ∙ ap (λ k. Some k) (alone j found.from found.to found.test)

pub only_found : (p : ℕ → Bool) (a n i : ℕ) → a ≤ i → i < a + n → p i ≡ true → ((j : ℕ) → a ≤ j → j < a + n → p j ≡ true → j ≡ i) → find p (range_with_len a n) ≡ Some i
only_found p a n i from to passes alone = only_case p a n i (find p (range_with_len a n)) refl from to passes alone
