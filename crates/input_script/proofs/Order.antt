-- Numbers in order: an earlier one is greater exactly where the last one is.
use Rattle.std.proofs.Common.{◌≡◌, ℕ, zero, suc, ◌-◌, ◌<◌, ◌≤◌, List, [], ◌∷◌, ◌++◌, length, get_or, ltb, Bool, true, false, arith, ap, ◌∙◌, sym, refl, inl, inr}
use Rattle.std.specs.Prelude.{All, AllPairs}
use Rattle.std.specs.List.{list_any}
use Rattle.std.proofs.lemmas.List.{get_or_default}
use Rattle.std.proofs.lemmas.List.Folds.{list_any_none}
use Rattle.std.proofs.lemmas.List.Quantifiers.{all_pairs_push}
use Rattle.std.proofs.lemmas.Bool.{cases_lt, or_right}
use Rattle.std.proofs.lemmas.Bool.Decides.{nat_tests}

-- the numbers of a list's items don't fall
abbrev pub IsOrdered : {A : Type 0} → (A → ℕ) → List A → Type 0
IsOrdered key xs = AllPairs (λ earlier later. key earlier ≤ key later) xs

-- some item's number is greater
abbrev pub is_below_some : {A : Type 0} → (A → ℕ) → List A → ℕ → Bool
is_below_some key xs n = list_any (λ earlier. ltb n (key earlier)) xs

module _ (A : Type 0) (key : A → ℕ) where
  below_item : (xs : List A) (n k : ℕ) (d : A) → k < length xs → n < key (get_or xs k d) → is_below_some key xs n ≡ true
  below_item [] n k d below less = absurd (omega arith)
  below_item (x ∷ xs) n zero d below less =
      let here : ltb n (key x) ≡ true = grind (arith, nat_tests) in
      rw here refl
  below_item (x ∷ xs) n (suc k) d below less = or_right (ltb n (key x)) (is_below_some key xs n) (below_item xs n k d (omega arith) less)

  -- where none is greater, each is at most this
  none_below : (xs : List A) (n : ℕ) → is_below_some key xs n ≡ false → (k : ℕ) (d : A) → k < length xs → key (get_or xs k d) ≤ n
  none_below xs n none k d below = elim (cases_lt n (key (get_or xs k d))) [
    | inl late ↦ let some = below_item xs n k d below late in absurd (cc)
    | inr fine ↦ fine
  ]

  pub ordered_push : (xs : List A) (x : A) → IsOrdered key xs → is_below_some key xs (key x) ≡ false → IsOrdered key (xs ++ x ∷ [])
  ordered_push xs x ordered none = all_pairs_push (λ (earlier : A) (later : A). key earlier ≤ key later) xs x ordered (none_below xs (key x) none)

  -- in order, the last item has the greatest number
  at_most_last : (xs : List A) (d : A) → IsOrdered key xs → (k : ℕ) → k < length xs → key (get_or xs k d) ≤ key (get_or xs (length xs - 1) d)
  at_most_last xs d ordered k below = elim (cases_lt k (length xs - 1)) [
    | inl earlier ↦ ordered k (length xs - 1) d earlier (omega arith)
    | inr same ↦
        let place : k ≡ length xs - 1 = omega arith in
        omega (arith, ap (λ i. key (get_or xs i d)) place)
  ]

  -- so a number is below some item's exactly where it is below the last one's
  pub late_by_last : (xs : List A) (n m : ℕ) (d : A) → IsOrdered key xs → 1 ≤ length xs → m ≡ key (get_or xs (length xs - 1) d) → ltb n m ≡ is_below_some key xs n
  late_by_last xs n m d ordered some last = elim (cases_lt n m) [
    | inl late ↦
        let less : ltb n m ≡ true = grind (arith, nat_tests) in
        less ∙ sym (below_item xs n (length xs - 1) d (omega arith) (omega (arith, last)))
    | inr fine ↦
        let ge : ltb n m ≡ false = grind (arith, nat_tests) in
        let all : All (λ x. ltb n (key x) ≡ false) xs = λ k e below.
        let there = at_most_last xs d ordered k below in
        let same : key (get_or xs k e) ≡ key (get_or xs k d) = ap key (get_or_default xs k e d below) in
        grind (arith, nat_tests) in
        ge ∙ sym (list_any_none (λ x. ltb n (key x)) xs all)
  ]
