-- Sums over tasks, and over the first of some.
use Rattle.std.proofs.Common.{◌≡◌, ℕ, zero, suc, ◌+◌, ◌*◌, ◌≤◌, List, [], ◌∷◌, length, refl, sym, ap, ◌∙◌, arith}
use Rattle.std.specs.Prelude.{slice_get, slice_set, sum_by, Some}
use Rattle.std.proofs.lemmas.List.Sums.{sum_by-cons}
use Rattle.parked_tasks.specs.Counting.{sum_to}

to_suc : {T : Type 0} → (f : T → ℕ) (k : ℕ) (xs : List T) (x : T) → slice_get xs k ≡ Some x → sum_to f (suc k) xs ≡ sum_to f k xs + f x
to_suc f k [] x is = absurd (cc)
to_suc f zero (y ∷ xs) x is =
    let its : y ≡ x = cc in
    let same : f y ≡ f x = ap f its in
    omega arith
to_suc f (suc k) (y ∷ xs) x is = let rest = to_suc f k xs x is in omega arith

-- one more
pub to_next : {T : Type 0} → (f : T → ℕ) (k : ℕ) (xs : List T) (x : T) → slice_get xs k ≡ Some x → sum_to f (k + 1) xs ≡ sum_to f k xs + f x
to_next f k xs x is =
    let next : k + 1 ≡ suc k = omega arith in
    ap (λ j. sum_to f j xs) next ∙ to_suc f k xs x is

-- all
pub to_all : {T : Type 0} → (f : T → ℕ) (xs : List T) → sum_to f (length xs) xs ≡ sum_by f xs
to_all f [] = refl
to_all f (x ∷ xs) = ap (λ n. f x + n) (to_all f xs) ∙ sym (sum_by-cons f x xs)

-- each is at most so much
pub to_most : {T : Type 0} → (f : T → ℕ) (k : ℕ) (xs : List T) (most : ℕ) → ((i : ℕ) (x : T) → slice_get xs i ≡ Some x → f x ≤ most) → sum_to f k xs ≤ most * k
to_most f zero xs most few = omega arith
to_most f (suc k) [] most few = omega arith
to_most f (suc k) (x ∷ xs) most few = omega (arith, few 0 x refl, to_most f k xs most (λ i y is. few (suc i) y is))

-- with another in the place of one
pub sum_set : {T : Type 0} → (f : T → ℕ) (xs : List T) (i : ℕ) (x y : T) → slice_get xs i ≡ Some x → sum_by f (slice_set xs i y) + f x ≡ sum_by f xs + f y
sum_set f [] i x y is = absurd (cc)
sum_set f (z ∷ xs) zero x y is =
    let its : z ≡ x = cc in
    let same : f z ≡ f x = ap f its in
    omega (arith, same, sum_by-cons f y xs, sum_by-cons f z xs)
sum_set f (z ∷ xs) (suc i) x y is = omega (arith, sum_set f xs i x y is, sum_by-cons f z (slice_set xs i y), sum_by-cons f z xs)

-- one is at most as much as all
pub sum_has : {T : Type 0} → (f : T → ℕ) (xs : List T) (i : ℕ) (x : T) → slice_get xs i ≡ Some x → f x ≤ sum_by f xs
sum_has f [] i x is = absurd (cc)
sum_has f (y ∷ xs) zero x is =
    let its : y ≡ x = cc in
    let same : f y ≡ f x = ap f its in
    omega (arith, same, sum_by-cons f y xs)
sum_has f (y ∷ xs) (suc i) x is = omega (arith, sum_has f xs i x is, sum_by-cons f y xs)
