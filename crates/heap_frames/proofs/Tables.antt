-- A table's items, and when two tables are the same.
use Rattle.std.proofs.Common.{◌≡◌, ℕ, ◌<◌, List, length, get_or, set, arith, ◌∙◌, sym, inl, inr}
use Rattle.std.specs.Prelude.{◌≢◌, replicate}
use Rattle.std.proofs.lemmas.List.{same_lists, length-set, get_or-set_same, get_or-set_other, length-replicate, get_or-replicate}
use Rattle.std.proofs.lemmas.List.FromFn.{length-map-range_with_len, get_or-map-range_with_len}
use Rattle.std.proofs.lemmas.Bool.{cases_eq}
use Rattle.heap_frames.specs.Frames.{table}

pub length-table : {A : Type 0} (n : ℕ) (f : ℕ → A) → length (table n f) ≡ n
unfolding table
length-table n f = length-map-range_with_len f 0 n

pub table_item : {A : Type 0} (n : ℕ) (f : ℕ → A) (k : ℕ) (d : A) → k < n → get_or (table n f) k d ≡ f k
unfolding table
table_item n f k d below = get_or-map-range_with_len f 0 n k k d below (omega arith)

-- a list of n items with the table's values
pub table_is : {A : Type 0} (n : ℕ) (f : ℕ → A) (xs : List A) → length xs ≡ n → ((k : ℕ) (d : A) → k < n → get_or xs k d ≡ f k) → table n f ≡ xs
table_is n f xs long agree =
    same_lists (table n f) xs (length-table n f ∙ sym long) (λ k d inside.
    let below : k < n = omega (arith, length-table n f) in
    table_item n f k d below ∙ sym (agree k d below))

pub table_same : {A : Type 0} (n : ℕ) (f g : ℕ → A) → ((k : ℕ) → k < n → f k ≡ g k) → table n f ≡ table n g
table_same n f g agree = table_is n f (table n g) (length-table n g) (λ k d below. table_item n g k d below ∙ sym (agree k below))

-- one item replaced
pub table_set : {A : Type 0} (n : ℕ) (f g : ℕ → A) (i : ℕ) (x : A) → i < n → g i ≡ x → ((k : ℕ) → k < n → k ≢ i → g k ≡ f k) → table n g ≡ set (table n f) i x
table_set n f g i x inside there elsewhere =
    table_is n g (set (table n f) i x) (length-set (table n f) i x ∙ length-table n f) (λ k d below.
    elim (cases_eq k i) [
      | inl same ↦ rw same (get_or-set_same (table n f) i x d (omega (arith, length-table n f)) ∙ sym there)
      | inr apart ↦ get_or-set_other (table n f) i k x d apart ∙ table_item n f k d below ∙ sym (elsewhere k below apart)
    ])

-- all items alike
pub table_of_one : {A : Type 0} (n : ℕ) (f : ℕ → A) (x : A) → ((k : ℕ) → k < n → f k ≡ x) → table n f ≡ replicate n x
table_of_one n f x agree = table_is n f (replicate n x) (length-replicate n x) (λ k d below. get_or-replicate n k x d below ∙ sym (agree k below))
