-- Bytes that are read one after the other, and kept as they are now.
use Rattle.std.proofs.Common.{◌≡◌, ℕ, suc, zero, ◌+◌, ◌-◌, ◌<◌, ◌≤◌, cond, List, [], ◌++◌, length, sym, ap, ◌∙◌, arith, inl, inr, append-nil}
use Rattle.std.specs.Prelude.{slice_index, slice_set}
use Rattle.std.proofs.lemmas.Bool.{cases_lt, eq-eqb}
use Rattle.std.proofs.lemmas.List.{get_or-set_same, get_or-set_other, length-set}
use Rattle.tk_watch.specs.ChangesText.{change_line, change_text}
use Rattle.tk_watch.specs.Rows.{rows}
use Rattle.tk_watch.proofs.Rows.{rows_on}

pub size_next : (bytes : List ℕ) (i v : ℕ) → length bytes ≡ 64 → length (slice_set bytes i v) ≡ 64
size_next bytes i v size = length-set bytes i v ∙ size

-- one more is read
pub now_next : (memory bytes : List ℕ) (from at i v : ℕ) → i < length bytes → v ≡ slice_index memory (at + i) → ((j : ℕ) → from ≤ j → j < i → slice_index bytes j ≡ slice_index memory (at + j))
    → (j : ℕ) → from ≤ j → j < i + 1 → slice_index (slice_set bytes i v) j ≡ slice_index memory (at + j)
now_next memory bytes from at i v inside value held j above below = elim (cases_lt j i) [
  | inl earlier ↦ get_or-set_other bytes i j v 0 (λ same. omega (arith, same, earlier)) ∙ held j above earlier
  | inr later ↦
      let same : i ≡ j = omega (arith, below, later) in
      rw (← same) (get_or-set_same bytes i v 0 inside ∙ value)
]

-- those behind stay
pub later_next : (bytes old : List ℕ) (i v : ℕ) → ((j : ℕ) → i ≤ j → slice_index bytes j ≡ slice_index old j) → (j : ℕ) → i + 1 ≤ j → slice_index (slice_set bytes i v) j ≡ slice_index old j
later_next bytes old i v held j above = get_or-set_other bytes i j v 0 (λ same. omega (arith, same, above)) ∙ held j (omega (arith, above))

-- and those in front
pub front_next : (bytes old : List ℕ) (from i v : ℕ) → from ≤ i → ((j : ℕ) → j < from → slice_index bytes j ≡ slice_index old j) → (j : ℕ) → j < from
    → slice_index (slice_set bytes i v) j ≡ slice_index old j
front_next bytes old from i v above held j below = get_or-set_other bytes i j v 0 (λ same. omega (arith, same, above, below)) ∙ held j below

-- a byte that is what it was is not told
pub none_changed : (step pc a before now : ℕ) → before ≡ now → change_text step pc a before now ≡ []
none_changed step pc a before now same = ap (λ b. cond b [] (change_line step pc a before now)) (eq-eqb before now same)

-- rows that are empty add nothing
rows_still : (row : ℕ → List ℕ) (from k : ℕ) → ((i : ℕ) → from ≤ i → i < from + k → row i ≡ []) → rows row (from + k) ≡ rows row from
rows_still row from zero still = ap (rows row) (let same : from + 0 ≡ from = omega arith in same)
rows_still row from (suc k) still =
    rows_on row (from + k) (from + suc k) (omega arith)
    ∙ ap (λ t. rows row (from + k) ++ t) (still (from + k) (omega arith) (omega arith))
    ∙ append-nil (rows row (from + k))
    ∙ rows_still row from k (λ i above below. still i above (omega (arith, below)))

-- .. between two numbers
pub rows_between : (row : ℕ → List ℕ) (from to : ℕ) → from ≤ to → ((i : ℕ) → from ≤ i → i < to → row i ≡ []) → rows row to ≡ rows row from
rows_between row from to up still =
    let all : from + (to - from) ≡ to = omega (arith, up) in
    ap (rows row) (sym all) ∙ rows_still row from (to - from) (λ i above below. still i above (omega (arith, below, up)))
