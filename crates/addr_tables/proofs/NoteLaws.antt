-- What a place that was noted leaves in the tables.
use Rattle.std.proofs.Common.{◌≡◌, ℕ, ◌+◌, ◌*◌, ◌%◌, ◌<◌, Bool, true, false, cond, List, length, arith, refl, ap, ap₂, subst, sym, ◌∙◌, inl, inr, eq-eqb, ne_eqb}
use Rattle.std.specs.Prelude.{◌≢◌, ◌==◌, ◌&&◌, ◌||◌}
use Rattle.std.proofs.lemmas.Bool.{cases_eq, and_right}
use Rattle.flash_words.specs.declared.layout.Layout.{Layout}
use Rattle.sram_layout.specs.Bytes.{byte_count}
use Rattle.sram_layout.specs.Cells.{entry_at, with_entry}
use Rattle.sram_layout.proofs.CellLaws.{length-with_entry}
use Rattle.page_index.specs.Entries.{IsEntry}
use Rattle.addr_tables.specs.Tables.{IsHeld, IsTables}
use Rattle.addr_tables.specs.Hits.{aside_of, way_of}
use Rattle.addr_tables.specs.Changes.{is_pair, moved_to_front, noted_in_set, noted, entry_cell, KeepsRest, SetHas, Notes}
use Rattle.sram_layout.proofs.RegionLaws.{outside_same, outside_then}
use Rattle.addr_tables.proofs.EntryLaws.{way_cell_is, written, not_written, rest_written, AllEntries, all_written, tables_all, all_tables}

-- the number of the first entry of t's set in the row
abbrev first_of_set : ℕ → ℕ
first_of_set t = 32 + 2 * (t % 64)

first_is : (t : ℕ) → way_of t 0 ≡ entry_cell (first_of_set t)
first_is t = omega arith

second_is : (t : ℕ) → way_of t 1 ≡ entry_cell (first_of_set t + 1)
second_is t = omega arith

-- moving to the front, by those numbers
abbrev moved : List ℕ → ℕ → ℕ → List ℕ
moved m t place =
    let k = first_of_set t in
    let first = entry_at m (entry_cell k) in
    with_entry (with_entry m (entry_cell (k + 1)) first.0 first.1) (entry_cell k) t place

moved_is : (m : List ℕ) (t place : ℕ) → moved_to_front m t place ≡ moved m t place
moved_is m t place =
    let P : ℕ → ℕ → List ℕ = λ a b. (let first = entry_at m a in with_entry (with_entry m b first.0 first.1) a t place) in
    ap (λ a. P a (way_of t 1)) (first_is t) ∙ ap (P (entry_cell (first_of_set t))) (second_is t)

length-moved : (m : List ℕ) (t place : ℕ) → length (moved m t place) ≡ length m
length-moved m t place = length-with_entry _ _ t place ∙ length-with_entry m _ _ _

all_moved : (P : ℕ × ℕ → Type 0) (m : List ℕ) (t place : ℕ) → length m ≡ byte_count → P (t, place) → AllEntries P m → AllEntries P (moved m t place)
all_moved P m t place long here all =
    let k = first_of_set t in
    let near : k + 1 < 160 = omega arith in
    let first = entry_at m (entry_cell k) in
    let second = all_written P m (k + 1) first.0 first.1 long near (all k (omega arith)) all in
    all_written P (with_entry m (entry_cell (k + 1)) first.0 first.1) k t place (length-with_entry m (entry_cell (k + 1)) first.0 first.1 ∙ long) (omega arith) here second

rest_moved : (m : List ℕ) (t place : ℕ) → KeepsRest m (moved m t place)
rest_moved m t place =
    let k = first_of_set t in
    let near : k + 1 < 160 = omega arith in
    let first = entry_at m (entry_cell k) in
    outside_then (rest_written m (k + 1) first.0 first.1 near) (rest_written _ k t place (omega arith))

-- what holds of a set that stays and of one that moves holds of the set with the pair noted
set_by : (P : List ℕ → Type 0) (m : List ℕ) (t place : ℕ) → P m → P (moved m t place) → P (noted_in_set m t place)
unfolding noted_in_set
set_by P m t place stays moves =
    elim (is_pair (entry_at m (way_of t 0)) t place || is_pair (entry_at m (way_of t 1)) t place) as (λ b. P (cond b m (moved_to_front m t place))) [
      | true ↦ stays
      | false ↦ subst P (sym (moved_is m t place)) moves
    ]

length-noted_in_set : (m : List ℕ) (t place : ℕ) → length (noted_in_set m t place) ≡ length m
length-noted_in_set m t place = set_by (λ w. length w ≡ length m) m t place refl (length-moved m t place)

-- the two writes of a note
pub noted_is : (m set new : List ℕ) (t place : ℕ) → set ≡ noted_in_set m t place → new ≡ with_entry set (aside_of t) t place → new ≡ noted m t place
unfolding noted
noted_is m set new t place in_set aside = aside ∙ ap (λ w. with_entry w (aside_of t) t place) in_set

-- both tables: what holds of each entry, and what holds of the pair, holds of each entry still
pub all_noted : (P : ℕ × ℕ → Type 0) (m : List ℕ) (t place : ℕ) → length m ≡ byte_count → P (t, place) → AllEntries P m → AllEntries P (noted m t place)
unfolding noted
all_noted P m t place long here all =
    all_written P (noted_in_set m t place) (t % 32) t place (length-noted_in_set m t place ∙ long) (omega arith) here (set_by (AllEntries P) m t place all (all_moved P m t place long here all))

-- no byte outside the tables changes, and the length stays
pub rest_noted : (m : List ℕ) (t place : ℕ) → KeepsRest m (noted m t place)
unfolding noted
rest_noted m t place =
    outside_then (set_by (KeepsRest m) m t place (outside_same m) (rest_moved m t place)) (rest_written (noted_in_set m t place) (t % 32) t place (omega arith))

-- the tables stay right where the place is that of t's entry
pub noted_tables : (layout : Layout) (m words : List ℕ) (t place : ℕ) → length m ≡ byte_count → IsEntry layout words t place → IsTables layout m words → IsTables layout (noted m t place) words
noted_tables layout m words t place long entry tables =
    all_tables layout (noted m t place) words (all_noted (IsHeld layout words) m t place long (λ full. entry) (tables_all layout m words tables))

-- tests of pairs
pair_refl : (t place : ℕ) → is_pair (t, place) t place ≡ true
pair_refl t place = ap (λ b. b && (place == place)) (eq-eqb t t refl) ∙ eq-eqb place place refl

pair_true : (entry : ℕ × ℕ) (t place : ℕ) → entry ≡ (t, place) → is_pair entry t place ≡ true
pair_true entry t place same = let P : ℕ × ℕ → Type 0 = λ e. is_pair e t place ≡ true in subst P (sym same) (pair_refl t place)

pair_false : (entry : ℕ × ℕ) (t place : ℕ) → ¬ (entry ≡ (t, place)) → is_pair entry t place ≡ false
pair_false (a, v) t place apart = elim (cases_eq a t) [
  | inl same ↦ elim (cases_eq v place) [
    | inl same' ↦ absurd (apart (ap₂ (λ x y. let pair : ℕ × ℕ = (x, y) in pair) same same'))
    | inr other ↦ and_right (a == t) (v == place) (ne_eqb v place other)
  ]
  | inr other ↦ ap (λ b. b && (v == place)) (ne_eqb a t other)
]

either_true : (b : Bool) (m m' : List ℕ) → cond (b || true) m m' ≡ m
either_true true m m' = refl
either_true false m m' = refl

module _ (m : List ℕ) (t place : ℕ) where
  -- the set where it has the pair, and where it hasn't
  stays_by : SetHas m t place → noted_in_set m t place ≡ m
  unfolding noted_in_set
  stays_by either = elim either [
    | inl first ↦ ap (λ b. cond (b || is_pair (entry_at m (way_of t 1)) t place) m (moved_to_front m t place)) (pair_true (entry_at m (way_of t 0)) t place first)
    | inr second ↦ ap (λ b. cond (is_pair (entry_at m (way_of t 0)) t place || b) m (moved_to_front m t place)) (pair_true _ _ _ second)
        ∙ either_true (is_pair (entry_at m (way_of t 0)) t place) m (moved_to_front m t place)
  ]

  moves_by : ¬ SetHas m t place → noted_in_set m t place ≡ moved m t place
  unfolding noted_in_set
  moves_by neither =
      ap (λ b. cond (b || is_pair (entry_at m (way_of t 1)) t place) m (moved_to_front m t place)) (pair_false (entry_at m (way_of t 0)) t place (λ same. neither (inl same)))
      ∙ ap (λ b. cond b m (moved_to_front m t place)) (pair_false (entry_at m (way_of t 1)) t place (λ same. neither (inr same)))
      ∙ moved_is m t place

  -- an entry of the two-way table after the look-aside entry is written
  aside_apart : (which : ℕ) → which < 2 → entry_at (with_entry m (aside_of t) t place) (way_of t which) ≡ entry_at m (way_of t which)
  aside_apart which below = rw (way_cell_is (t % 64) which) (not_written m (t % 32) (32 + 2 * (t % 64) + which) t place (λ same. omega arith))

  moved_first : length m ≡ byte_count → entry_at (moved m t place) (way_of t 0) ≡ (t, place)
  moved_first long =
      let k = first_of_set t in
      let first = entry_at m (entry_cell k) in
      ap (entry_at (moved m t place)) (first_is t) ∙ written _ _ _ _ (length-with_entry m (entry_cell (k + 1)) first.0 first.1 ∙ long) (omega arith)

  moved_second : length m ≡ byte_count → entry_at (moved m t place) (way_of t 1) ≡ entry_at m (way_of t 0)
  moved_second long =
      let k = first_of_set t in
      let first = entry_at m (entry_cell k) in
      ap (entry_at (moved m t place)) (second_is t)
      ∙ not_written (with_entry m (entry_cell (k + 1)) first.0 first.1) k (k + 1) t place (λ same. omega arith)
      ∙ written m (k + 1) first.0 first.1 long (omega arith)
      ∙ ap (entry_at m) (sym (first_is t))

  moved_other : (j : ℕ) → j ≢ first_of_set t → j ≢ first_of_set t + 1 → entry_at (moved m t place) (entry_cell j) ≡ entry_at m (entry_cell j)
  moved_other j apart apart' =
      let k = first_of_set t in
      let first = entry_at m (entry_cell k) in
      not_written (with_entry m (entry_cell (k + 1)) first.0 first.1) k j t place apart ∙ not_written m (k + 1) j first.0 first.1 apart'

-- entry by entry
pub noted_notes : (m : List ℕ) (t place : ℕ) → length m ≡ byte_count → Notes t place m (noted m t place)
unfolding noted
noted_notes m t place long =
    let set = noted_in_set m t place in
    record {
      aside = written set (t % 32) t place (length-noted_in_set m t place ∙ long) (omega arith);
      stays = λ either which below. aside_apart set t place which below ∙ ap (λ w. entry_at w (way_of t which)) (stays_by m t place either);
      first = λ neither. aside_apart set t place 0 (omega arith) ∙ ap (λ w. entry_at w (way_of t 0)) (moves_by m t place neither) ∙ moved_first m t place long;
      second = λ neither. aside_apart set t place 1 (omega arith) ∙ ap (λ w. entry_at w (way_of t 1)) (moves_by m t place neither) ∙ moved_second m t place long;
      others = λ k below aside first second.
          let P : List ℕ → Type 0 = λ w. entry_at w (entry_cell k) ≡ entry_at m (entry_cell k) in
          not_written set (t % 32) k t place (λ same. aside (ap entry_cell same))
          ∙ set_by P m t place refl (moved_other m t place k (λ same. first (ap entry_cell same ∙ sym (first_is t))) (λ same. second (ap entry_cell same ∙ sym (second_is t))));
      rest = rest_noted m t place;
    }
