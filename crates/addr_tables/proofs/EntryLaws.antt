-- The 160 entries of both tables, numbered in one row, after a write of one.
use Rattle.std.proofs.Common.{◌≡◌, ℕ, ◌+◌, ◌-◌, ◌*◌, ◌/◌, ◌%◌, ◌<◌, ◌≤◌, ◌⊎◌, List, length, arith, ap, subst, sym, ◌∙◌, inl, inr, ⊎_elim}
use Rattle.std.specs.Prelude.{◌≢◌}
use Rattle.std.proofs.lemmas.Bool.{cases_eq, cases_lt}
use Rattle.flash_words.specs.declared.layout.Layout.{Layout}
use Rattle.sram_layout.specs.Bytes.{byte_count, byte_at}
use Rattle.sram_layout.specs.Cells.{entry_at, with_entry, way_cell}
use Rattle.sram_layout.proofs.Laws.{byte_out_of_word}
use Rattle.sram_layout.proofs.CellLaws.{length-with_entry, entry_same, entry_other}
use Rattle.addr_tables.specs.Tables.{IsHeld, IsTables}
use Rattle.addr_tables.specs.Changes.{entry_cell, KeepsRest}
use Rattle.base.proofs.Numbers.{unequal}

-- a set's entries in that row
pub way_cell_is : (set which : ℕ) → way_cell set which ≡ entry_cell (32 + 2 * set + which)
way_cell_is set which = omega arith

-- a number of the row is the look-aside table's, or a set's
pub data IsNumber (k : ℕ) : Type 0 where
  Aside : k < 32 → IsNumber k
  Way : (set which : ℕ) → set < 64 → which < 2 → 32 + 2 * set + which ≡ k → IsNumber k

pub number_of : (k : ℕ) → k < 160 → IsNumber k
number_of k below = ⊎_elim Aside (λ way. Way ((k - 32) / 2) ((k - 32) % 2) (omega arith) (omega arith) (omega arith)) (cases_lt k 32)

-- two entries of the row don't overlap
pub apart_cells : (k j : ℕ) → j ≢ k → (entry_cell j + 4 ≤ entry_cell k) ⊎ (entry_cell k + 4 ≤ entry_cell j)
apart_cells k j apart = ⊎_elim (λ lower. inl (omega arith)) (λ level. inr (omega (arith, unequal j k apart level))) (cases_lt j k)

-- the entry that is written, and another
pub written : (m : List ℕ) (k t place : ℕ) → length m ≡ byte_count → k < 160 → entry_at (with_entry m (entry_cell k) t place) (entry_cell k) ≡ (t, place)
written m k t place long below = entry_same m (entry_cell k) t place (omega arith) (omega arith)

pub not_written : (m : List ℕ) (k j t place : ℕ) → j ≢ k → entry_at (with_entry m (entry_cell k) t place) (entry_cell j) ≡ entry_at m (entry_cell j)
not_written m k j t place apart = entry_other m (entry_cell k) (entry_cell j) t place (omega arith) (omega arith) (apart_cells k j apart)

-- a byte outside the entry that is written
pub byte_not_written : (m : List ℕ) (a b t place : ℕ) → 0x0100 ≤ a → 0x0100 ≤ b → (b < a) ⊎ (a + 4 ≤ b) → byte_at (with_entry m a t place) b ≡ byte_at m b
byte_not_written m a b t place from from' outside =
    byte_out_of_word _ _ _ _ (omega arith) from' (λ same. elim outside [ inl low ↦ omega arith | inr high ↦ omega arith ]) (λ same. elim outside [ inl low ↦ omega arith | inr high ↦ omega arith ])
    ∙ byte_out_of_word m a b t from from' (λ same. elim outside [ inl low ↦ omega arith | inr high ↦ omega arith ]) (λ same. elim outside [ inl low ↦ omega arith | inr high ↦ omega arith ])

-- the bytes outside both tables
pub rest_written : (m : List ℕ) (k t place : ℕ) → k < 160 → KeepsRest m (with_entry m (entry_cell k) t place)
rest_written m k t place below = record {
  size = length-with_entry m (entry_cell k) t place;
  rest = λ a from outside. byte_not_written m (entry_cell k) a t place (omega arith) from (elim outside [ inl low ↦ inl (omega arith) | inr high ↦ inr (omega arith) ]);
}

-- what holds of each entry
abbrev pub AllEntries : (ℕ × ℕ → Type 0) → List ℕ → Type 0
AllEntries P m = (k : ℕ) → k < 160 → P (entry_at m (entry_cell k))

pub all_written : (P : ℕ × ℕ → Type 0) (m : List ℕ) (k t place : ℕ) → length m ≡ byte_count → k < 160 → P (t, place) → AllEntries P m → AllEntries P (with_entry m (entry_cell k) t place)
all_written P m k t place long below here all = λ j near. elim (cases_eq j k) [
  | inl same ↦ rw same (subst P (sym (written m k t place long below)) here)
  | inr apart ↦ subst P (sym (not_written m k j t place apart)) (all j near)
]

-- the tables are right where each entry in the row is
at_cell : (P : ℕ × ℕ → Type 0) (m : List ℕ) (a b : ℕ) → a ≡ b → P (entry_at m a) → P (entry_at m b)
at_cell P m a b same holds = let Q : ℕ → Type 0 = λ c. P (entry_at m c) in subst Q same holds

pub tables_all : (layout : Layout) (sram words : List ℕ) → IsTables layout sram words → AllEntries (IsHeld layout words) sram
tables_all layout sram words tables k below = elim (number_of k below) [
  | Aside aside ↦ tables.aside k aside
  | Way set which near near' same ↦ at_cell (IsHeld layout words) sram (way_cell set which) (entry_cell k) (way_cell_is set which ∙ ap entry_cell same) (tables.way set which near near')
]

pub all_tables : (layout : Layout) (sram words : List ℕ) → AllEntries (IsHeld layout words) sram → IsTables layout sram words
all_tables layout sram words all = record {
  aside = λ i below. all i (omega arith);
  way = λ set which below below'.
      at_cell (IsHeld layout words) sram (entry_cell (32 + 2 * set + which)) (way_cell set which) (sym (way_cell_is set which)) (all (32 + 2 * set + which) (omega arith));
}
