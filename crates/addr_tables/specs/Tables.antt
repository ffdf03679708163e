-- When the look-aside table and the two-way table are right: the profile's map of 0x0180 to 0x03FF
-- (docs/MOTE.md) says where their entries stand.
use Rattle.std.specs.Prelude.{◌≢◌, ℕ, ◌<◌, List}
use Rattle.flash_words.specs.declared.layout.Layout.{Layout}
use Rattle.sram_layout.specs.Cells.{entry_at, aside_cell, way_cell}
use Rattle.page_index.specs.Entries.{IsEntry}

-- a table's entry, an original address and a place, is empty (its place is 0) or an entry of the pool
abbrev pub IsHeld : Layout → List ℕ → ℕ × ℕ → Type 0
IsHeld layout words entry = entry.1 ≢ 0 → IsEntry layout words entry.0 entry.1

-- each of the 32 entries of the look-aside table, and of the 2 entries in each of the 64 sets of the
-- two-way table
pub record IsTables (layout : Layout) (sram words : List ℕ) : Type 0 where
  pub aside : (i : ℕ) → i < 32 → IsHeld layout words (entry_at sram (aside_cell i))
  pub way : (set which : ℕ) → set < 64 → which < 2 → IsHeld layout words (entry_at sram (way_cell set which))
