-- When the tables are right, and stay right.
use Rattle.std.proofs.Common.{◌≡◌, ℕ, ◌+◌, ◌*◌, ◌<◌, ◌≤◌, List, arith, sym, ap₂, subst, inl}
use Rattle.flash_words.specs.declared.layout.Layout.{Layout}
use Rattle.sram_layout.specs.Bytes.{byte_at, data_word_at}
use Rattle.sram_layout.specs.Cells.{entry_at, aside_cell, way_cell}
use Rattle.sram_layout.specs.Boot.{at_boot}
use Rattle.sram_layout.proofs.BootLaws.{boot_zero}
use Rattle.page_index.specs.Entries.{IsEntry}
use Rattle.addr_tables.specs.Tables.{IsHeld, IsTables}

pub boot_word : (a : ℕ) → 0x0100 ≤ a → a + 1 < 0x0400 → data_word_at at_boot a ≡ 0
unfolding data_word_at
boot_word a from to = ap₂ (λ low high. low + 256 * high) (boot_zero a from (omega arith) (inl (omega arith))) (boot_zero (a + 1) (omega arith) (omega arith) (inl (omega arith)))

-- at boot every entry is empty
pub boot_tables : (layout : Layout) (words : List ℕ) → IsTables layout at_boot words
boot_tables layout words = record {
  aside = λ i below full. absurd (full (boot_word (aside_cell i + 2) (omega arith) (omega arith)));
  way = λ set which below below' full. absurd (full (boot_word (way_cell set which + 2) (omega arith) (omega arith)));
}

same_word : (sram sram' : List ℕ) (a : ℕ) → byte_at sram' a ≡ byte_at sram a → byte_at sram' (a + 1) ≡ byte_at sram (a + 1) → data_word_at sram a ≡ data_word_at sram' a
unfolding data_word_at
same_word sram sram' a low high = ap₂ (λ x y. x + 256 * y) (sym low) (sym high)

-- a table's entry whose bytes stay
same_entry : (sram sram' : List ℕ) (a : ℕ) → 0x0180 ≤ a → a + 3 < 0x0400 → ((b : ℕ) → 0x0180 ≤ b → b < 0x0400 → byte_at sram' b ≡ byte_at sram b) → entry_at sram a ≡ entry_at sram' a
same_entry sram sram' a from to same =
    let pair : ℕ → ℕ → ℕ × ℕ = λ t place. (t, place) in
    let third : byte_at sram' (a + 2 + 1) ≡ byte_at sram (a + 2 + 1) = same (a + 2 + 1) (omega arith) (omega arith) in
    ap₂ pair (same_word sram sram' a (same a from (omega arith)) (same (a + 1) (omega arith) (omega arith))) (same_word sram sram' (a + 2) (same (a + 2) (omega arith) (omega arith)) third)

-- The tables stay right where their own bytes stay and each entry of the pool stays, whatever else changes in SRAM
-- and flash.
pub tables_kept : (layout : Layout) (sram sram' words words' : List ℕ) → ((a : ℕ) → 0x0180 ≤ a → a < 0x0400 → byte_at sram' a ≡ byte_at sram a)
    → ((t v : ℕ) → IsEntry layout words t v → IsEntry layout words' t v) → IsTables layout sram words → IsTables layout sram' words'
tables_kept layout sram sram' words words' same stays tables =
    let kept : (entry : ℕ × ℕ) → IsHeld layout words entry → IsHeld layout words' entry = λ entry held full. stays entry.0 entry.1 (held full) in
    record {
      aside = λ i below.
          subst (IsHeld layout words') (same_entry sram sram' (aside_cell i) (omega arith) (omega arith) same) (kept (entry_at sram (aside_cell i)) (tables.aside i below));
      way = λ set which below below'.
          subst (IsHeld layout words') (same_entry sram sram' (way_cell set which) (omega arith) (omega arith) same) (kept (entry_at sram (way_cell set which)) (tables.way set which below below'));
    }
