-- The tables at worked values.
use Rattle.std.proofs.Common.{◌≡◌, ℕ, List, refl, arith}
use Rattle.std.specs.Prelude.{Some, None}
use Rattle.flash_words.specs.declared.layout.Layout.{Layout}
use Rattle.sram_layout.specs.Bytes.{byte_at, with_byte, data_word_at, with_word, with_block}
use Rattle.base.specs.Lists.{many}
use Rattle.sram_layout.specs.Boot.{at_boot}
use Rattle.sram_layout.specs.Cells.{entry_at, way_cell}
use Rattle.page_index.specs.Entries.{IsEntry, IsMapped}
use Rattle.page_index.proofs.EntryLaws.{one_place}
use Rattle.addr_tables.specs.Tables.{IsTables}
use Rattle.addr_tables.specs.Hits.{hit}
use Rattle.addr_tables.specs.Changes.{noted_in_set, noted, forgotten}
use Rattle.addr_tables.proofs.FindLaws.{hit_entry}

-- the two entries of set 1
abbrev set_one : List ℕ → (ℕ × ℕ) × (ℕ × ℕ)
set_one sram = (entry_at sram (way_cell 1 0), entry_at sram (way_cell 1 1))

abbrev pair : ℕ → ℕ → ℕ × ℕ
pair t place = (t, place)

abbrev two : ℕ × ℕ → ℕ × ℕ → (ℕ × ℕ) × (ℕ × ℕ)
two first second = (first, second)

-- the place of 1 noted, then that of 65, whose set is the same
abbrev first : List ℕ
first = noted at_boot 1 0x4007

abbrev second : List ℕ
second = noted first 65 0x4107

record Worked : Type 0 where
  -- an empty entry isn't of address 0
  empty : hit at_boot 0 ≡ None
  place : hit first 1 ≡ Some 0x4007
  -- 33 has the same look-aside entry, and 65 the same set
  other_in_the_table : hit first 33 ≡ None
  other_in_the_set : hit first 65 ≡ None
  -- the look-aside entry of 1 is that of 33 now, and the set still has 1
  from_the_set : hit (noted first 33 0x4207) 1 ≡ Some 0x4007
  -- the place used last is in front
  moved : set_one second ≡ two (pair 65 0x4107) (pair 1 0x4007)
  -- a place that the set has leaves it as it is
  used_again : set_one (noted second 1 0x4007) ≡ two (pair 65 0x4107) (pair 1 0x4007)
  third : set_one (noted second 129 0x4008) ≡ two (pair 129 0x4008) (pair 65 0x4107)
  -- another place of 1 is another entry
  other_place : set_one (noted first 1 0x4107) ≡ two (pair 1 0x4107) (pair 1 0x4007)
  -- 0x4007 is in page 128, 0x4107 in page 130
  one_forgotten : set_one (forgotten second 128) ≡ two (pair 65 0x4107) (pair 0 0)

-- by computation
worked : Worked
unfolding noted noted_in_set forgotten at_boot many byte_at with_byte data_word_at with_word with_block
worked = record {
  empty = refl;
  place = refl;
  other_in_the_table = refl;
  other_in_the_set = refl;
  from_the_set = refl;
  moved = refl;
  used_again = refl;
  third = refl;
  other_place = refl;
  one_forgotten = refl;
}

-- a wrong place that is noted makes the tables wrong, and is answered
wrong_place : (layout : Layout) (words : List ℕ) → IsMapped layout words → IsEntry layout words 2 0x4008 → IsTables layout (noted at_boot 2 0x4007) words → ⊥
unfolding noted noted_in_set at_boot many byte_at with_byte data_word_at with_word with_block
wrong_place layout words mapped entry tables =
    let same : ◌≡◌ {A = ℕ} 0x4007 0x4008 = one_place layout words 2 0x4007 0x4008 mapped (hit_entry layout (noted at_boot 2 0x4007) words 2 0x4007 tables refl) entry in
    absurd (omega arith)
