-- A dump: the pages of flash that aren't all 0xFFFF, a line each, in ascending order (docs/FORMATS.md).
use Rattle.std.specs.Prelude.{◌≡◌, ℕ, ◌+◌, ◌<◌, ◌≤◌, List, [], length, Option, None}
use Rattle.flash_words.specs.Pages.{word_count, page_count, page_of, blank, many}
use Rattle.flash_words.specs.Memory.{Memory}
use Rattle.text_lines.specs.Lines.{lines_of}
use Rattle.text_lines.specs.Faults.{after_lines, first_fault}
use Rattle.flash_dump.specs.declared.dump_line.DumpFault.{DumpFault}
use Rattle.flash_dump.specs.DumpLines.{fault_at, next_page, with_line}

-- the first line that has a fault, counted from 1, and the first of its faults
abbrev pub dump_fault : List ℕ → Option (ℕ × DumpFault)
dump_fault text = first_fault fault_at next_page 1 0 (lines_of text)

-- flash without any line: each word is erased
abbrev pub erased : List ℕ
erased = many word_count 0xFFFF

-- the text is a dump of these words: those of each line's page, and erased ones
pub record IsDump (text words : List ℕ) : Type 0 where
  pub sound : dump_fault text ≡ None
  pub words_are : words ≡ after_lines with_line erased (lines_of text)

-- Serves private functions: flash before the pages from one on are told: these are erased, and no operation fails.
pub record IsOpen (flash : Memory) (least : ℕ) : Type 0 where
  pub whole : length flash.words ≡ word_count
  pub failing : flash.failing ≡ []
  pub erases : flash.erases ≡ many page_count 0
  pub few : flash.ops ≤ least
  pub blank_on : (page : ℕ) → least ≤ page → page < page_count → page_of flash.words page ≡ blank

-- .. and before the lines of the rest
pub record IsReadTo (text rest : List ℕ) (least number : ℕ) (flash : Memory) : Type 0 where
  pub is_open : IsOpen flash least
  pub faults : first_fault fault_at next_page (number + 1) least (lines_of rest) ≡ dump_fault text
  pub words_are : after_lines with_line flash.words (lines_of rest) ≡ after_lines with_line erased (lines_of text)

-- .. and behind one line more
pub record IsTaken (line : List ℕ) (least after : ℕ) (old new : Memory) : Type 0 where
  pub sound : fault_at least line ≡ None
  pub after_is : after ≡ next_page least line
  pub words_are : new.words ≡ with_line old.words line
  pub is_open : IsOpen new after
  pub low : after ≤ page_count
