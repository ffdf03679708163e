-- One line of a dump, in this project's own form: `page `, the page's number in three decimal digits, a space, and its
-- 128 words in four hexadecimal digits each, of either case, the high one first (docs/FORMATS.md).
use Rattle.std.specs.Prelude.{◌≡◌, ℕ, ◌+◌, ◌*◌, ◌==◌, ◌&&◌, Bool, true, nat_eq, nat_lt, nat_le, if◌then◌else◌, List, length, map, take, drop, slice_index, codes, Option, Some, None}
use Rattle.std.specs.List.{list_all, range_with_len, starts_with}
use Rattle.std.specs.Char.{is_digit}
use Rattle.std.specs.Str.Parse.{digits_value}
use Rattle.flash_words.specs.Pages.{page_count, page_words, set_page}
use Rattle.flash_dump.specs.declared.dump_line.DumpFault.{DumpFault}
use Rattle.flash_dump.specs.declared.dump_line.DumpFault.TheVariants.{Form, Order, Range}
use Rattle.flash_dump.specs.declared.dump_line.PageLine.{PageLine}

-- the digits of the page's number, and those of word k
abbrev pub number_digits : List ℕ → List ℕ
number_digits line = take 3 (drop 5 line)

abbrev pub word_digits : List ℕ → ℕ → List ℕ
word_digits line k = take 4 (drop (9 + 4 * k) line)

-- the line has the form
abbrev pub has_page : List ℕ → Bool
has_page line =
    (length line == 521) && starts_with nat_eq line (codes "page ") && (slice_index line 8 == 32)
    && list_all (λ b. is_digit b 10) (number_digits line) && list_all (λ b. is_digit b 16) (drop 9 line)

-- and tells this page and these words
abbrev pub page_in : List ℕ → ℕ
page_in line = digits_value 10 (number_digits line)

abbrev pub words_in : List ℕ → List ℕ
words_in line = map (λ k. digits_value 16 (word_digits line k)) (range_with_len 0 page_words)

-- the least page that the next line may have, behind a line
abbrev pub next_page : ℕ → List ℕ → ℕ
next_page least line = if length line == 0 then least else page_in line + 1

-- the words of flash with those of the line's page
abbrev pub with_line : List ℕ → List ℕ → List ℕ
with_line words line = if length line == 0 then words else set_page words (page_in line) (words_in line)

-- the first fault of a page's number, where the pages from one on may follow: none where it is one of these and one of flash
abbrev pub page_fault : (least page : ℕ) → Option DumpFault
page_fault least page =
    if nat_lt page least then Some Order
    else if nat_le page_count page then Some Range
    else None

-- the first fault of a line: none where it is empty, or has the form and a page whose number has none
abbrev pub fault_at : ℕ → List ℕ → Option DumpFault
fault_at least line =
    if length line == 0 then None
    else if has_page line then page_fault least (page_in line)
    else Some Form

-- Serves private functions: what was read of a line.
pub record IsReadLine (line : List ℕ) (told : PageLine) : Type 0 where
  pub form : has_page line ≡ true
  pub page_is : told.page ≡ page_in line
  pub words_are : told.words ≡ words_in line

-- the word by which a fault is told
abbrev pub dump_word : DumpFault → List ℕ
dump_word Form = codes "form"
dump_word Order = codes "order"
dump_word Range = codes "range"
