-- The dump that is written: for each page that isn't all 0xFFFF a line, with upper-case digits.
use Rattle.std.specs.Prelude.{ℕ, ◌+◌, ◌/◌, ◌%◌, ◌==◌, Bool, if◌then◌else◌, List, [], ◌∷◌, ◌++◌, flat_map, codes}
use Rattle.std.specs.List.{list_all, range_with_len}
use Rattle.hex.specs.Hex.{encode_upper}
use Rattle.flash_words.specs.Pages.{page_count, page_of}
use Rattle.text_lines.specs.Written.{fed}

-- a number below 1000 in three decimal digits
abbrev pub three_digits : ℕ → List ℕ
three_digits n = (48 + n / 100) ∷ (48 + n / 10 % 10) ∷ (48 + n % 10) ∷ []

-- what stands in a page's line before its words
abbrev pub line_front : ℕ → List ℕ
line_front page = codes "page " ++ three_digits page ++ codes " "

-- the bytes of words, the high byte first
abbrev pub bytes_of_words : List ℕ → List ℕ
bytes_of_words words = flat_map (λ word. word / 256 ∷ word % 256 ∷ []) words

-- the line of a page with these words
abbrev pub page_line : ℕ → List ℕ → List ℕ
page_line page words = line_front page ++ encode_upper (bytes_of_words words)

abbrev pub is_erased : List ℕ → Bool
is_erased words = list_all (λ word. word == 0xFFFF) words

-- the line of a page with these words, none where they are erased
abbrev pub lines_of_page : ℕ → List ℕ → List (List ℕ)
lines_of_page page words = if is_erased words then [] else page_line page words ∷ []

-- the lines of some pages from one on
abbrev pub lines_of_pages : List ℕ → (first count : ℕ) → List (List ℕ)
lines_of_pages words first count = flat_map (λ page. lines_of_page page (page_of words page)) (range_with_len first count)

-- the dump of words of flash
abbrev pub written : List ℕ → List ℕ
written words = flat_map fed (lines_of_pages words 0 page_count)
