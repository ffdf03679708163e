-- Program memory as a list of words in pages, and what a page holds after an operation on it
-- (ATmega128 datasheet, "Boot Loader Support", "Self-Programming the Flash": the flash is erased and programmed page by page).
use Rattle.std.specs.Prelude.{ℕ, ◌+◌, ◌-◌, ◌*◌, ◌^◌, min, List, [], ◌∷◌, ◌++◌, take, drop, slice_index, bit_and}
pub use Rattle.base.specs.Lists.{many}

-- how many words, pages, and words of a page there are
abbrev pub word_count : ℕ
word_count = 65536

abbrev pub page_count : ℕ
page_count = 512

abbrev pub page_words : ℕ
page_words = 128

-- the word at word address a
abbrev pub word_at : List ℕ → ℕ → ℕ
word_at words a = slice_index words a

-- the 128 words of a page
unfoldable pub page_of : List ℕ → ℕ → List ℕ
page_of words page = take page_words (drop (page_words * page) words)

-- words, with these 128 words in a page
unfoldable pub set_page : List ℕ → ℕ → List ℕ → List ℕ
set_page words page new = take (page_words * page) words ++ new ++ drop (page_words * page + page_words) words

-- an erased page: every bit is 1
unfoldable pub blank : List ℕ
blank = many page_words 0xFFFF

-- a page after programming: each word is the old AND the new, since programming can only clear bits
abbrev pub programmed : List ℕ → List ℕ → List ℕ
programmed (old ∷ page) (new ∷ words) = bit_and old new ∷ programmed page words
programmed page words = []

-- a page's count of erases after one more: it stands still at the greatest 32-bit number
abbrev pub raised : ℕ → ℕ
raised count = min (count + 1) (2 ^ 32 - 1)
