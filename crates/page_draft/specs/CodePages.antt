-- The page of a run: word 0 is the original page, word 1 the number of instructions, then comes the map,
-- then their templates and the closing, and 0xFFFF to the end (docs/LOADER.md).
use Rattle.std.specs.Prelude.{◌≡◌, ℕ, suc, ◌+◌, ◌-◌, ◌*◌, ◌/◌, ◌%◌, ◌<◌, ◌≤◌, List, ◌∷◌, ◌++◌, length, map}
use Rattle.std.specs.List.{range_with_len}
use Rattle.base.specs.Lists.{many}
use Rattle.flash_words.specs.Pages.{page_words, word_at}
use Rattle.nat_template.specs.Stubs.{words_of}
use Rattle.nat_template.specs.declared.piece.Piece.{Piece}
use Rattle.nat_template.specs.declared.piece.Piece.TheVariants.{Fixed}
use Rattle.page_draft.specs.Standing.{Stands, size}
use Rattle.page_draft.specs.Runs.{address, templates, closing_at, IsRun}

-- where the template of instruction i stands in a page of n, behind the map and the templates in front
abbrev pub place_in_page : List ℕ → (t n i : ℕ) → ℕ
place_in_page image t n i = 2 + n + size (templates image t i)

-- the map's word for it: the offset in the original page times 256, and the place in this page
abbrev pub map_word : List ℕ → (t n i : ℕ) → ℕ
map_word image t n i = 256 * (address image t i % page_words) + place_in_page image t n i

unfoldable pub map_words : List ℕ → (t n : ℕ) → List ℕ
map_words image t n = map (λ i. map_word image t n i) (range_with_len 0 n)

-- the code: the templates of instructions 0 to last, and the closing
unfoldable pub code : List ℕ → (t last : ℕ) → List Piece
code image t last = templates image t (suc last) ++ closing_at image (address image t last)

-- the pieces of the page
unfoldable pub page_pieces : List ℕ → (t last : ℕ) → List Piece
page_pieces image t last =
    Fixed (t / page_words) ∷ Fixed (suc last) ∷ map (λ word. Fixed word) (map_words image t (suc last)) ++ code image t last

-- how many words they have
abbrev pub page_size : List ℕ → (t last : ℕ) → ℕ
page_size image t last = size (page_pieces image t last)

-- instructions 0 to last are a run from t that fits into a page
pub record IsPage (image : List ℕ) (t last : ℕ) : Type 0 where
  pub run : IsRun image t last
  pub fits : page_size image t last ≤ page_words

-- the 128 words of a page with these, and erased words behind them
abbrev pub filled : List ℕ → List ℕ
filled front = front ++ many (page_words - length front) 0xFFFF

-- the words of the page that is made of the run from t to its last instruction
abbrev pub made_words : List ℕ → (t last : ℕ) → List ℕ
made_words image t last = filled (words_of (page_pieces image t last))

-- The page holds the run of instructions 0 to last from t. Links that are resolved lead where `leads` allows.
pub record HoldsRun (leads : ℕ → ℕ → Type 0) (image words : List ℕ) (page t last : ℕ) : Type 0 where
  pub run : IsRun image t last
  pub fits : page_size image t last ≤ page_words
  pub stands : Stands leads words (page_words * page) (page_pieces image t last)
  pub rest : (k : ℕ) → page_size image t last ≤ k → k < page_words → word_at words (page_words * page + k) ≡ 0xFFFF

-- links that are resolved may lead anywhere
abbrev pub Anywhere : ℕ → ℕ → Type 0
Anywhere t v = Unit {0}

-- the page holds the run from some address, wherever its links lead
pub record IsCodePage (image words : List ℕ) (page : ℕ) : Type 0 where
  pub first : ℕ
  pub last : ℕ
  pub holds : HoldsRun Anywhere image words page first last
