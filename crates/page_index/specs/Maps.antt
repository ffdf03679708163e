-- A code page begins with its map: word 0 is the number of the original page, word 1 the number n of
-- entries, and words 2 to n + 1 are the entries, each the offset in the original page times 256 plus the
-- place in this page. A page that is free is all 0xFFFF (docs/LOADER.md).
use Rattle.std.specs.Prelude.{◌≡◌, ℕ, ◌+◌, ◌*◌, ◌/◌, ◌%◌, ◌<◌, ◌≤◌, List}
use Rattle.flash_words.specs.Pages.{page_words, word_at, page_of, blank}
use Rattle.flash_words.specs.declared.layout.Layout.{Layout}
use Rattle.flash_words.specs.Layouts.{most_image_pages}

-- the page is one of the code pool
pub record IsPool (layout : Layout) (page : ℕ) : Type 0 where
  pub from : layout.pool_first ≤ page
  pub to : page < layout.pool_first + layout.pool_pages

-- word k of a page
abbrev pub page_word : List ℕ → ℕ → ℕ → ℕ
page_word words page k = word_at words (page_words * page + k)

-- the number of the original page, and the number of entries
abbrev pub original_page : List ℕ → ℕ → ℕ
original_page words page = page_word words page 0

abbrev pub entry_count : List ℕ → ℕ → ℕ
entry_count words page = page_word words page 1

-- the original address of entry i, and its place as a word address of flash
abbrev pub address_of : List ℕ → ℕ → ℕ → ℕ
address_of words page i = page_words * original_page words page + page_word words page (2 + i) / 256

abbrev pub place_of : List ℕ → ℕ → ℕ → ℕ
place_of words page i = page_words * page + page_word words page (2 + i) % 256

abbrev pub IsFree : List ℕ → ℕ → Type 0
IsFree words page = page_of words page ≡ blank

-- A page's words 0 to n + 1 are a map: offsets and places ascend, and the places are behind the map.
pub record IsMap (words : List ℕ) (page : ℕ) : Type 0 where
  pub original : original_page words page < most_image_pages
  pub some : 1 ≤ entry_count words page
  pub offset : (i : ℕ) → i < entry_count words page → page_word words page (2 + i) / 256 < page_words
  pub behind : (i : ℕ) → i < entry_count words page → entry_count words page + 2 ≤ page_word words page (2 + i) % 256
  pub inside : (i : ℕ) → i < entry_count words page → page_word words page (2 + i) % 256 < page_words
  pub ascending : (i j : ℕ) → i < j → j < entry_count words page → (address_of words page i < address_of words page j) × (place_of words page i < place_of words page j)
