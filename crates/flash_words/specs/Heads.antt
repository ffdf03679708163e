-- Serves private functions and the contract of `page_beginning`: which pages begin with which word: for each remainder by 512 a
-- set of pages, among which are those whose first word has it.
use Rattle.std.specs.Prelude.{ℕ, ◌≡◌, ◌≢◌, ◌*◌, ◌%◌, ◌<◌, true, List, length, slice_index_or}
use Rattle.flash_words.specs.Pages.{page_count, page_words, word_at}
use Rattle.flash_words.specs.declared.page_set.PageSet.{PageSet}
use Rattle.flash_words.specs.declared.heads.Heads.{Heads}
use Rattle.flash_words.specs.PageSets.{has_page}

-- the first word of a page
abbrev pub head : List ℕ → ℕ → ℕ
head words page = word_at words (page_words * page)

-- the page is in the set of its first word
abbrev pub HasHead : List ℕ → Heads → ℕ → Type 0
HasHead words heads page = (s : PageSet) → has_page (slice_index_or heads.pages.items (head words page % page_count) s) page ≡ true

-- each page of flash is
pub record AreHeads (words : List ℕ) (heads : Heads) : Type 0 where
  pub sized : length heads.pages.items ≡ page_count
  pub each : (page : ℕ) → page < page_count → HasHead words heads page

-- .. each but one
pub record AreHeadsBeside (words : List ℕ) (heads : Heads) (but : ℕ) : Type 0 where
  pub sized : length heads.pages.items ≡ page_count
  pub each : (page : ℕ) → page < page_count → page ≢ but → HasHead words heads page
