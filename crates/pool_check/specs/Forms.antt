-- When a page of flash, by itself, has the form that it must have (docs/LOADER.md, "A pool that is faithful").
use Rattle.std.specs.Prelude.{◌≡◌, ℕ, ◌+◌, ◌-◌, ◌*◌, ◌<◌, ◌≤◌, ◌⊎◌, List}
use Rattle.avr_isa.specs.Image.{word}
use Rattle.flash_words.specs.Pages.{page_words, word_at, blank}
use Rattle.flash_words.specs.Memory.{return_word}
use Rattle.flash_words.specs.declared.layout.Layout.{Layout}
use Rattle.page_index.specs.Maps.{IsPool, address_of, entry_count}
use Rattle.nat_template.specs.Stubs.{call_word, bridge_entry}
use Rattle.page_draft.specs.Standing.{jump_word}
use Rattle.page_draft.specs.CodePages.{IsCodePage}

-- The 128 words of a page: below the pool the image's, erased behind its end; in the kernel's pages RET; in a page
-- of the pool all erased, or those of a run of the image, wherever its links lead.
pub record HasForm (layout : Layout) (image : List ℕ) (page : ℕ) (words : List ℕ) : Type 0 where
  pub below : page < layout.pool_first → (k : ℕ) → k < page_words → word_at words k ≡ word image (page_words * page + k)
  pub kernel : 480 ≤ page → (k : ℕ) → k < page_words → word_at words k ≡ return_word
  pub pool : IsPool layout page → (words ≡ blank) ⊎ IsCodePage image words 0

-- Serves private functions: the first address of a page of code and the last of its instructions, by its own words.
abbrev pub first_told : List ℕ → ℕ
first_told words = address_of words 0 0

abbrev pub last_told : List ℕ → ℕ
last_told words = entry_count words 0 - 1

-- .. and the first two words of a link, resolved or not
abbrev pub IsLinkWords : (first second : ℕ) → Type 0
IsLinkWords first second = ((first ≡ call_word) × (second ≡ bridge_entry)) ⊎ (first ≡ jump_word)
