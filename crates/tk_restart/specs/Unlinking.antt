-- Serves private functions: the second pass of a restart. Stubs of pages that are used call the kernel's bridge again
-- where they jump to no entry.
use Rattle.std.specs.Prelude.{◌≡◌, ℕ, ◌+◌, ◌*◌, ◌<◌, ◌≤◌, ◌⊎◌, Bool, if◌then◌else◌, List, [], length, slice_index}
use Rattle.flash_words.specs.Pages.{page_of}
use Rattle.flash_words.specs.Memory.{Memory}
use Rattle.flash_words.specs.Operations.{erased_page, programmed_page}
use Rattle.flash_words.specs.declared.layout.Layout.{Layout}
use Rattle.page_index.specs.Maps.{IsPool, IsFree}
use Rattle.page_draft.specs.CodePages.{IsCodePage}
use Rattle.nat_page.specs.Used.{is_used}
use Rattle.nat_page.specs.Unlinking.{with_calls, stubs_where, are_some}
use Rattle.tk_restart.specs.Keeping.{count_where}
use Rattle.tk_restart.specs.Restarting.{pool_count, worn}
use Rattle.tk_restart.specs.Strays.{is_stray}

-- each page of the pool is free, or rewritten code wherever its links lead
abbrev pub AreCodes : Layout → (image words : List ℕ) → Type 0
AreCodes layout image words = (page : ℕ) → IsPool layout page → IsFree words page ⊎ IsCodePage image words page

-- where the stubs of a page stand that stray, by the entries that some words have
abbrev pub strays_in : Layout → (image by words : List ℕ) → ℕ → List ℕ
strays_in layout image by words page = if is_used words page then stubs_where (is_stray layout by) image words page else []

-- the page has calls in their place
abbrev pub calls_in : Layout → (image by words : List ℕ) → ℕ → List ℕ
calls_in layout image by words page = page_of (with_calls words (strays_in layout image by words page)) page

abbrev pub has_strays : Layout → (image words : List ℕ) → ℕ → Bool
has_strays layout image words page = are_some (strays_in layout image words words page)

abbrev pub unlinked_page : Layout → List ℕ → Memory → ℕ → Memory
unlinked_page layout image m page =
    if has_strays layout image m.words page then programmed_page (erased_page m page) page (calls_in layout image m.words m.words page) else m

-- the first k pages of the pool have them
pub record IsUnlinked (layout : Layout) (image : List ℕ) (old now : Memory) (k : ℕ) : Type 0 where
  pub size : length now.words ≡ length old.words
  pub outside : (page : ℕ) → ¬ IsPool layout page → page_of now.words page ≡ page_of old.words page
  pub ahead : (page : ℕ) → layout.pool_first + k ≤ page → page_of now.words page ≡ page_of old.words page
  pub behind : (page : ℕ) → IsPool layout page → page < layout.pool_first + k → page_of now.words page ≡ calls_in layout image old.words old.words page
  pub ops : now.ops ≡ old.ops + 2 * count_where (has_strays layout image old.words) layout.pool_first k
  pub erases : (page : ℕ) → IsPool layout page → page < layout.pool_first + k
      → slice_index now.erases page ≡ worn (has_strays layout image old.words page) (slice_index old.erases page)
  pub other_erases : (page : ℕ) → (¬ IsPool layout page) ⊎ (layout.pool_first + k ≤ page) → slice_index now.erases page ≡ slice_index old.erases page
  pub failing : now.failing ≡ old.failing
  pub refused : now.refused ≡ old.refused

-- all pages of the pool
pub record Unlinks (layout : Layout) (image : List ℕ) (old now : Memory) : Type 0 where
  pub size : length now.words ≡ length old.words
  pub outside : (page : ℕ) → ¬ IsPool layout page → page_of now.words page ≡ page_of old.words page
  pub pages : (page : ℕ) → IsPool layout page → page_of now.words page ≡ calls_in layout image old.words old.words page
  pub ops : now.ops ≡ old.ops + 2 * pool_count layout (has_strays layout image old.words)
  pub erases : (page : ℕ) → IsPool layout page → slice_index now.erases page ≡ worn (has_strays layout image old.words page) (slice_index old.erases page)
  pub other_erases : (page : ℕ) → ¬ IsPool layout page → slice_index now.erases page ≡ slice_index old.erases page
  pub failing : now.failing ≡ old.failing
  pub refused : now.refused ≡ old.refused
