-- Serves private functions: the first pass of a restart. Going up through the pool, a page that isn't kept is erased.
use Rattle.std.specs.Prelude.{◌≡◌, ℕ, ◌+◌, ◌<◌, ◌≤◌, ◌⊎◌, true, List, length, slice_index}
use Rattle.flash_words.specs.Pages.{page_of}
use Rattle.flash_words.specs.Memory.{Memory}
use Rattle.flash_words.specs.Operations.{erased_page}
use Rattle.flash_words.specs.declared.layout.Layout.{Layout}
use Rattle.page_index.specs.Maps.{IsPool, IsFree, IsMap}
use Rattle.page_index.specs.Entries.{Lists}
use Rattle.page_draft.specs.CodePages.{IsCodePage}
use Rattle.nat_page.specs.Used.{is_used}
use Rattle.pool_check.specs.Links.{IsAlone}
use Rattle.tk_restart.specs.declared.judging.Fate.{Fate}
use Rattle.tk_restart.specs.declared.judging.Fate.TheVariants.{Stays, Blank, Goes}
use Rattle.tk_restart.specs.declared.sweeping.Kept.{Kept}
use Rattle.tk_restart.specs.Keeping.{AreKept, count_where, is_dropped}
use Rattle.tk_restart.specs.Restarting.{pool_count, worn}

-- each page of the pool below this one is free or has a map
abbrev pub ArePagesBelow : Layout → List ℕ → ℕ → Type 0
ArePagesBelow layout words top = (page : ℕ) → IsPool layout page → page < top → IsFree words page ⊎ IsMap words page

-- what becomes of a page
abbrev pub IsJudged : Layout → (image words : List ℕ) → ℕ → Fate → Type 0
IsJudged layout image words page Stays = IsCodePage image words page × IsAlone layout words page
IsJudged layout image words page Blank = IsFree words page
IsJudged layout image words page Goes = (¬ IsFree words page) × (¬ (IsCodePage image words page × IsAlone layout words page))

abbrev pub after_fate : Memory → ℕ → Fate → Memory
after_fate m page Stays = m
after_fate m page Blank = m
after_fate m page Goes = erased_page m page

abbrev pub counted : Kept → Fate → Kept
counted told Stays = record told { kept = told.kept + 1 }
counted told Blank = told
counted told Goes = record told { dropped = told.dropped + 1 }

-- no page below this one has an entry now of one of the addresses that the page had
abbrev pub IsAloneAfter : Layout → (old now : List ℕ) → ℕ → Type 0
IsAloneAfter layout old now page = (lower i j t v v' : ℕ) → IsPool layout lower → lower < page → Lists now lower i t v → Lists old page j t v' → ⊥

-- a page is kept as it is, or free
pub data SweptPage (layout : Layout) (image old now : List ℕ) (page : ℕ) : Type 0 where
  Left : IsCodePage image old page → IsAloneAfter layout old now page → page_of now page ≡ page_of old page → SweptPage layout image old now page
  Freed : ¬ (IsCodePage image old page × IsAloneAfter layout old now page) → IsFree now page → SweptPage layout image old now page

-- the first k pages of the pool are judged
pub record IsSwept (layout : Layout) (image : List ℕ) (old now : Memory) (k : ℕ) (told : Kept) : Type 0 where
  pub size : length now.words ≡ length old.words
  pub outside : (page : ℕ) → ¬ IsPool layout page → page_of now.words page ≡ page_of old.words page
  pub ahead : (page : ℕ) → layout.pool_first + k ≤ page → page_of now.words page ≡ page_of old.words page
  pub behind : (page : ℕ) → IsPool layout page → page < layout.pool_first + k → SweptPage layout image old.words now.words page
  pub kept_is : told.kept ≡ count_where (is_used now.words) layout.pool_first k
  pub dropped_is : told.dropped ≡ count_where (is_dropped old.words (is_used now.words)) layout.pool_first k
  pub ops : now.ops ≡ old.ops + told.dropped
  pub erases : (page : ℕ) → IsPool layout page → page < layout.pool_first + k
      → slice_index now.erases page ≡ worn (is_dropped old.words (is_used now.words) page) (slice_index old.erases page)
  pub other_erases : (page : ℕ) → (¬ IsPool layout page) ⊎ (layout.pool_first + k ≤ page) → slice_index now.erases page ≡ slice_index old.erases page
  pub failing : now.failing ≡ old.failing
  pub refused : now.refused ≡ old.refused

-- The pages that are used now are those that are kept; they are as they were, and the others are free.
pub record Sweeps (layout : Layout) (image : List ℕ) (old now : Memory) (told : Kept) : Type 0 where
  pub size : length now.words ≡ length old.words
  pub outside : (page : ℕ) → ¬ IsPool layout page → page_of now.words page ≡ page_of old.words page
  pub are : AreKept layout image old.words (is_used now.words)
  pub keeps : (page : ℕ) → IsPool layout page → is_used now.words page ≡ true → page_of now.words page ≡ page_of old.words page
  pub drops : (page : ℕ) → IsPool layout page → ¬ (is_used now.words page ≡ true) → IsFree now.words page
  pub kept_is : told.kept ≡ pool_count layout (is_used now.words)
  pub dropped_is : told.dropped ≡ pool_count layout (is_dropped old.words (is_used now.words))
  pub ops : now.ops ≡ old.ops + told.dropped
  pub erases : (page : ℕ) → IsPool layout page → slice_index now.erases page ≡ worn (is_dropped old.words (is_used now.words) page) (slice_index old.erases page)
  pub other_erases : (page : ℕ) → ¬ IsPool layout page → slice_index now.erases page ≡ slice_index old.erases page
  pub failing : now.failing ≡ old.failing
  pub refused : now.refused ≡ old.refused
