-- What a restart does and answers.
use Rattle.std.specs.Prelude.{◌≡◌, ℕ, ◌+◌, ◌*◌, ◌||◌, Bool, if◌then◌else◌, List, slice_index}
use Rattle.flash_words.specs.Pages.{raised}
use Rattle.flash_words.specs.Memory.{Memory}
use Rattle.flash_words.specs.declared.layout.Layout.{Layout}
use Rattle.page_index.specs.Maps.{IsPool}
use Rattle.tk_restart.specs.declared.sweeping.Kept.{Kept}
use Rattle.tk_restart.specs.Keeping.{Keeps, count_where, is_dropped, is_changed}

-- of the pages of the pool, how many are those of a test
abbrev pub pool_count : Layout → (ℕ → Bool) → ℕ
pool_count layout test = count_where test layout.pool_first layout.pool_pages

-- a page's count of erases, after one more where it was erased
abbrev pub worn : (erased : Bool) → ℕ → ℕ
worn erased count = if erased then raised count else count

-- Flash holds what is kept, the answer has the numbers of pages kept and dropped, and all that is done is an erase
-- of each page that is dropped, and an erase and a program of each that is kept and has stubs that stray.
pub record Restarts (layout : Layout) (image : List ℕ) (old new : Memory) (told : Kept) : Type 0 where
  pub kept : ℕ → Bool
  pub stray : ℕ → ℕ → Bool
  pub keeps : Keeps layout image old.words new.words kept stray
  pub kept_is : told.kept ≡ pool_count layout kept
  pub dropped_is : told.dropped ≡ pool_count layout (is_dropped old.words kept)
  pub ops : new.ops ≡ old.ops + told.dropped + 2 * pool_count layout (is_changed image old.words kept stray)
  pub erases : (page : ℕ) → IsPool layout page
      → slice_index new.erases page ≡ worn (is_dropped old.words kept page || is_changed image old.words kept stray page) (slice_index old.erases page)
  pub other_erases : (page : ℕ) → ¬ IsPool layout page → slice_index new.erases page ≡ slice_index old.erases page
  pub failing : new.failing ≡ old.failing
  pub refused : new.refused ≡ old.refused
