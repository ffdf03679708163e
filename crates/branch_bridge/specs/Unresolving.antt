-- The stubs of other pages that jump into a page call the kernel's bridge again (docs/LOADER.md, "Recycling").
use Rattle.std.specs.Prelude.{ℕ, zero, suc, ◌+◌, ◌==◌, ◌||◌, not, Bool, false, if◌then◌else◌, List, [], None}
use Rattle.flash_words.specs.Pages.{page_of}
use Rattle.flash_words.specs.Memory.{Memory}
use Rattle.flash_words.specs.Layouts.{image_of}
use Rattle.flash_words.specs.declared.layout.Layout.{Layout}
use Rattle.page_index.specs.Entries.{IsEntry}
use Rattle.page_draft.specs.CodePages.{HoldsRun}
use Rattle.nat_page.specs.Used.{is_used}
use Rattle.nat_page.specs.Unlinking.{with_calls, stubs_into, are_some, Outside}
use Rattle.branch_bridge.specs.Operating.{Operation, Performed, perform, rewriting, then_on}

-- the page is another one, is used, and has stubs that jump into the victim
abbrev pub has_stubs_into : (image words : List ℕ) → (victim page : ℕ) → Bool
has_stubs_into image words victim page =
    if page == victim || not (is_used words page) then false else are_some (stubs_into image words victim page)

-- then it gets its words with calls in their place
abbrev pub unlinking : (image words : List ℕ) → (victim page : ℕ) → List Operation
unlinking image words victim page =
    if has_stubs_into image words victim page then rewriting page (page_of (with_calls words (stubs_into image words victim page)) page) else []

-- .. one page after the other, for n pages from the first on
abbrev pub unresolved : (image : List ℕ) → (victim first n : ℕ) → Memory → Performed
unresolved image victim first zero m = record { memory = m; stop = None }
unresolved image victim first (suc n) m =
    then_on (unresolved image victim first n m) (λ now. perform now (unlinking image now.words victim (first + n)))

-- .. for those of the pool
abbrev pub unresolved_in : Layout → ℕ → Memory → Performed
unresolved_in layout victim m = unresolved (image_of layout m.words) victim layout.pool_first layout.pool_pages m

-- no stub of another page leads into the victim
pub record IsApart (layout : Layout) (image words : List ℕ) (victim page : ℕ) : Type 0 where
  pub first : ℕ
  pub last : ℕ
  pub holds : HoldsRun (Outside (IsEntry layout words) victim) image words page first last
