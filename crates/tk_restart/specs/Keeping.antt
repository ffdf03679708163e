-- What a restart keeps of a code pool, whatever it holds: going up, each page that is rewritten code of the image, and
-- of none of whose addresses a page kept before has an entry. Of such a page a stub that jumps elsewhere than to its
-- target's place in a page that is kept calls the kernel's bridge again. All other pages are erased
-- (docs/RESTART.md).
use Rattle.std.specs.Prelude.{◌≡◌, ℕ, zero, suc, ◌+◌, ◌<◌, ◌&&◌, ◌↔◌, not, Bool, true, false, if◌then◌else◌, List, length}
use Rattle.flash_words.specs.Pages.{page_of}
use Rattle.flash_words.specs.declared.layout.Layout.{Layout}
use Rattle.page_index.specs.Maps.{IsPool, IsFree}
use Rattle.page_index.specs.Entries.{Lists}
use Rattle.page_draft.specs.CodePages.{IsCodePage}
use Rattle.nat_page.specs.Unlinking.{with_calls, stubs_where, are_some}
use Rattle.flash_dump.specs.WrittenDumps.{is_erased}

-- a page that is kept, where it is told which of the lower ones are
pub record IsKeeper (layout : Layout) (image words : List ℕ) (kept : ℕ → Bool) (page : ℕ) : Type 0 where
  pub code : IsCodePage image words page
  pub alone : (lower i j t v v' : ℕ) → IsPool layout lower → lower < page → kept lower ≡ true → Lists words lower i t v → Lists words page j t v' → ⊥

-- just these pages of the pool are kept
abbrev pub AreKept : Layout → (image words : List ℕ) → (ℕ → Bool) → Type 0
AreKept layout image words kept = (page : ℕ) → IsPool layout page → ((kept page ≡ true) ↔ IsKeeper layout image words kept page)

-- v is the place of an entry of t in a page that is kept
pub record IsKeptEntry (layout : Layout) (words : List ℕ) (kept : ℕ → Bool) (t v : ℕ) : Type 0 where
  pub page : ℕ
  pub index : ℕ
  pub pool : IsPool layout page
  pub is_kept : kept page ≡ true
  pub lists : Lists words page index t v

-- just these links stray, of those that are resolved: to an address t, with a place v that is no entry of it
abbrev pub AreStray : Layout → List ℕ → (kept : ℕ → Bool) → (stray : ℕ → ℕ → Bool) → Type 0
AreStray layout words kept stray = (t v : ℕ) → ((stray t v ≡ false) ↔ IsKeptEntry layout words kept t v)

-- flash before and after a restart, by its words
pub record Keeps (layout : Layout) (image old new : List ℕ) (kept : ℕ → Bool) (stray : ℕ → ℕ → Bool) : Type 0 where
  pub are : AreKept layout image old kept
  pub strays : AreStray layout old kept stray
  pub size : length new ≡ length old
  pub outside : (page : ℕ) → ¬ IsPool layout page → page_of new page ≡ page_of old page
  pub keeps : (page : ℕ) → IsPool layout page → kept page ≡ true → page_of new page ≡ page_of (with_calls old (stubs_where stray image old page)) page
  pub drops : (page : ℕ) → IsPool layout page → kept page ≡ false → IsFree new page

-- of n pages from the first on, how many are those of a test
unfoldable pub count_where : (ℕ → Bool) → (first n : ℕ) → ℕ
count_where test first zero = 0
count_where test first (suc n) = (if test (first + n) then 1 else 0) + count_where test first n

-- a page that is dropped: it isn't kept, and wasn't erased
abbrev pub is_dropped : List ℕ → (kept : ℕ → Bool) → ℕ → Bool
is_dropped words kept page = not (is_erased (page_of words page)) && not (kept page)

-- a page that is kept and has stubs that stray
abbrev pub is_changed : (image words : List ℕ) → (kept : ℕ → Bool) → (stray : ℕ → ℕ → Bool) → ℕ → Bool
is_changed image words kept stray page = kept page && are_some (stubs_where stray image words page)
