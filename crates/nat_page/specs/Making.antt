-- Making a page: a page that is free gets the run from an address, as far as it goes (docs/LOADER.md).
use Rattle.std.specs.Prelude.{◌≡◌, ◌≢◌, ℕ, suc, ◌+◌, ◌*◌, ◌/◌, ◌<◌, ◌≤◌, true, List, length}
use Rattle.flash_words.specs.Pages.{page_words, set_page}
use Rattle.flash_words.specs.Memory.{Memory}
use Rattle.flash_words.specs.Operations.{programmed_page}
use Rattle.flash_words.specs.Layouts.{image_of}
use Rattle.flash_words.specs.declared.layout.Layout.{Layout}
use Rattle.page_index.specs.Maps.{IsPool, IsFree}
use Rattle.page_index.specs.Entries.{Lists, IsEntry}
use Rattle.page_draft.specs.Runs.{address, ends_at, IsRun}
use Rattle.page_draft.specs.CodePages.{page_size, place_in_page, made_words}

-- no page of the pool has an entry of t
abbrev pub HasNoEntry : Layout → List ℕ → ℕ → Type 0
HasNoEntry layout words t = (v : ℕ) → ¬ IsEntry layout words t v

-- the lowest page of the pool that is free
pub record IsLowestFree (layout : Layout) (words : List ℕ) (page : ℕ) : Type 0 where
  pub pool : IsPool layout page
  pub free : IsFree words page
  pub lowest : (lower : ℕ) → IsPool layout lower → lower < page → ¬ IsFree words lower

-- no page of the pool is free
abbrev pub HasNoFree : Layout → List ℕ → Type 0
HasNoFree layout words = (page : ℕ) → IsPool layout page → ¬ IsFree words page

-- Why the run from t in this page stops behind its last instruction: that is a transfer without return;
-- the next address is in another original page, or outside the image; another page of the pool has its
-- entry; or the page with the next instruction, and with the closing that it would then need, has more
-- words than a page.
pub data PageStops (layout : Layout) (image words : List ℕ) (page t last : ℕ) : Type 0 where
  Ends : ends_at image (address image t last) ≡ true → PageStops layout image words page t last
  Leaves : address image t (suc last) / page_words ≢ t / page_words → PageStops layout image words page t last
  Outside : length image ≤ address image t (suc last) → PageStops layout image words page t last
  Known : (other i v : ℕ) → IsPool layout other → other ≢ page → Lists words other i (address image t (suc last)) v → PageStops layout image words page t last
  Full : page_words < page_size image t (suc last) → PageStops layout image words page t last

-- These are the words of the page of the run from t, made in this page, and t's place in it. The run goes on as far
-- as it may: no address of it has an entry yet, its page has room for it, and behind its last instruction it stops.
-- Its links are all calls of the kernel's bridge.
pub record IsPrepared (layout : Layout) (image old : List ℕ) (page t : ℕ) (words : List ℕ) (place : ℕ) : Type 0 where
  pub last : ℕ
  pub run : IsRun image t last
  pub unknown : (i : ℕ) → i ≤ last → HasNoEntry layout old (address image t i)
  pub fits : page_size image t last ≤ page_words
  pub stops : PageStops layout image old page t last
  pub is : words ≡ made_words image t last
  pub placed : place ≡ page_words * page + place_in_page image t (suc last) 0

-- The new words are the old ones with that page.
pub record MakesPage (layout : Layout) (image old new : List ℕ) (page t place : ℕ) : Type 0 where
  pub words : List ℕ
  pub prepared : IsPrepared layout image old page t words place
  pub changed : new ≡ set_page old page words

-- A page is made of the run from t in this page, by one operation on flash.
pub record NaturalisesIn (layout : Layout) (old new : Memory) (page t place : ℕ) : Type 0 where
  pub words : List ℕ
  pub prepared : IsPrepared layout (image_of layout old.words) old.words page t words place
  pub after : new ≡ programmed_page old page words
