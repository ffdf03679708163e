-- The page of an address, as it is drafted for whichever page of the pool is free.
use Rattle.std.specs.Prelude.{◌≡◌, ◌≢◌, ℕ, suc, ◌+◌, ◌/◌, ◌<◌, ◌≤◌, true, List, length}
use Rattle.flash_words.specs.Pages.{page_words}
use Rattle.flash_words.specs.declared.layout.Layout.{Layout}
use Rattle.page_index.specs.Entries.{IsEntry}
use Rattle.page_draft.specs.Standing.{size}
use Rattle.page_draft.specs.Runs.{next_of, template_at, closing_at, ends_at, address, templates, IsRun}
use Rattle.page_draft.specs.CodePages.{page_size, made_words}
use Rattle.nat_page.specs.declared.drafting.DraftedPage.{DraftedPage}
use Rattle.nat_page.specs.Making.{HasNoEntry}

-- the page with the instruction at the pc as one more behind others, which with the two first words and
-- the map have this many words
abbrev pub size_with : List ℕ → (others pc : ℕ) → ℕ
size_with image others pc = others + 1 + size (template_at image pc) + size (closing_at image pc)

-- why a run stops behind the instruction at the pc, whichever page it is for: at the last instruction of a free page
-- these are the causes of `PageStops`
pub data StopsBehind (layout : Layout) (image words : List ℕ) (pc others : ℕ) : Type 0 where
  Ends : ends_at image pc ≡ true → StopsBehind layout image words pc others
  Leaves : next_of image pc / page_words ≢ pc / page_words → StopsBehind layout image words pc others
  Outside : length image ≤ next_of image pc → StopsBehind layout image words pc others
  Known : (v : ℕ) → IsEntry layout words (next_of image pc) v → StopsBehind layout image words pc others
  Full : page_words < size_with image others (next_of image pc) → StopsBehind layout image words pc others

-- a run to instruction `last`, which may stop there or go on
pub record IsBegun (layout : Layout) (image words : List ℕ) (t last : ℕ) : Type 0 where
  pub run : IsRun image t last
  pub unknown : (i : ℕ) → i ≤ last → HasNoEntry layout words (address image t i)
  pub fits : page_size image t last ≤ page_words

-- it is the page of the run from t, which goes on as far as it may: so many words stand in front of its code, and so many in front of
-- the erased ones; the last instruction of the run is at this address, and behind the run is this one
pub record IsDraftedPage (layout : Layout) (image words : List ℕ) (t : ℕ) (page : DraftedPage) : Type 0 where
  pub index : ℕ
  pub begun : IsBegun layout image words t index
  pub stops : StopsBehind layout image words (address image t index) (index + 3 + size (templates image t (suc index)))
  pub is : page.words ≡ made_words image t index
  pub front : page.front ≡ 2 + suc index
  pub sized : page.size ≡ page_size image t index
  pub last : page.last ≡ address image t index
  pub next : page.next ≡ address image t (suc index)
