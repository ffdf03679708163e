-- What stands at an entry: the template of its instruction, and behind it that of the next entry or the
-- page's closing (docs/LOADER.md).
use Rattle.std.specs.Prelude.{◌≡◌, ℕ, ◌+◌, ◌*◌, ◌/◌, ◌%◌, ◌<◌, ◌≤◌, false, List, length}
use Rattle.avr_isa.specs.Crossing.{is_crossing}
use Rattle.flash_words.specs.Pages.{page_words}
use Rattle.flash_words.specs.declared.layout.Layout.{Layout}
use Rattle.page_index.specs.Maps.{IsPool}
use Rattle.page_index.specs.Entries.{IsEntry}
use Rattle.page_draft.specs.Standing.{Stands, size}
use Rattle.page_draft.specs.Runs.{next_of, template_at, closing_at}
use Rattle.nat_page.specs.Links.{EachLink}

-- v is the place of an entry
abbrev pub IsPlace : Layout → List ℕ → ℕ → Type 0
IsPlace layout words v = (t : ℕ) × IsEntry layout words t v

-- no place of an entry lies between these two word addresses
abbrev pub HasNoPlace : Layout → List ℕ → (from to : ℕ) → Type 0
HasNoPlace layout words from to = (v : ℕ) → from < v → v < to → ¬ IsPlace layout words v

-- the end of the page of a word address
abbrev pub page_end : ℕ → ℕ
page_end v = page_words * (v / page_words) + page_words

-- Behind the template of a at v comes the next entry, which is of the next address. The step to that
-- address is no crossing, and no other entry begins inside the template.
pub record HasNext (leads : ℕ → ℕ → Type 0) (layout : Layout) (image words : List ℕ) (a v : ℕ) : Type 0 where
  pub entry : leads (next_of image a) (v + size (template_at image a))
  pub uncounted : is_crossing a (next_of image a) ≡ false
  pub fits : v % page_words + size (template_at image a) ≤ page_words
  pub alone : HasNoPlace layout words v (v + size (template_at image a))

-- No entry follows in the page: behind the template stands the closing.
pub record IsLast (leads links : ℕ → ℕ → Type 0) (layout : Layout) (image words : List ℕ) (a v : ℕ) : Type 0 where
  pub closing : Stands leads words (v + size (template_at image a)) (closing_at image a)
  pub linked : EachLink links (v + size (template_at image a)) (closing_at image a)
  pub fits : v % page_words + size (template_at image a) + size (closing_at image a) ≤ page_words
  pub alone : HasNoPlace layout words v (page_end v)

pub data Behind (leads links : ℕ → ℕ → Type 0) (layout : Layout) (image words : List ℕ) (a v : ℕ) : Type 0 where
  Next : HasNext leads layout image words a v → Behind leads links layout image words a v
  Closed : IsLast leads links layout image words a v → Behind leads links layout image words a v

-- At the place v of a page of the pool stands the template of the image's instruction at a. Its links may
-- lead where `leads` allows, and are among `links`.
pub record StandsIn (leads links : ℕ → ℕ → Type 0) (layout : Layout) (image words : List ℕ) (a v : ℕ) : Type 0 where
  pub inside : a < length image
  pub pool : IsPool layout (v / page_words)
  pub place : IsPlace layout words v
  pub template : Stands leads words v (template_at image a)
  pub linked : EachLink links v (template_at image a)
  pub behind : Behind leads links layout image words a v
