-- Serves private functions and the contract of `KeptDrafts::draft`: a page that was drafted, until its address wants one again
-- (docs/LOADER.md, "Kept drafts").
use Rattle.std.specs.Prelude.{◌≡◌, ℕ, suc, ◌+◌, ◌*◌, ◌/◌, ◌<◌, ◌≤◌, Bool, true, false, List, length}
use Rattle.avr_isa.specs.Image.{word}
use Rattle.flash_model.specs.declared.micro_ops.MicroOp.{MicroOp}
use Rattle.flash_words.specs.Pages.{page_words, word_at}
use Rattle.flash_words.specs.Layouts.{most_image_words}
use Rattle.flash_words.specs.declared.layout.Layout.{Layout}
use Rattle.page_index.specs.Maps.{IsFree}
use Rattle.page_draft.specs.Runs.{address, IsRun}
use Rattle.page_draft.specs.CodePages.{page_size, made_words}
use Rattle.flash_model.specs.DecodeCache.{StandForPage}
use Rattle.nat_page.specs.Making.{PageStops, IsPrepared}

-- what is kept of a page that was drafted: the address that its run begins with, that of its last instruction, and the one behind it;
-- whether an entry stopped it; its words, how many of them stand in front of its code, and the micro-operation of each but the last;
-- and of the image that it was drafted from the number of words, those of the run's original page, and the one behind these
pub record Kept : Type 0 where
  pub made : Bool
  pub first : ℕ
  pub last : ℕ
  pub next : ℕ
  pub stops_at_entry : Bool
  pub words : List ℕ
  pub front : ℕ
  pub micro_ops : List MicroOp
  pub image_words : ℕ
  pub original : List ℕ
  pub behind : ℕ

-- these are the image's words of an original page, and the one behind it
pub record HasWords (image : List ℕ) (page : ℕ) (words : List ℕ) (behind : ℕ) : Type 0 where
  pub own : (k : ℕ) → k < page_words → page_words * page + k < length image → word image (page_words * page + k) ≡ word_at words k
  pub next : word image (page_words * (page + 1)) ≡ behind

-- it is the page of a run of an image that has the words that are kept of it; where no entry stopped the run, it stops behind its
-- last instruction whatever pages there are
pub record IsDraftOf (image : List ℕ) (kept : Kept) : Type 0 where
  pub index : ℕ
  pub short : length image ≤ most_image_words
  pub run : IsRun image kept.first index
  pub fits : page_size image kept.first index ≤ page_words
  pub last : kept.last ≡ address image kept.first index
  pub next : kept.next ≡ address image kept.first (suc index)
  pub at_entry : kept.stops_at_entry ≡ true → kept.next / page_words ≡ kept.first / page_words
  pub alone : kept.stops_at_entry ≡ false → (layout : Layout) (words : List ℕ) (page : ℕ) → PageStops layout image words page kept.first index
  pub words : kept.words ≡ made_words image kept.first index
  pub front : kept.front ≡ 2 + suc index
  pub sized : kept.image_words ≡ length image
  pub read : HasWords image (kept.first / page_words) kept.original kept.behind

-- there is such an image, where it was drafted; its code begins within the page; and each micro-operation may stand for its word
pub record IsKept (kept : Kept) : Type 0 where
  pub drafted : kept.made ≡ true → (image : List ℕ) × IsDraftOf image kept
  pub few : kept.front ≤ page_words
  pub micro_ops : StandForPage kept.words kept.micro_ops

-- it is the page of t in each page that is free
abbrev pub Serves : (layout : Layout) (image old : List ℕ) (t : ℕ) → Kept → Type 0
Serves layout image old t kept = (page : ℕ) → IsFree old page → IsPrepared layout image old page t kept.words (page_words * page + kept.front)
