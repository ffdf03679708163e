-- Code of several programs in one pool: a page is of the part of the image that its run is in, and its resolved links lead
-- into that part (docs/LOADER.md, "Parts").
use Rattle.std.specs.Prelude.{◌≡◌, ℕ, ◌/◌, List}
use Rattle.flash_words.specs.Pages.{page_words, word_at}
use Rattle.flash_words.specs.declared.layout.Layout.{Layout}
use Rattle.page_index.specs.Entries.{IsEntry}
use Rattle.page_draft.specs.Standing.{jump_word}
use Rattle.nat_page.specs.Links.{IsLinkIn}

-- A number for the part of each address. No original page of 128 words is in two parts.
abbrev pub IsByPage : (ℕ → ℕ) → Type 0
IsByPage part = (a b : ℕ) → a / page_words ≡ b / page_words → part a ≡ part b

-- v is the place of the entry of t, which is of part q
abbrev pub EntersPart : Layout → (words : List ℕ) → (part : ℕ → ℕ) → (q : ℕ) → (t v : ℕ) → Type 0
EntersPart layout words part q t v = IsEntry layout words t v × (part t ≡ q)

-- at s stands a link to t, in a page of part q
pub record IsLinkFrom (layout : Layout) (image words : List ℕ) (part : ℕ → ℕ) (q s t : ℕ) : Type 0 where
  pub link : IsLinkIn layout image words s t
  pub own : part link.first ≡ q

-- each link that is resolved leads into the part that its page is of
abbrev pub IsParted : Layout → (image words : List ℕ) → (part : ℕ → ℕ) → Type 0
IsParted layout image words part = (s t : ℕ) → (link : IsLinkIn layout image words s t) → word_at words s ≡ jump_word → part link.first ≡ part t
