-- Whether the links of a page, and its entries, agree with the other pages of the pool; and when a flash is right
-- as a whole.
use Rattle.std.specs.Prelude.{◌≡◌, ℕ, ◌+◌, ◌*◌, ◌<◌, ◌≤◌, ◌⊎◌, List}
use Rattle.flash_words.specs.Pages.{page_words, page_count, word_at, page_of}
use Rattle.flash_words.specs.declared.layout.Layout.{Layout}
use Rattle.page_index.specs.Maps.{IsPool, IsFree, IsMap}
use Rattle.page_index.specs.Entries.{Lists, IsEntry}
use Rattle.nat_template.specs.declared.piece.Piece.{Piece}
use Rattle.nat_template.specs.declared.piece.Piece.TheVariants.{Fixed, Link}
use Rattle.page_draft.specs.Standing.{jump_word}
use Rattle.page_draft.specs.CodePages.{page_pieces, HoldsRun, Anywhere}
use Rattle.nat_page.specs.Links.{IsLinkOf}
use Rattle.pool_check.specs.Forms.{HasForm}

-- v is the place of the one entry of t
pub record IsOneEntry (layout : Layout) (words : List ℕ) (t v : ℕ) : Type 0 where
  pub entry : IsEntry layout words t v
  pub one : (v' : ℕ) → IsEntry layout words t v' → v' ≡ v

-- a link at s to t goes there, if it jumps
abbrev pub IsRightLink : Layout → List ℕ → ℕ → ℕ → Type 0
IsRightLink layout words s t = word_at words s ≡ jump_word → IsOneEntry layout words t (word_at words (s + 1))

-- a piece at a word address, if it is a link, is one of these
abbrev pub IsHere : (ℕ → ℕ → Type 0) → ℕ → Piece → Type 0
IsHere links a (Fixed word) = Unit {0}
IsHere links a (Link t) = links a t

-- each page of the pool is free or has a map
abbrev pub ArePages : Layout → List ℕ → Type 0
ArePages layout words = (page : ℕ) → IsPool layout page → IsFree words page ⊎ IsMap words page

-- each page of the pool up to this one is
abbrev pub ArePagesTo : Layout → List ℕ → ℕ → Type 0
ArePagesTo layout words top = (page : ℕ) → IsPool layout page → page ≤ top → IsFree words page ⊎ IsMap words page

-- no page of the pool below this one has an entry of t
abbrev pub IsUnlisted : Layout → List ℕ → (page t : ℕ) → Type 0
IsUnlisted layout words page t = (lower i v : ℕ) → IsPool layout lower → lower < page → Lists words lower i t v → ⊥

-- nor of one of the page's addresses
abbrev pub IsAlone : Layout → List ℕ → ℕ → Type 0
IsAlone layout words page = (lower i j t v v' : ℕ) → IsPool layout lower → lower < page → Lists words lower i t v → Lists words page j t v' → ⊥

-- No lower page of the pool has an entry of one of the page's addresses, and each jump in a link to t goes to
-- the place of the one entry of t.
pub record HasLinks (layout : Layout) (image words : List ℕ) (page : ℕ) : Type 0 where
  pub alone : IsAlone layout words page
  pub lead : (first last s t : ℕ) → HoldsRun Anywhere image words page first last → IsLinkOf (page_pieces image first last) (page_words * page) s t
      → word_at words s ≡ jump_word → IsOneEntry layout words t (word_at words (s + 1))

-- each page has its form
abbrev pub HaveForms : Layout → (image words : List ℕ) → Type 0
HaveForms layout image words = (page : ℕ) → page < page_count → HasForm layout image page (page_of words page)

-- each page outside the pool has its form
abbrev pub HaveFormsAround : Layout → (image words : List ℕ) → Type 0
HaveFormsAround layout image words = (page : ℕ) → page < page_count → ¬ IsPool layout page → HasForm layout image page (page_of words page)

-- each page of the pool has its links
abbrev pub HaveLinks : Layout → (image words : List ℕ) → Type 0
HaveLinks layout image words = (page : ℕ) → IsPool layout page → HasLinks layout image words page

-- both
pub record IsChecked (layout : Layout) (image words : List ℕ) : Type 0 where
  pub forms : HaveForms layout image words
  pub links : HaveLinks layout image words
