-- Links: where rewritten code leads to an original address (docs/LOADER.md). Of a page that stays, the first
-- two words of its links are all that changes.
use Rattle.std.specs.Prelude.{◌≡◌, ℕ, ◌+◌, ◌*◌, List, [], ◌∷◌, ◌++◌, slice_set}
use Rattle.flash_words.specs.Pages.{page_words, word_at}
use Rattle.flash_words.specs.declared.layout.Layout.{Layout}
use Rattle.nat_template.specs.declared.piece.Piece.{Piece}
use Rattle.nat_template.specs.declared.piece.Piece.TheVariants.{Fixed, Link}
use Rattle.nat_template.specs.Stubs.{call_word, bridge_entry}
use Rattle.page_index.specs.Maps.{IsPool}
use Rattle.page_index.specs.Entries.{IsEntry}
use Rattle.page_draft.specs.Standing.{size}
use Rattle.page_draft.specs.CodePages.{page_pieces, HoldsRun}

-- of pieces in a row, the first at the word address `base`, one at s is a link to t
pub record IsLinkOf (pieces : List Piece) (base s t : ℕ) : Type 0 where
  pub before : List Piece
  pub behind : List Piece
  pub split : pieces ≡ before ++ Link t ∷ behind
  pub at : s ≡ base + size before

-- at s stands a link to t, in a page of the pool that holds a run
pub record IsLinkIn (layout : Layout) (image words : List ℕ) (s t : ℕ) : Type 0 where
  pub page : ℕ
  pub pool : IsPool layout page
  pub first : ℕ
  pub last : ℕ
  pub holds : HoldsRun (IsEntry layout words) image words page first last
  pub link : IsLinkOf (page_pieces image first last) (page_words * page) s t

-- it isn't resolved: its first two words call the kernel's bridge
pub record IsUnresolved (layout : Layout) (image words : List ℕ) (s t : ℕ) : Type 0 where
  pub link : IsLinkIn layout image words s t
  pub call : word_at words s ≡ call_word
  pub bridge : word_at words (s + 1) ≡ bridge_entry

-- of pieces in a row, the first at the word address a, each link is one of `links`
abbrev pub EachLink : (ℕ → ℕ → Type 0) → ℕ → List Piece → Type 0
EachLink links a [] = Unit {0}
EachLink links a (Fixed word ∷ pieces) = EachLink links (a + 1) pieces
EachLink links a (Link t ∷ pieces) = links a t × EachLink links (a + 3) pieces

-- the words with these two at s
unfoldable pub with_two_words : List ℕ → (s first second : ℕ) → List ℕ
with_two_words words s first second = slice_set (slice_set words s first) (s + 1) second
