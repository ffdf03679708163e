-- Pieces of rewritten code where they stand in flash.
use Rattle.std.specs.Prelude.{◌≡◌, ℕ, ◌+◌, ◌⊎◌, List, [], ◌∷◌, length}
use Rattle.flash_words.specs.Pages.{word_at}
pub use Rattle.flash_words.specs.Jumps.{jump_word}
use Rattle.nat_template.specs.declared.piece.Piece.{Piece}
use Rattle.nat_template.specs.declared.piece.Piece.TheVariants.{Fixed, Link}
use Rattle.nat_template.specs.Stubs.{call_word, bridge_entry, words_of}

-- The first two words of a link that leads to t: a call of the kernel's bridge, or, once it is resolved, a
-- jump to a place where links to t may lead.
abbrev pub IsLink : (ℕ → ℕ → Type 0) → (first second t : ℕ) → Type 0
IsLink leads first second t =
    ((first ≡ call_word) × (second ≡ bridge_entry)) ⊎ ((first ≡ jump_word) × leads t second)

-- the piece stands at the word address a; a link's third word is its target
abbrev pub StandsAt : (ℕ → ℕ → Type 0) → List ℕ → ℕ → Piece → Type 0
StandsAt leads words a (Fixed word) = word_at words a ≡ word
StandsAt leads words a (Link t) = IsLink leads (word_at words a) (word_at words (a + 1)) t × (word_at words (a + 2) ≡ t)

-- how many words a piece has, and pieces in a row
abbrev pub width : Piece → ℕ
width (Fixed word) = 1
width (Link t) = 3

abbrev pub size : List Piece → ℕ
size pieces = length (words_of pieces)

-- the pieces stand in a row, the first at the word address a
abbrev pub Stands : (ℕ → ℕ → Type 0) → List ℕ → ℕ → List Piece → Type 0
Stands leads words a [] = Unit {0}
Stands leads words a (piece ∷ pieces) = StandsAt leads words a piece × Stands leads words (a + width piece) pieces
