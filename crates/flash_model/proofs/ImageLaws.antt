-- The words of the image, which is the front of flash's words.
use Rattle.std.proofs.Common.{◌≡◌, ℕ, ◌<◌, ◌≤◌, List, length, take, arith, inl, inr, ◌∙◌}
use Rattle.std.proofs.lemmas.List.{get_or-take, get_or_default, get_or_past, length-take}
use Rattle.std.proofs.lemmas.Bool.{cases_lt}
use Rattle.avr_isa.specs.Image.{word}
use Rattle.flash_words.specs.Pages.{word_at}
use Rattle.flash_words.specs.Memory.{AreWords}

-- a word of the image is flash's word at the same address
pub word_of_image : (n a : ℕ) (words : List ℕ) → a < n → n ≤ length words → word (take n words) a ≡ word_at words a
word_of_image n a words below fits = get_or-take n words a 0xFFFF below ∙ get_or_default words a 0xFFFF 0 (omega arith)

-- behind the image every word is 0xFFFF
pub word_behind_image : (n a : ℕ) (words : List ℕ) → n ≤ a → word (take n words) a ≡ 0xFFFF
word_behind_image n a words behind = get_or_past (take n words) a 0xFFFF (omega (arith, length-take n words))

-- the first n words, with 0xFFFF behind them, have 16 bits
pub front_fits : (words : List ℕ) (n a : ℕ) → AreWords words → word (take n words) a < 65536
front_fits words n a fit = elim (cases_lt a (length (take n words))) [
  | inl inside ↦ omega (arith, get_or_default (take n words) a 0xFFFF 0 inside, get_or-take n words a 0 (omega (arith, length-take n words)), fit a)
  | inr behind ↦ omega (arith, get_or_past (take n words) a 0xFFFF behind)
]
