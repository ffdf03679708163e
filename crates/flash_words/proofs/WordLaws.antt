-- Each word of flash is within 16 bits where each that is there is.
use Rattle.std.proofs.Common.{ℕ, ◌<◌, List, length, get_or, arith, inl, inr}
use Rattle.std.proofs.lemmas.List.{get_or_past}
use Rattle.std.proofs.lemmas.Bool.{cases_lt}
use Rattle.flash_words.specs.Memory.{AreWords}

pub words_fit : (words : List ℕ) → ((a d : ℕ) → a < length words → get_or words a d < 65536) → AreWords words
words_fit words fit a = elim (cases_lt a (length words)) [ inl inside ↦ fit a 0 inside | inr behind ↦ omega (arith, get_or_past words a 0 behind) ]
