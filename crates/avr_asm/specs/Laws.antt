-- Serves the contract of `one_image`: laws of texts.
use Rattle.std.specs.Prelude.{◌≡◌, ℕ, List}
use Rattle.avr_asm.specs.AsmText.{AsmText}

-- a text has one list of words at most
abbrev pub HasOneImage : Type 0
HasOneImage = (text v w : List ℕ) → AsmText text v → AsmText text w → v ≡ w
