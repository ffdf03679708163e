-- Instructions that stand in a row in flash.
use Rattle.std.specs.Prelude.{◌≡◌, ℕ, ◌+◌, List, [], ◌∷◌, Some}
use Rattle.avr_isa.specs.declared.form.Form.{Form}
use Rattle.avr_decode.specs.Decoding.{the_form}
use Rattle.avr_isa.specs.Addresses.{wrapping_sum}
use Rattle.flash_words.specs.Pages.{word_at}
use Rattle.nat_template.specs.Words.{width_of}

-- the first at the word address a
abbrev pub Row : List ℕ → ℕ → List Form → Type 0
Row words a [] = Unit {0}
Row words a (form ∷ forms) = (the_form (word_at words a) (word_at words (wrapping_sum a 1)) ≡ Some form) × Row words (a + width_of form) forms
