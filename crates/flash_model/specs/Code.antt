-- Serves the contracts of `Flash::decoded` and `Flash::predecode`: what is decoded at each word address.
use Rattle.std.specs.Prelude.{ℕ, ◌+◌, ◌%◌, List}
use Rattle.std.specs.Option.{unwrap_or}
use Rattle.avr_isa.specs.declared.form.Form.TheVariants.{Nop}
use Rattle.avr_decode.specs.Decoding.{the_form, size_by_first_word}
use Rattle.flash_model.specs.declared.decoded.Decoded.{Decoded}
use Rattle.flash_words.specs.Pages.{word_count, word_at}

-- the word address behind a; behind the last word comes the first
abbrev pub behind : ℕ → ℕ
behind a = (a + 1) % word_count

-- what two words are decoded to: the instruction that they begin with, NOP also where they begin with
-- none, and the size of one that begins with the second
abbrev pub decoded_of : ℕ → ℕ → Decoded
decoded_of first second = record { instr = unwrap_or (the_form first second) Nop; next_size = size_by_first_word second }

-- what is decoded at word address a
abbrev pub decoded_at : List ℕ → ℕ → Decoded
decoded_at words a = decoded_of (word_at words a) (word_at words (behind a))
