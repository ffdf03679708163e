-- The words of instructions in a row.
use Rattle.std.specs.Prelude.{ℕ, List, ◌∷◌, length}
use Rattle.std.specs.Option.{option_to_list}
use Rattle.std.specs.List.{flat_map}
use Rattle.avr_isa.specs.declared.form.Form.{Form}
use Rattle.avr_isa.specs.Encoding.{first_word, second_word}

abbrev pub words_of_form : Form → List ℕ
words_of_form form = first_word form ∷ option_to_list (second_word form)

abbrev pub words_of_forms : List Form → List ℕ
words_of_forms forms = flat_map words_of_form forms

-- how many words an instruction has
abbrev pub width_of : Form → ℕ
width_of form = length (words_of_form form)

-- SREG as the field A of IN and OUT (ATmega128 datasheet, "Status Register")
abbrev pub sreg_field : ℕ
sreg_field = 0x3F
