-- The instructions of a program: at each address, what its word there and the one behind it mean.
-- AVR Instruction Set Manual, "Opcodes" of each instruction; addresses wrap at 65,536 words.
use Rattle.std.specs.Prelude.{ℕ, ◌+◌, ◌%◌, List, Option}
use Rattle.avr_isa.specs.declared.form.Form.{Form}
use Rattle.avr_isa.specs.Image.{word}
use Rattle.avr_decode.specs.Decoding.{the_form}

-- the instruction that the image has at an address, if there is one
abbrev pub instruction_at : List ℕ → ℕ → Option Form
instruction_at image a = the_form (word image a) (word image ((a + 1) % 65536))
