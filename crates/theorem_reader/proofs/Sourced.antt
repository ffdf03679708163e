-- A source that asks for its image, and words and texts that are refused.
use Rattle.std.proofs.Common.{◌≡◌, ℕ, List, [], ◌∷◌, codes, Some, None, refl, arith}
use Rattle.avr_isa.specs.Instruction.{fields_in_range, is_valid, size_of}
use Rattle.avr_isa.specs.UndefinedPairs.{is_undefined}
use Rattle.avr_decode.specs.Decoding.{the_form, if_defined, is_long, one_word_form, defined_form, io_form}
use Rattle.decode_laws.proofs.Decoded.{the_form_is_decoded}
use Rattle.avr_asm.specs.Mnemonics.{operation_of}
use Rattle.avr_asm.specs.Numbers.{number_of}
use Rattle.avr_asm.specs.Operands.{is_name, name_of, operand_of, pointer_of, register_of}
use Rattle.avr_asm.specs.SourceLines.{statement_of}
use Rattle.avr_asm.specs.Statements.{meaning_of}
use Rattle.avr_asm.specs.AsmText.{AsmText, fault_of}
use Rattle.avr_asm.specs.declared.fault.AsmFault.TheVariants as asm_faults
use Rattle.hex.proofs.OnLiterals.{hex_on_literals}
use Rattle.hex_image.specs.HexText.{hex_fault}
use Rattle.hex_image.specs.declared.fault.HexFault.TheVariants as hex_faults
use Rattle.cli_words.specs.declared.command.Command.TheVariants.{Asm, Help}
use Rattle.cli_words.specs.Commands.{IsCommand}
use Rattle.cli_words.specs.Options.{nothing}
use Rattle.theorem_reader.specs.Refusals.{AsksAsm, Helped, IsUsage, IsRefused, BadHex, BadSource, Scripted, Runs, bad_line}
use Rattle.theorem_reader.specs.Runs.{example}
use Rattle.cli_words.proofs.WorkedWords.{without_options}

abbrev source : List ℕ
source = codes "ldi r16, 0x0F\nout 0x1B, r16\nagain: rjmp again\n"

abbrev hex_text : List ℕ
hex_text = codes ":060000000FE00BBBFFCF77\n:00000001FF\n"

pub asm_word : IsCommand (codes "asm" ∷ []) Asm
asm_word = (refl, (nothing, ([], (refl, refl)), refl))

help_word : IsCommand (codes "help" ∷ []) Help
help_word = (refl, (nothing, ([], (refl, refl)), refl))

pub asks_help : IsUsage (codes "help" ∷ []) 0
asks_help = Helped help_word refl

faultless : fault_of source ≡ None
unfolding statement_of operation_of operand_of register_of pointer_of number_of name_of is_name meaning_of is_valid fields_in_range is_undefined size_of
faultless = refl

its_words : AsmText source example.image
unfolding statement_of operation_of operand_of register_of pointer_of number_of name_of is_name meaning_of
    is_valid fields_in_range is_undefined size_of the_form if_defined is_long one_word_form defined_form io_form
its_words = (
  record { inside = omega arith; decoded = the_form_is_decoded 0xE00F 0xBB0B (omega arith) (omega arith) },
  (
    record { inside = omega arith; decoded = the_form_is_decoded 0xBB0B 0xCFFF (omega arith) (omega arith) },
    (
      record { inside = omega arith; decoded = the_form_is_decoded 0xCFFF 0xFFFF (omega arith) (omega arith) },
      refl,
    ),
  ),
)

pub asks_asm : AsksAsm (codes "asm" ∷ []) source example.image
asks_asm = record { command = asm_word; short = omega arith; faultless = faultless; source = its_words }

first_fault : fault_of hex_text ≡ Some (1, asm_faults.Form)
unfolding statement_of operation_of operand_of register_of pointer_of number_of name_of is_name meaning_of is_valid fields_in_range is_undefined size_of
first_fault = refl

pub bad_source : IsRefused (codes "asm" ∷ []) hex_text (bad_line (codes "asm") 1 (codes "form"))
bad_source = BadSource asm_word (omega arith) 1 asm_faults.Form first_fault refl

first_hex_fault : hex_fault source ≡ Some (1, hex_faults.Start)
unfolding hex_on_literals
first_hex_fault = refl

pub bad_hex : IsRefused (codes "run" ∷ []) source (bad_line (codes "hex") 1 (codes "start"))
bad_hex = BadHex (Scripted (Runs _ without_options)) (omega arith) 1 hex_faults.Start first_hex_fault refl
