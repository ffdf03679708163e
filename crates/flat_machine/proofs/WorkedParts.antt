-- Worked programs in a part of an image: what they may read, where they may run, and where they answer interrupts.
use lib.Count.{count_trailing_zeros}
use Rattle.std.proofs.Common.{◌≡◌, ℕ, true, false, List, [], ◌∷◌, refl}
use Rattle.input_script.specs.declared.input.Input.TheVariants.{Int}
use Rattle.avr_isa.specs.UndefinedPairs.{is_undefined}
use Rattle.avr_isa.specs.IoTable.{can_read, can_write, register_at}
use Rattle.avr_decode.specs.Decoding.{product_form, move_or_product_form, form_0000, form_0001, form_0010, displaced_form, load_form, store_form, plain_form, flag_or_plain_form, one_register_form}
use Rattle.avr_decode.specs.Decoding.{register_or_pair_form, io_bit_form, transfer_form, form_1001, io_form, register_bit_form, form_1111, one_word_form, is_long, two_word_form, defined_form}
use Rattle.avr_decode.specs.Decoding.{if_defined, the_form}
use Rattle.avr_isa.specs.Addresses.{relative}
use Rattle.avr_exec.specs.Registers.{own_byte, with_own_byte}
use Rattle.avr_exec.specs.Arithmetic.{two_of, immediate_of, word_of, one_of}
use Rattle.avr_exec.specs.Asks.{ask_of, finish_of, load_of, store_of, pointed}
use Rattle.avr_exec.specs.Effects.{loaded, stored, with_pointer}
use Rattle.avr_exec.specs.Execution.{answer_of, exec_of}
use Rattle.mote_devices.specs.declared.line.Port.TheVariants.{PortA}
use Rattle.mote_devices.specs.Inputs.{unreceived, at_poll}
use Rattle.mote_devices.specs.Waking.{wake}
use Rattle.base.specs.Lists.{many}
use Rattle.mote_devices.specs.Accesses.{write, read}
use Rattle.avr_exec.specs.StackRules.{push_on, pop_from, push_return_on, pop_return_from}
use Rattle.flat_machine.specs.FlatMachine.{Program, Halted, Wild, Read, original, run, next_of, tried, no_pages}
use Rattle.flat_machine.specs.Masked.{masked}
use Rattle.flat_machine.proofs.WorkedRows.{worked}

-- the program in a shut part of these words
abbrev part_of : (first count : ℕ) → List ℕ → Program
part_of first count image = record { image = image; part = record { first = first; count = count; shut = true }; page_limit = 128; quantum = 1 }

record Parts : Type 0 where
  -- LDI r30; LDI r31; LPM r16, Z of the first byte behind a part of six words, of the last one in it, and of a byte before a part
  behind : worked 30 (original (part_of 0 6 (0xE0EC ∷ 0xE0F0 ∷ 0x9104 ∷ 0xBB0B ∷ 0xCFFF ∷ 0xAB55 ∷ 0x1234 ∷ [])) [] 1000000)
      ≡ record { end = Read 2 6; lines = []; steps = 2; crossings = 0; pc = 2; sp = 0; register = 0x0C }
  last : worked 16 (original (part_of 0 6 (0xE0EB ∷ 0xE0F0 ∷ 0x9104 ∷ 0xBB0B ∷ 0xCFFF ∷ 0xAB55 ∷ 0x1234 ∷ [])) [] 1000000)
      ≡ record { end = Halted 4; lines = record { port = PortA; value = 0xAB } ∷ []; steps = 4; crossings = 0; pc = 4; sp = 0; register = 0xAB }
  before : worked 30 (original (part_of 2 4 (0x0000 ∷ 0x0000 ∷ 0xE0E3 ∷ 0xE0F0 ∷ 0x95C8 ∷ 0xCFFF ∷ [])) [] 1000000)
      ≡ record { end = Read 4 1; lines = []; steps = 2; crossings = 0; pc = 4; sp = 0; register = 0x03 }
  -- ELPM with RAMPZ 1, with its three forms
  extended : worked 16 (original (part_of 0 6 (0xE001 ∷ 0xBF0B ∷ 0xE0E0 ∷ 0xE0F0 ∷ 0x9106 ∷ 0xCFFF ∷ [])) [] 1000000)
      ≡ record { end = Read 4 0x8000; lines = []; steps = 4; crossings = 0; pc = 4; sp = 0; register = 0x01 }
  raising : worked 16 (original (part_of 0 6 (0xE001 ∷ 0xBF0B ∷ 0xE0E2 ∷ 0xE0F0 ∷ 0x9107 ∷ 0xCFFF ∷ [])) [] 1000000)
      ≡ record { end = Read 4 0x8001; lines = []; steps = 4; crossings = 0; pc = 4; sp = 0; register = 0x01 }
  to_r0 : worked 16 (original (part_of 0 6 (0xE001 ∷ 0xBF0B ∷ 0xE0E0 ∷ 0xE0F0 ∷ 0x95D8 ∷ 0xCFFF ∷ [])) [] 1000000)
      ≡ record { end = Read 4 0x8000; lines = []; steps = 4; crossings = 0; pc = 4; sp = 0; register = 0x01 }
  -- a part that isn't shut reads past the image
  open_part : worked 16 (original (record (part_of 0 6 (0xE001 ∷ 0xBF0B ∷ 0xE0E0 ∷ 0xE0F0 ∷ 0x9106 ∷ 0xCFFF ∷ [])) { part = record { first = 0; count = 6; shut = false } }) [] 1000000)
      ≡ record { end = Halted 5; lines = []; steps = 5; crossings = 0; pc = 5; sp = 0; register = 0xFF }
  -- RJMP into the next part is wild, though an instruction stands there
  next_part : worked 16 (original (part_of 0 4 (0xC003 ∷ 0x0000 ∷ 0x0000 ∷ 0x0000 ∷ 0xCFFF ∷ [])) [] 1000000)
      ≡ record { end = Wild 4; lines = []; steps = 1; crossings = 0; pc = 4; sp = 0; register = 0 }
  -- the loop of polls in a part from word 16 on: INT0 is answered at word 18
  interrupted_part : worked 16 (original (part_of 16 16 (
      0xCFFF ∷ 0xCFFF ∷ 0xCFFF ∷ 0xCFFF ∷ 0xCFFF ∷ 0xCFFF ∷ 0xCFFF ∷ 0xCFFF ∷ 0xCFFF ∷ 0xCFFF ∷ 0xCFFF ∷ 0xCFFF ∷ 0xCFFF ∷ 0xCFFF ∷ 0xCFFF ∷ 0xCFFF
      ∷ 0xC003 ∷ 0x0000 ∷ 0xBB0B ∷ 0xCFFF ∷ 0xE100 ∷ 0xBF0E ∷ 0xEF0F ∷ 0xBF0D ∷ 0xE001 ∷ 0xBF09 ∷ 0x9478 ∷ 0xB319 ∷ 0xCFFE ∷ [])) (record { at = 2; input = Int 0 } ∷ []) 1000000)
      ≡ record { end = Halted 19; lines = record { port = PortA; value = 0x01 } ∷ []; steps = 14; crossings = 2; pc = 19; sp = 0x10FD; register = 0x01 }
  -- the words of a part alone
  alone : masked (record { first = 1; count = 2; shut = true }) (0x1111 ∷ 0x2222 ∷ 0x3333 ∷ 0x4444 ∷ []) ≡ 0xFFFF ∷ 0x2222 ∷ 0x3333 ∷ 0xFFFF ∷ []

-- by computation
parts : Parts
unfolding run next_of tried the_form is_long two_word_form one_word_form if_defined defined_form is_undefined product_form move_or_product_form form_0000
    form_0001 form_0010 displaced_form load_form store_form plain_form flag_or_plain_form one_register_form register_or_pair_form io_bit_form
    transfer_form form_1001 io_form register_bit_form form_1111 exec_of answer_of ask_of finish_of two_of immediate_of word_of one_of load_of store_of
    pointed loaded stored with_pointer own_byte with_own_byte many
    no_pages push_on pop_from push_return_on pop_return_from read write can_read can_write register_at relative unreceived at_poll wake count_trailing_zeros
parts = record {
  behind = refl;
  last = refl;
  before = refl;
  extended = refl;
  raising = refl;
  to_r0 = refl;
  open_part = refl;
  next_part = refl;
  interrupted_part = refl;
  alone = refl;
}
