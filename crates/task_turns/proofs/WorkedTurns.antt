-- Two small sets of tasks, in turn.
use Rattle.std.proofs.Common.{◌≡◌, ℕ, true, List, [], ◌∷◌, ◌++◌, refl}
use Rattle.avr_isa.specs.UndefinedPairs.{is_undefined}
use Rattle.avr_isa.specs.IoTable.{can_read, can_write, register_at}
use Rattle.avr_decode.specs.Decoding.{product_form, move_or_product_form, form_0000, form_0001, form_0010, displaced_form, load_form, store_form, plain_form, flag_or_plain_form, one_register_form}
use Rattle.avr_decode.specs.Decoding.{register_or_pair_form, io_bit_form, transfer_form, form_1001, io_form, register_bit_form, form_1111, one_word_form, is_long, two_word_form, defined_form}
use Rattle.avr_decode.specs.Decoding.{if_defined, the_form}
use Rattle.avr_flags.specs.Status.{with_result_flags}
use Rattle.avr_flags.specs.Sums.{sum_of, difference_of}
use Rattle.avr_isa.specs.Addresses.{relative}
use Rattle.avr_exec.specs.Registers.{own_byte, with_own_byte}
use Rattle.avr_exec.specs.Arithmetic.{two_of, immediate_of, word_of, one_of}
use Rattle.avr_exec.specs.Asks.{ask_of, finish_of, load_of, store_of, pointed}
use Rattle.avr_exec.specs.Effects.{loaded, stored, with_pointer}
use Rattle.avr_exec.specs.Execution.{answer_of, exec_of}
use Rattle.mote_devices.specs.declared.line.Port.TheVariants.{PortA}
use Rattle.mote_devices.specs.Inputs.{unreceived, at_poll}
use Rattle.mote_devices.specs.Waking.{wake}
use Rattle.base.specs.Lists.{many}
use Rattle.mote_devices.specs.Accesses.{write, read}
use Rattle.avr_exec.specs.StackRules.{push_on, pop_from, push_return_on, pop_return_from}
use Rattle.flat_machine.specs.FlatMachine.{Program, Halted, run, next_of, tried, no_pages}
use Rattle.task_turns.specs.Turns.{Player, Wrote, Stops, tries, turns, at_reset_in, from_start}

abbrev program : (quantum first : ℕ) → List ℕ → Program
program quantum first image = record { image = image; part = record { first = first; count = 4096; shut = true }; page_limit = 32; quantum = quantum }

-- the same words from the first quarter's front on, and from the second's
abbrev second : List ℕ → List ℕ
second words = many 4096 0xFFFF ++ words

abbrev task : ℕ → ℕ → List ℕ → Player
task quantum first words = at_reset_in (program quantum first words) [] 1000000

record Rows : Type 0 where
  -- LDI r16, 0x0F; OUT PORTA, r16; RJMP to itself, and the same with 0x1F
  one_after_other : (turns (from_start (task 255 0 (0xE00F ∷ 0xBB0B ∷ 0xCFFF ∷ []) ∷ task 255 0x1000 (second (0xE10F ∷ 0xBB0B ∷ 0xCFFF ∷ [])) ∷ []))).told
      ≡ record { task = 0; shown = Wrote (record { port = PortA; value = 0x0F }) } ∷ record { task = 0; shown = Stops (Halted 2) 2 0 }
      ∷ record { task = 1; shown = Wrote (record { port = PortA; value = 0x1F }) } ∷ record { task = 1; shown = Stops (Halted 0x1002) 2 0 } ∷ []
  one_switch : (turns (from_start (task 255 0 (0xE00F ∷ 0xBB0B ∷ 0xCFFF ∷ []) ∷ task 255 0x1000 (second (0xE10F ∷ 0xBB0B ∷ 0xCFFF ∷ [])) ∷ []))).turns.switches ≡ 1
  -- LDI r16, 2; OUT PORTA, r16; DEC r16; BRNE to the OUT; RJMP to itself, twice, where each crossing is a checkpoint
  in_turn : (turns (from_start (task 1 0 (0xE002 ∷ 0xBB0B ∷ 0x950A ∷ 0xF7E9 ∷ 0xCFFF ∷ []) ∷ task 1 0x1000 (second (0xE002 ∷ 0xBB0B ∷ 0x950A ∷ 0xF7E9 ∷ 0xCFFF ∷ [])) ∷ []))).told
      ≡ record { task = 0; shown = Wrote (record { port = PortA; value = 2 }) } ∷ record { task = 1; shown = Wrote (record { port = PortA; value = 2 }) }
      ∷ record { task = 0; shown = Wrote (record { port = PortA; value = 1 }) } ∷ record { task = 0; shown = Stops (Halted 4) 7 1 }
      ∷ record { task = 1; shown = Wrote (record { port = PortA; value = 1 }) } ∷ record { task = 1; shown = Stops (Halted 0x1004) 7 1 } ∷ []
  three_switches : (turns (from_start (task 1 0 (0xE002 ∷ 0xBB0B ∷ 0x950A ∷ 0xF7E9 ∷ 0xCFFF ∷ []) ∷ task 1 0x1000 (second (0xE002 ∷ 0xBB0B ∷ 0x950A ∷ 0xF7E9 ∷ 0xCFFF ∷ [])) ∷ []))).turns.switches ≡ 3

-- by computation
rows : Rows
unfolding tries run next_of tried the_form is_long two_word_form one_word_form if_defined defined_form is_undefined product_form move_or_product_form form_0000
    form_0001 form_0010 displaced_form load_form store_form plain_form flag_or_plain_form one_register_form register_or_pair_form io_bit_form
    transfer_form form_1001 io_form register_bit_form form_1111 exec_of answer_of ask_of finish_of two_of immediate_of word_of one_of load_of store_of
    pointed loaded stored with_pointer own_byte with_own_byte with_result_flags sum_of difference_of many
    no_pages push_on pop_from push_return_on pop_return_from read write can_read can_write register_at relative unreceived at_poll wake
rows = record {
  one_after_other = refl;
  one_switch = refl;
  in_turn = refl;
  three_switches = refl;
}
