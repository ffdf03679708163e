-- What is told of the bytes that worked programs read and write by address, row by row.
use lib.Count.{count_trailing_zeros}
use Rattle.std.proofs.Common.{◌≡◌, ℕ, List, [], ◌∷◌, ◌++◌, codes, refl}
use Rattle.std.specs.Fmt.{digits}
use Rattle.hex.specs.Hex.{encode_with}
use Rattle.input_script.specs.declared.input.Event.{Event}
use Rattle.input_script.specs.declared.input.Input.TheVariants.{Int}
use Rattle.avr_isa.specs.UndefinedPairs.{is_undefined}
use Rattle.avr_isa.specs.IoTable.{can_read, can_write, register_at}
use Rattle.avr_isa.specs.Addresses.{relative}
use Rattle.avr_decode.specs.Decoding.{the_form, is_long, two_word_form, one_word_form, if_defined, defined_form, product_form, move_or_product_form, form_0000, form_0001, form_0010}
use Rattle.avr_decode.specs.Decoding.{displaced_form, load_form, store_form, plain_form, flag_or_plain_form, one_register_form, register_or_pair_form, io_bit_form, transfer_form}
use Rattle.avr_decode.specs.Decoding.{form_1001, io_form, register_bit_form, form_1111}
use Rattle.avr_exec.specs.Registers.{own_byte, with_own_byte}
use Rattle.avr_exec.specs.Arithmetic.{immediate_of}
use Rattle.avr_exec.specs.Asks.{ask_of, finish_of, load_of, store_of, pointed}
use Rattle.avr_exec.specs.Effects.{loaded, stored, with_pointer}
use Rattle.avr_exec.specs.Execution.{answer_of, exec_of}
use Rattle.avr_exec.specs.StackRules.{push_on, pop_from, push_return_on, pop_return_from}
use Rattle.base.specs.Lists.{many}
use Rattle.mote_devices.specs.Accesses.{modify, read, write}
use Rattle.mote_devices.specs.Inputs.{unreceived, at_poll}
use Rattle.mote_devices.specs.Waking.{wake}
use Rattle.flat_machine.specs.FlatMachine.{Program, whole_part, original, run, next_of, tried, no_pages}
use Rattle.tk_watch.specs.declared.view.View.TheVariants.{Accesses}
use Rattle.tk_watch.specs.AccessesText.{access_line, access_of}
use Rattle.tk_watch.specs.StepTexts.{told_text}

-- the program of these words
abbrev program : List ℕ → Program
program image = record { image = image; part = whole_part image; page_limit = 128; quantum = 255 }

-- what is told of its first n steps: of so many bytes from an address on
abbrev shown : (image : List ℕ) → List Event → (first count n : ℕ) → List ℕ
shown image events first count n = told_text (Accesses first count) (program image) (original (program image) events) n

-- each row holds
record Rows : Type 0 where
  -- LDI r16, 0x77; STS 0x0100, r16; LDS r17, 0x0100
  memory : shown (0xE707 ∷ 0x9300 ∷ 0x0100 ∷ 0x9110 ∷ 0x0100 ∷ 0xCFFF ∷ []) [] 0 65536 3 ≡ codes "step 2 0x0001 store 0x0100 0x77 0x00\n" ++ codes "step 3 0x0003 load 0x0100 0x77 0x00\n"
  -- SEC; LDI r16, 0x5A; STS 0x0005, r16; LDS r17, 0x0010; IN r18, SREG: r5, r16 and SREG by their data addresses, with the carry set
  own : shown (0x9408 ∷ 0xE50A ∷ 0x9300 ∷ 0x0005 ∷ 0x9110 ∷ 0x0010 ∷ 0xB72F ∷ 0xCFFF ∷ []) [] 0 65536 5
      ≡ codes "step 3 0x0002 store 0x0005 0x5A 0x01\n" ++ codes "step 4 0x0004 load 0x0010 0x5A 0x01\n" ++ codes "step 5 0x0006 load 0x005F 0x01 0x01\n"
  -- SBI PORTA, 3; IN r17, PORTA; SBIC PORTA, 3, which doesn't skip the NOP; SBIS PORTA, 3, which does; CBI PORTA, 3; SBIS PORTA, 3
  bits : shown (0x9ADB ∷ 0xB31B ∷ 0x99DB ∷ 0x0000 ∷ 0x9BDB ∷ 0x0000 ∷ 0x98DB ∷ 0x9BDB ∷ 0xCFFF ∷ []) [] 0 65536 7
      ≡ codes "step 1 0x0000 set 0x003B 0x08 0x00\n" ++ codes "step 2 0x0001 load 0x003B 0x08 0x00\n" ++ codes "step 3 0x0002 test 0x003B 0x08 0x00\n"
      ++ codes "step 5 0x0004 test 0x003B 0x08 0x00\n" ++ codes "step 6 0x0006 clear 0x003B 0x08 0x00\n" ++ codes "step 7 0x0007 test 0x003B 0x00 0x00\n"
  -- SP is 0x10FF. PUSH r16; POP r17; CALL, whose low byte goes first; RET
  stack : shown (0xE100 ∷ 0xBF0E ∷ 0xEF0F ∷ 0xBF0D ∷ 0x930F ∷ 0x911F ∷ 0x940E ∷ 0x0009 ∷ 0xCFFF ∷ 0x9508 ∷ []) [] 0x1000 256 8
      ≡ codes "step 5 0x0004 store 0x10FF 0xFF 0x00\n" ++ codes "step 6 0x0005 load 0x10FF 0xFF 0x00\n" ++ codes "step 7 0x0006 store 0x10FF 0x08 0x00\n"
      ++ codes "step 7 0x0006 store 0x10FE 0x00 0x00\n" ++ codes "step 8 0x0009 load 0x10FE 0x00 0x00\n" ++ codes "step 8 0x0009 load 0x10FF 0x08 0x00\n"
  -- SLEEP, which INT0 ends: the interrupt pushes the pc; OUT PORTA, r16, which isn't watched; RETI
  interrupt : shown (0xC003 ∷ 0x0000 ∷ 0xBB0B ∷ 0x9518 ∷ 0xE100 ∷ 0xBF0E ∷ 0xEF0F ∷ 0xBF0D ∷ 0xE001 ∷ 0xBF09 ∷ 0x9478 ∷ 0x9588 ∷ 0x94F8 ∷ 0xCFFF ∷ [])
      (record { at = 1; input = Int 0 } ∷ []) 0x10FE 2 12
      ≡ codes "step 10 0x000C interrupt 0x10FF 0x0C 0x80\n" ++ codes "step 10 0x000C interrupt 0x10FE 0x00 0x80\n"
      ++ codes "step 12 0x0003 load 0x10FE 0x00 0x00\n" ++ codes "step 12 0x0003 load 0x10FF 0x0C 0x00\n"

-- by computation
rows : Rows
unfolding run next_of tried the_form is_long two_word_form one_word_form if_defined defined_form is_undefined product_form move_or_product_form form_0000
    form_0001 form_0010 displaced_form load_form store_form plain_form flag_or_plain_form one_register_form register_or_pair_form io_bit_form
    transfer_form form_1001 io_form register_bit_form form_1111 exec_of answer_of ask_of finish_of immediate_of load_of store_of
    pointed loaded stored with_pointer own_byte with_own_byte many no_pages push_on pop_from push_return_on pop_return_from modify read write can_read can_write
    register_at relative unreceived at_poll wake count_trailing_zeros access_of access_line encode_with digits
rows = record {
  memory = refl;
  own = refl;
  bits = refl;
  stack = refl;
  interrupt = refl;
}
