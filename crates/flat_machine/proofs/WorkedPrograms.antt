-- The original program at longer programs: loops, the heap, calls, skips, flags and the devices.
use lib.Count.{count_trailing_zeros}
use Rattle.std.proofs.Common.{◌≡◌, [], ◌∷◌, refl}
use Rattle.input_script.specs.declared.input.Input.TheVariants.{Uart, Int}
use Rattle.avr_isa.specs.UndefinedPairs.{is_undefined}
use Rattle.avr_isa.specs.IoTable.{can_read, can_write, register_at}
use Rattle.avr_decode.specs.Decoding.{product_form, move_or_product_form, form_0000, form_0001, form_0010, displaced_form, load_form, store_form, plain_form, flag_or_plain_form, one_register_form}
use Rattle.avr_decode.specs.Decoding.{register_or_pair_form, io_bit_form, transfer_form, form_1001, io_form, register_bit_form, form_1111, one_word_form, is_long, two_word_form, defined_form}
use Rattle.avr_decode.specs.Decoding.{if_defined, the_form}
use Rattle.avr_flags.specs.Status.{with_result_flags}
use Rattle.avr_flags.specs.Sums.{sum_of, difference_of}
use Rattle.avr_isa.specs.Addresses.{relative}
use Rattle.avr_exec.specs.Registers.{own_byte, with_own_byte}
use Rattle.avr_exec.specs.Arithmetic.{two_of, immediate_of, word_of, one_of}
use Rattle.avr_exec.specs.Asks.{ask_of, finish_of, load_of, store_of, pointed}
use Rattle.avr_exec.specs.Effects.{loaded, stored, with_pointer}
use Rattle.avr_exec.specs.Execution.{answer_of, exec_of}
use Rattle.mote_devices.specs.declared.line.Port.TheVariants.{PortA, Uart0}
use Rattle.mote_devices.specs.Inputs.{unreceived, at_poll}
use Rattle.mote_devices.specs.Waking.{wake}
use Rattle.base.specs.Lists.{many}
use Rattle.mote_devices.specs.Accesses.{write, read}
use Rattle.avr_exec.specs.StackRules.{push_on, pop_from, push_return_on, pop_return_from}
use Rattle.flat_machine.specs.FlatMachine.{Spent, Halted, Asleep, SwapFull, original, run, next_of, tried, no_pages}
use Rattle.flat_machine.proofs.WorkedRows.{program, worked}

-- each row holds
record Programs : Type 0 where
  -- LDI r16, 3; DEC r16; BRNE to the DEC; RJMP to itself: the branch is taken twice
  loops : worked 16 (original (program 128 (0xE003 ∷ 0x950A ∷ 0xF7F1 ∷ 0xCFFF ∷ [])) [] 1000000) ≡ record { end = Halted 3; lines = []; steps = 7; crossings = 2; pc = 3; sp = 0; register = 0 }
  -- a callee pops its return address and sends it: the low byte is at the higher address
  popped_return : worked 31 (original (program 128 (0xE100 ∷ 0xBF0E ∷ 0xEF0F ∷ 0xBF0D ∷ 0xD001 ∷ 0xCFFF ∷ 0x91EF ∷ 0x91FF ∷ 0xB9EC ∷ 0xB9FC ∷ 0xCFFF ∷ [])) [] 1000000)
      ≡ record { end = Halted 0x0A; lines = record { port = Uart0; value = 0x00 } ∷ record { port = Uart0; value = 0x05 } ∷ []; steps = 9; crossings = 0; pc = 0x0A; sp = 0x10FF; register = 5 }
  -- a byte below SP survives a call; the return is a crossing
  below_the_stack : worked 17 (original (program 128 (0xE100 ∷ 0xBF0E ∷ 0xEF0F ∷ 0xBF0D ∷ 0xE50A ∷ 0x9300 ∷ 0x1000 ∷ 0xD004 ∷ 0x9110 ∷ 0x1000 ∷ 0xBB1B ∷ 0xCFFF ∷ 0x9508 ∷ [])) [] 1000000)
      ≡ record { end = Halted 0x0B; lines = record { port = PortA; value = 0x5A } ∷ []; steps = 10; crossings = 1; pc = 0x0B; sp = 0x10FF; register = 0x5A }
  -- ten pages of the heap are stored to and read back, in two loops that go round nine times each
  ten_pages : worked 16 (original (program 128 (0xE0A0 ∷ 0xE0B2 ∷ 0x93BC ∷ 0x95B3 ∷ 0x30BC ∷ 0xF7E1 ∷ 0xE0B2 ∷ 0x911C ∷ 0x0F01 ∷ 0x95B3 ∷ 0x30BC ∷ 0xF7D9 ∷ 0xBB0B ∷ 0xCFFF ∷ [])) [] 1000000)
      ≡ record { end = Halted 0x0D; lines = record { port = PortA; value = 0x41 } ∷ []; steps = 94; crossings = 18; pc = 0x0D; sp = 0; register = 0x41 }
  -- and where nine may be, the tenth store stops the program
  nine_pages : worked 27 (original (program 9 (0xE0A0 ∷ 0xE0B2 ∷ 0x93BC ∷ 0x95B3 ∷ 0x30BC ∷ 0xF7E1 ∷ 0xE0B2 ∷ 0x911C ∷ 0x0F01 ∷ 0x95B3 ∷ 0x30BC ∷ 0xF7D9 ∷ 0xBB0B ∷ 0xCFFF ∷ [])) [] 1000000)
      ≡ record { end = SwapFull 2 0x0B00; lines = []; steps = 38; crossings = 9; pc = 2; sp = 0; register = 0x0B }
  -- LPM of the last byte of the image, and of one past it
  past_the_image : worked 30 (original (program 128 (0xE0ED ∷ 0xE0F0 ∷ 0x9105 ∷ 0xBB0B ∷ 0x9104 ∷ 0xBB0B ∷ 0xCFFF ∷ [])) [] 1000000)
      ≡ record { end = Halted 6; lines = record { port = PortA; value = 0xCF } ∷ record { port = PortA; value = 0xFF } ∷ []; steps = 6; crossings = 0; pc = 6; sp = 0; register = 0x0E }
  -- CPSE over a JMP, over one word, and over a word that is no instruction
  skips : worked 16 (original (program 128 (0x1000 ∷ 0x940C ∷ 0x0000 ∷ 0x1000 ∷ 0xE50F ∷ 0x1000 ∷ 0x0001 ∷ 0xBB0B ∷ 0xCFFF ∷ [])) [] 1000000)
      ≡ record { end = Halted 8; lines = record { port = PortA; value = 0x00 } ∷ []; steps = 4; crossings = 0; pc = 8; sp = 0; register = 0 }
  -- RJMP, and a CPSE that skips from the last but one word of a page of 128 words into the next page
  skip_over_the_edge : worked 16 (original (program 128 (
      0xC07D ∷ 0x0000 ∷ 0x0000 ∷ 0x0000 ∷ 0x0000 ∷ 0x0000 ∷ 0x0000 ∷ 0x0000 ∷ 0x0000 ∷ 0x0000 ∷ 0x0000 ∷ 0x0000
      ∷ 0x0000 ∷ 0x0000 ∷ 0x0000 ∷ 0x0000 ∷ 0x0000 ∷ 0x0000 ∷ 0x0000 ∷ 0x0000 ∷ 0x0000 ∷ 0x0000 ∷ 0x0000 ∷ 0x0000
      ∷ 0x0000 ∷ 0x0000 ∷ 0x0000 ∷ 0x0000 ∷ 0x0000 ∷ 0x0000 ∷ 0x0000 ∷ 0x0000 ∷ 0x0000 ∷ 0x0000 ∷ 0x0000 ∷ 0x0000
      ∷ 0x0000 ∷ 0x0000 ∷ 0x0000 ∷ 0x0000 ∷ 0x0000 ∷ 0x0000 ∷ 0x0000 ∷ 0x0000 ∷ 0x0000 ∷ 0x0000 ∷ 0x0000 ∷ 0x0000
      ∷ 0x0000 ∷ 0x0000 ∷ 0x0000 ∷ 0x0000 ∷ 0x0000 ∷ 0x0000 ∷ 0x0000 ∷ 0x0000 ∷ 0x0000 ∷ 0x0000 ∷ 0x0000 ∷ 0x0000
      ∷ 0x0000 ∷ 0x0000 ∷ 0x0000 ∷ 0x0000 ∷ 0x0000 ∷ 0x0000 ∷ 0x0000 ∷ 0x0000 ∷ 0x0000 ∷ 0x0000 ∷ 0x0000 ∷ 0x0000
      ∷ 0x0000 ∷ 0x0000 ∷ 0x0000 ∷ 0x0000 ∷ 0x0000 ∷ 0x0000 ∷ 0x0000 ∷ 0x0000 ∷ 0x0000 ∷ 0x0000 ∷ 0x0000 ∷ 0x0000
      ∷ 0x0000 ∷ 0x0000 ∷ 0x0000 ∷ 0x0000 ∷ 0x0000 ∷ 0x0000 ∷ 0x0000 ∷ 0x0000 ∷ 0x0000 ∷ 0x0000 ∷ 0x0000 ∷ 0x0000
      ∷ 0x0000 ∷ 0x0000 ∷ 0x0000 ∷ 0x0000 ∷ 0x0000 ∷ 0x0000 ∷ 0x0000 ∷ 0x0000 ∷ 0x0000 ∷ 0x0000 ∷ 0x0000 ∷ 0x0000
      ∷ 0x0000 ∷ 0x0000 ∷ 0x0000 ∷ 0x0000 ∷ 0x0000 ∷ 0x0000 ∷ 0x0000 ∷ 0x0000 ∷ 0x0000 ∷ 0x0000 ∷ 0x0000 ∷ 0x0000
      ∷ 0x0000 ∷ 0x0000 ∷ 0x0000 ∷ 0x0000 ∷ 0x0000 ∷ 0x0000 ∷ 0x1000 ∷ 0x0000 ∷ 0xCFFF ∷ [])) [] 1000000)
      ≡ record { end = Halted 0x80; lines = []; steps = 2; crossings = 1; pc = 0x80; sp = 0; register = 0 }
  -- SREG after NEG of 0x80
  negated : worked 17 (original (program 128 (0xE800 ∷ 0x9501 ∷ 0xB71F ∷ 0xBB1B ∷ 0xCFFF ∷ [])) [] 1000000)
      ≡ record { end = Halted 4; lines = record { port = PortA; value = 0x0D } ∷ []; steps = 4; crossings = 0; pc = 4; sp = 0; register = 0x0D }
  -- a serial byte that comes with the third poll is sent back; the loop that waits for it goes round twice
  echo : worked 16 (original (program 128 (0xB10B ∷ 0xFF07 ∷ 0xCFFD ∷ 0xB10C ∷ 0xB90C ∷ 0xCFFF ∷ [])) (record { at = 3; input = Uart 0x41 } ∷ []) 1000000)
      ≡ record { end = Halted 5; lines = record { port = Uart0; value = 0x41 } ∷ []; steps = 10; crossings = 2; pc = 5; sp = 0; register = 0x41 }
  -- the same, cut off before the byte is sent
  echo_cut : worked 16 (original (program 128 (0xB10B ∷ 0xFF07 ∷ 0xCFFD ∷ 0xB10C ∷ 0xB90C ∷ 0xCFFF ∷ [])) (record { at = 3; input = Uart 0x41 } ∷ []) 9)
      ≡ record { end = Spent; lines = []; steps = 9; crossings = 2; pc = 4; sp = 0; register = 0x41 }
  -- SEI; SLEEP, which INT0 ends at once: the interrupt's code shows r16 and returns behind the SLEEP; CLI; RJMP to itself
  woken : worked 16 (original (program 128 (0xC003 ∷ 0x0000 ∷ 0xBB0B ∷ 0x9518 ∷ 0xE100 ∷ 0xBF0E ∷ 0xEF0F ∷ 0xBF0D ∷ 0xE001 ∷ 0xBF09 ∷ 0x9478 ∷ 0x9588 ∷ 0x94F8 ∷ 0xCFFF ∷ []))
      (record { at = 1; input = Int 0 } ∷ []) 1000000)
      ≡ record { end = Halted 0x0D; lines = record { port = PortA; value = 0x01 } ∷ []; steps = 13; crossings = 0; pc = 0x0D; sp = 0x10FF; register = 0x01 }
  -- the same without an interrupt
  never_woken : worked 16 (original (program 128 (0xC003 ∷ 0x0000 ∷ 0xBB0B ∷ 0x9518 ∷ 0xE100 ∷ 0xBF0E ∷ 0xEF0F ∷ 0xBF0D ∷ 0xE001 ∷ 0xBF09 ∷ 0x9478 ∷ 0x9588 ∷ 0x94F8 ∷ 0xCFFF ∷ [])) [] 1000000)
      ≡ record { end = Asleep 0x0B; lines = []; steps = 8; crossings = 0; pc = 0x0B; sp = 0x10FF; register = 0x01 }
  -- a loop of polls, with a checkpoint at each crossing: INT0 is taken at the second
  interrupted_loop : worked 16 (original (record (program 128 (0xC003 ∷ 0x0000 ∷ 0xBB0B ∷ 0xCFFF ∷ 0xE100 ∷ 0xBF0E ∷ 0xEF0F ∷ 0xBF0D ∷ 0xE001 ∷ 0xBF09 ∷ 0x9478 ∷ 0xB319 ∷ 0xCFFE
      ∷ [])) { quantum = 1 }) (record { at = 2; input = Int 0 } ∷ []) 1000000)
      ≡ record { end = Halted 3; lines = record { port = PortA; value = 0x01 } ∷ []; steps = 14; crossings = 2; pc = 3; sp = 0x10FD; register = 0x01 }
  -- IJMP
  indirect : worked 30 (original (program 128 (0xE0E4 ∷ 0xE0F0 ∷ 0x9409 ∷ 0x0000 ∷ 0xCFFF ∷ [])) [] 1000000)
      ≡ record { end = Halted 4; lines = []; steps = 3; crossings = 0; pc = 4; sp = 0; register = 4 }
  -- a program with the startup code of avr-gcc: three loops back and a return
  compiled : worked 26 (original (program 128 (
      0x940C ∷ 0x0046 ∷ 0x940C ∷ 0x0065 ∷ 0x940C ∷ 0x0065 ∷ 0x940C ∷ 0x0065 ∷ 0x940C ∷ 0x0065 ∷ 0x940C ∷ 0x0065
      ∷ 0x940C ∷ 0x0065 ∷ 0x940C ∷ 0x0065 ∷ 0x940C ∷ 0x0065 ∷ 0x940C ∷ 0x0065 ∷ 0x940C ∷ 0x0065 ∷ 0x940C ∷ 0x0065
      ∷ 0x940C ∷ 0x0065 ∷ 0x940C ∷ 0x0065 ∷ 0x940C ∷ 0x0065 ∷ 0x940C ∷ 0x0065 ∷ 0x940C ∷ 0x0065 ∷ 0x940C ∷ 0x0065
      ∷ 0x940C ∷ 0x0065 ∷ 0x940C ∷ 0x0065 ∷ 0x940C ∷ 0x0065 ∷ 0x940C ∷ 0x0065 ∷ 0x940C ∷ 0x0065 ∷ 0x940C ∷ 0x0065
      ∷ 0x940C ∷ 0x0065 ∷ 0x940C ∷ 0x0065 ∷ 0x940C ∷ 0x0065 ∷ 0x940C ∷ 0x0065 ∷ 0x940C ∷ 0x0065 ∷ 0x940C ∷ 0x0065
      ∷ 0x940C ∷ 0x0065 ∷ 0x940C ∷ 0x0065 ∷ 0x940C ∷ 0x0065 ∷ 0x940C ∷ 0x0065 ∷ 0x940C ∷ 0x0065 ∷ 0x2411 ∷ 0xBE1F
      ∷ 0xEFCF ∷ 0xE1D0 ∷ 0xBFDE ∷ 0xBFCD ∷ 0xE011 ∷ 0xE0A0 ∷ 0xE0B1 ∷ 0xEEE4 ∷ 0xE0F0 ∷ 0xE000 ∷ 0xBF0B ∷ 0xC002
      ∷ 0x9007 ∷ 0x920D ∷ 0x30A2 ∷ 0x07B1 ∷ 0xF7D9 ∷ 0xE021 ∷ 0xE0A2 ∷ 0xE0B1 ∷ 0xC001 ∷ 0x921D ∷ 0x30A3 ∷ 0x07B2
      ∷ 0xF7E1 ∷ 0x940E ∷ 0x0067 ∷ 0x940C ∷ 0x0070 ∷ 0x940C ∷ 0x0000 ∷ 0x9180 ∷ 0x0100 ∷ 0xB98C ∷ 0x9180 ∷ 0x0101
      ∷ 0xB98C ∷ 0xE080 ∷ 0xE090 ∷ 0x9508 ∷ 0x94F8 ∷ 0xCFFF ∷ 0x6948 ∷ [])) [] 1000000)
      ≡ record { end = Halted 0x71; lines = record { port = Uart0; value = 0x48 } ∷ record { port = Uart0; value = 0x69 } ∷ []; steps = 49; crossings = 4; pc = 0x71; sp = 0x10FF; register = 3 }

-- by computation
programs : Programs
unfolding run next_of tried the_form is_long two_word_form one_word_form if_defined defined_form is_undefined product_form move_or_product_form form_0000
    form_0001 form_0010 displaced_form load_form store_form plain_form flag_or_plain_form one_register_form register_or_pair_form io_bit_form
    transfer_form form_1001 io_form register_bit_form form_1111 exec_of answer_of ask_of finish_of two_of immediate_of word_of one_of load_of store_of
    pointed loaded stored with_pointer own_byte with_own_byte with_result_flags sum_of difference_of many
    no_pages push_on pop_from push_return_on pop_return_from read write can_read can_write register_at relative unreceived at_poll wake count_trailing_zeros
programs = record {
  loops = refl;
  popped_return = refl;
  below_the_stack = refl;
  ten_pages = refl;
  nine_pages = refl;
  past_the_image = refl;
  skips = refl;
  skip_over_the_edge = refl;
  negated = refl;
  echo = refl;
  echo_cut = refl;
  woken = refl;
  never_woken = refl;
  interrupted_loop = refl;
  indirect = refl;
  compiled = refl;
}
