-- The original program at worked programs of a few instructions: every way to end, and what the run comes to.
use Rattle.std.proofs.Common.{◌≡◌, ℕ, List, [], ◌∷◌, slice_index, refl}
use Rattle.avr_decode.specs.Decoding.{the_form, is_long, two_word_form, one_word_form, if_defined, defined_form, load_form, store_form, io_form, form_1001, transfer_form, register_or_pair_form}
use Rattle.avr_decode.specs.Decoding.{one_register_form, flag_or_plain_form, plain_form}
use Rattle.avr_isa.specs.UndefinedPairs.{is_undefined}
use Rattle.avr_isa.specs.IoTable.{can_read, can_write, register_at}
use Rattle.avr_isa.specs.Addresses.{relative}
use Rattle.avr_exec.specs.Registers.{own_byte, with_own_byte}
use Rattle.avr_exec.specs.Arithmetic.{immediate_of}
use Rattle.avr_exec.specs.Asks.{ask_of, finish_of, load_of, store_of, pointed}
use Rattle.avr_exec.specs.Effects.{loaded, stored, with_pointer}
use Rattle.avr_exec.specs.Execution.{answer_of, exec_of}
use Rattle.mote_devices.specs.declared.line.Line.{Line}
use Rattle.mote_devices.specs.declared.line.Port.TheVariants.{PortA}
use Rattle.base.specs.Lists.{many}
use Rattle.mote_devices.specs.Accesses.{write, read}
use Rattle.avr_exec.specs.StackRules.{push_on, pop_from, push_return_on, pop_return_from}
use Rattle.flat_machine.specs.FlatMachine.{Program, whole_part, End, Spent, Wild, Illegal, SelfProgram, Asleep, Halted, Io, Stack, SwapFull, Run, original, run, next_of, tried, no_pages}

-- a program of these words that may store to as many pages
abbrev pub program : ℕ → List ℕ → Program
program page_limit image = record { image = image; part = whole_part image; page_limit = page_limit; quantum = 255 }

-- What a run comes to: its end and its lines, the steps and crossings done, and where the core then stands,
-- with one of its registers.
pub record Worked : Type 0 where
  pub end : End
  pub lines : List Line
  pub steps : ℕ
  pub crossings : ℕ
  pub pc : ℕ
  pub sp : ℕ
  pub register : ℕ

abbrev pub worked : ℕ → Run → Worked
worked number r = record {
  end = r.end;
  lines = r.lines;
  steps = r.state.now.steps;
  crossings = r.state.now.crossings;
  pc = r.state.now.cpu.pc;
  sp = r.state.now.cpu.sp;
  register = slice_index r.state.now.cpu.r number;
}

-- each row holds
record Rows : Type 0 where
  -- LDI r16, 0x0F; OUT PORTA, r16; RJMP to itself
  first : worked 16 (original (program 128 (0xE00F ∷ 0xBB0B ∷ 0xCFFF ∷ [])) [] 1000000)
      ≡ record { end = Halted 2; lines = record { port = PortA; value = 0x0F } ∷ []; steps = 2; crossings = 0; pc = 2; sp = 0; register = 0x0F }
  -- LDI r16, 0x0F; JMP to itself
  jumps_to_itself : worked 16 (original (program 128 (0xE00F ∷ 0x940C ∷ 0x0001 ∷ [])) [] 3) ≡ record { end = Halted 1; lines = []; steps = 1; crossings = 0; pc = 1; sp = 0; register = 0x0F }
  -- PUSH r30 at SP 0; RJMP to itself
  push_at_zero : worked 30 (original (program 128 (0x93EF ∷ 0xCFFF ∷ [])) [] 1000000) ≡ record { end = Stack 0 0; lines = []; steps = 0; crossings = 0; pc = 0; sp = 0; register = 0 }
  -- LDI r16, 0x0D; OUT SPH, r16; RCALL; RJMP to itself: the second byte would be below the window
  call_at_the_edge : worked 16 (original (program 128 (0xE00D ∷ 0xBF0E ∷ 0xD000 ∷ 0xCFFF ∷ [])) [] 1000000)
      ≡ record { end = Stack 2 0x0CFF; lines = []; steps = 2; crossings = 0; pc = 2; sp = 0x0D00; register = 0x0D }
  -- LDI r16, 0x77; STS 0x0100, r16; LDS r17, 0x0100; OUT PORTA, r17; RJMP to itself
  store_and_load : worked 17 (original (program 128 (0xE707 ∷ 0x9300 ∷ 0x0100 ∷ 0x9110 ∷ 0x0100 ∷ 0xBB1B ∷ 0xCFFF ∷ [])) [] 1000000)
      ≡ record { end = Halted 6; lines = record { port = PortA; value = 0x77 } ∷ []; steps = 4; crossings = 0; pc = 6; sp = 0; register = 0x77 }
  -- LDI r26, 0x00; LDI r27, 0x02; ST X+, r16; RJMP to itself, where no page may be stored to: X stays
  no_page : worked 26 (original (program 0 (0xE0A0 ∷ 0xE0B2 ∷ 0x930D ∷ 0xCFFF ∷ [])) [] 1000000)
      ≡ record { end = SwapFull 2 0x0200; lines = []; steps = 2; crossings = 0; pc = 2; sp = 0; register = 0 }
  -- SPM
  selfprogram : worked 16 (original (program 128 (0x95E8 ∷ [])) [] 1000000) ≡ record { end = SelfProgram 0; lines = []; steps = 0; crossings = 0; pc = 0; sp = 0; register = 0 }
  -- LD r26, X+, which the manual leaves undefined
  illegal : worked 26 (original (program 128 (0x91AD ∷ [])) [] 1000000) ≡ record { end = Illegal 0; lines = []; steps = 0; crossings = 0; pc = 0; sp = 0; register = 0 }
  -- OUT EECR, r16
  io : worked 16 (original (program 128 (0xBB0C ∷ [])) [] 1000000) ≡ record { end = Io 0 0x3C; lines = []; steps = 0; crossings = 0; pc = 0; sp = 0; register = 0 }
  -- SLEEP
  asleep : worked 16 (original (program 128 (0x9588 ∷ [])) [] 1000000) ≡ record { end = Asleep 0; lines = []; steps = 0; crossings = 0; pc = 0; sp = 0; register = 0 }
  -- no word at all
  empty : worked 16 (original (program 128 []) [] 1000000) ≡ record { end = Wild 0; lines = []; steps = 0; crossings = 0; pc = 0; sp = 0; register = 0 }
  -- RJMP out of the image
  wild : worked 16 (original (program 128 (0xC00F ∷ [])) [] 1) ≡ record { end = Wild 0x10; lines = []; steps = 1; crossings = 0; pc = 0x10; sp = 0; register = 0 }
  -- and no step of it
  spent : worked 16 (original (program 128 (0xC00F ∷ [])) [] 0) ≡ record { end = Spent; lines = []; steps = 0; crossings = 0; pc = 0; sp = 0; register = 0 }
  -- SEI; RJMP to itself, five steps of it: each jump is a crossing
  interrupts_on : worked 16 (original (program 128 (0x9478 ∷ 0xCFFF ∷ [])) [] 5) ≡ record { end = Spent; lines = []; steps = 5; crossings = 4; pc = 1; sp = 0; register = 0 }

-- by computation
rows : Rows
unfolding run next_of tried the_form is_long two_word_form one_word_form if_defined defined_form is_undefined load_form store_form io_form form_1001
    transfer_form register_or_pair_form one_register_form flag_or_plain_form plain_form exec_of answer_of ask_of finish_of immediate_of load_of
    store_of pointed loaded stored with_pointer own_byte with_own_byte many no_pages push_on pop_from push_return_on pop_return_from read write
    can_read can_write register_at relative
rows = record {
  first = refl;
  jumps_to_itself = refl;
  push_at_zero = refl;
  call_at_the_edge = refl;
  store_and_load = refl;
  no_page = refl;
  selfprogram = refl;
  illegal = refl;
  io = refl;
  asleep = refl;
  empty = refl;
  wild = refl;
  spent = refl;
  interrupts_on = refl;
}
