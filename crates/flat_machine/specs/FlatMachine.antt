-- The original program, run as it stands: its own words, one after another, over flat memory.
-- AVR Instruction Set Manual, "Operation" of each instruction; docs/MEMORY.md has the order of the stops.
use Rattle.std.specs.Prelude.{ℕ, zero, suc, ◌+◌, ◌*◌, ◌/◌, ◌%◌, Bool, true, false, not, ◌&&◌, ◌==◌, nat_le, nat_lt, if◌then◌else◌, List, [], ◌∷◌, length, Option, Some, None, replicate}
use Rattle.input_script.specs.declared.input.Event.{Event}
use Rattle.avr_isa.specs.declared.form.Form.{Form}
use Rattle.avr_isa.specs.declared.form.Form.TheVariants.{Jmp, Rjmp, Sleep, Spm}
use Rattle.avr_isa.specs.Image.{word}
use Rattle.avr_isa.specs.Crossing.{is_crossing}
use Rattle.avr_decode.specs.Decoding.{size_by_first_word}
use Rattle.avr_decode.specs.Program.{instruction_at}
use Rattle.std.specs.Int.{w8, trailing_zeros}
use Rattle.avr_flags.specs.Status.{has_bit, with_bit, interrupts}
use Rattle.avr_exec.specs.declared.cpu.Cpu.{Cpu}
use Rattle.avr_exec.specs.declared.ask.Ask.{Ask}
use Rattle.avr_exec.specs.declared.ask.Ask.TheVariants.{Program as ProgramAsk, ExtendedProgram as ExtendedAsk, ExtendedProgramRaising as RaisingAsk}
use Rattle.avr_exec.specs.declared.stop.BusStop.{BusStop}
use Rattle.avr_exec.specs.declared.stop.BusStop.TheVariants.{Io as IoStop, Stack as StackStop, SwapFull as FullStop}
use Rattle.avr_isa.specs.Addresses.{wrapping_sum, wrapping_difference, relative}
use Rattle.avr_exec.specs.Spaces.{Outcome, Went, Stopped}
use Rattle.avr_exec.specs.StackRules.{push_return_on}
use Rattle.avr_exec.specs.Asks.{ask_of}
use Rattle.avr_exec.specs.Execution.{exec_of, extended}
use Rattle.mote_devices.specs.declared.line.Line.{Line}
use Rattle.base.specs.Lists.{zeros}
use Rattle.mote_devices.specs.State.{State, at_reset as devices_at_reset, stored, rampz_address}
use Rattle.mote_devices.specs.Waking.{enabled, is_enabled, with_taken, wake}
use Rattle.flat_machine.specs.declared.part.Part.{Part}
use Rattle.flat_machine.specs.FlatSpace.{FlatSpace, flat_calls, flat_stack}

-- all of an image is a program's own part
abbrev pub whole_part : List ℕ → Part
whole_part image = record { first = 0; count = length image; shut = false }

-- the word address is the part's own
abbrev pub is_own : Part → ℕ → Bool
is_own part a = nat_le part.first a && nat_lt a (part.first + part.count)

-- a program: the image from word 0 on and its own part of that, how many pages of the heap it may store to, and how
-- many crossings make a checkpoint
pub record Program : Type 0 where
  pub image : List ℕ
  pub part : Part
  pub page_limit : ℕ
  pub quantum : ℕ

-- the program runs its own words alone
abbrev pub is_inside : Program → ℕ → Bool
is_inside program pc = is_own program.part pc

-- the core, a byte for each data address, the devices, which pages of the heap were stored to, the steps
-- done, and how many of them were crossings
pub record FlatState : Type 0 where
  pub cpu : Cpu
  pub memory : List ℕ
  pub devices : State
  pub pages : List Bool
  pub steps : ℕ
  pub crossings : ℕ

-- Between two steps; `due`: an interrupt may be taken before the next, since the last was a checkpoint, or a SLEEP that
-- an interrupt ended.
pub record Moment : Type 0 where
  pub now : FlatState
  pub due : Bool

-- How a run ends: the bound of steps is reached; the pc is outside the program's part; or the instruction at the
-- pc stops the program, one with the word address that it would have read, the last three with a data address.
pub data End : Type 0 where
  Spent : End
  Wild : (pc : ℕ) → End
  Illegal : (pc : ℕ) → End
  SelfProgram : (pc : ℕ) → End
  Asleep : (pc : ℕ) → End
  Halted : (pc : ℕ) → End
  Read : (pc : ℕ) → (word : ℕ) → End
  Io : (pc : ℕ) → (address : ℕ) → End
  Stack : (pc : ℕ) → (address : ℕ) → End
  SwapFull : (pc : ℕ) → (address : ℕ) → End

-- an instruction that is tried: it ends the run, or is a step, which may write a line; or it is a SLEEP that an interrupt ends
pub data Tried : Type 0 where
  Stops : (end : End) → Tried
  Goes : (line : Option Line) → (next : FlatState) → Tried
  Wakes : (next : FlatState) → Tried

-- how many words the next instruction has, which a skip passes over
abbrev pub next_size : List ℕ → ℕ → ℕ
next_size image pc = size_by_first_word (word image (wrapping_sum pc 1))

-- an RJMP or JMP to its own address
abbrev pub jumps_to_itself : ℕ → Form → Bool
jumps_to_itself pc (Jmp a) = a == pc
jumps_to_itself pc (Rjmp k) = relative pc k == pc
jumps_to_itself pc _ = false

-- what an instruction reaches of the machine
abbrev pub space_of : Program → FlatState → FlatSpace
space_of program s = record {
  memory = s.memory;
  devices = s.devices;
  pages = s.pages;
  page_limit = program.page_limit;
  image = program.image;
  line = None;
}

-- a stop of the instruction at the pc
abbrev pub end_at : ℕ → BusStop → End
end_at pc (IoStop a) = Io pc a
end_at pc (StackStop a) = Stack pc a
end_at pc (FullStop a) = SwapFull pc a

-- the outcome of the instruction as an end or a step
abbrev pub stepped : FlatState → Outcome FlatSpace Cpu → Tried
stepped s (Stopped stop) = Stops (end_at s.cpu.pc stop)
stepped s (Went cpu space) = Goes space.line (record {
  cpu = cpu;
  memory = space.memory;
  devices = space.devices;
  pages = space.pages;
  steps = s.steps + 1;
  crossings = if is_crossing s.cpu.pc cpu.pc then s.crossings + 1 else s.crossings;
})

-- the instruction is executed, unless it is an RJMP or JMP to its own address with interrupts off, which would
-- run for ever
abbrev pub executed : Program → FlatState → Form → Tried
executed program s form =
    if jumps_to_itself s.cpu.pc form && not (has_bit s.cpu.sreg interrupts) then Stops (Halted s.cpu.pc)
    else stepped s (exec_of flat_calls form s.cpu (space_of program s) (next_size program.image s.cpu.pc))

-- SLEEP: with interrupts on the program goes on once one is enabled; with interrupts off, or where none will be, it
-- sleeps for ever
abbrev pub woken_with : FlatState → State → FlatState
woken_with s devices = record s {
  cpu = record s.cpu { pc = wrapping_sum s.cpu.pc 1 };
  devices = devices;
  steps = s.steps + 1;
  crossings = if is_crossing s.cpu.pc (wrapping_sum s.cpu.pc 1) then s.crossings + 1 else s.crossings;
}

abbrev pub slept_by : FlatState → Option State → Tried
slept_by s None = Stops (Asleep s.cpu.pc)
slept_by s (Some devices) = Wakes (woken_with s devices)

abbrev pub slept : FlatState → Tried
slept s = if has_bit s.cpu.sreg interrupts then slept_by s (wake s.devices) else Stops (Asleep s.cpu.pc)

-- the word address of the byte that LPM or ELPM reads
abbrev pub word_asked : (rampz : ℕ) → Ask → Option ℕ
word_asked rampz (ProgramAsk z) = Some (z / 2)
word_asked rampz (ExtendedAsk z) = Some (extended rampz z / 2)
word_asked rampz (RaisingAsk z) = Some (extended rampz z / 2)
word_asked rampz _ = None

-- .. where it may not be read
abbrev pub if_foreign : Part → Option ℕ → Option ℕ
if_foreign part None = None
if_foreign part (Some a) = if part.shut && not (is_own part a) then Some a else None

abbrev pub foreign_word : Program → FlatState → Form → Option ℕ
foreign_word program s form = if_foreign program.part (word_asked (stored s.devices rampz_address) (ask_of form s.cpu))

-- it stops the program; every other instruction is executed
abbrev pub read_or_executed : Program → FlatState → Form → Option ℕ → Tried
read_or_executed program s form (Some a) = Stops (Read s.cpu.pc a)
read_or_executed program s form None = executed program s form

-- an instruction, or none, at the pc
abbrev pub tried_form : Program → FlatState → Option Form → Tried
tried_form program s None = Stops (Illegal s.cpu.pc)
tried_form program s (Some Spm) = Stops (SelfProgram s.cpu.pc)
tried_form program s (Some Sleep) = slept s
tried_form program s (Some form) = read_or_executed program s form (foreign_word program s form)

unfoldable pub tried : Program → FlatState → Tried
tried program s = tried_form program s (instruction_at program.image s.cpu.pc)

-- what comes next: the end of the run, or a step, which may write a line
pub data Next : Type 0 where
  Ends : (end : End) → Next
  On : (line : Option Line) → (moment : Moment) → Next

-- the least number of a bit that is set in a byte, which has one
abbrev pub lowest : ℕ → ℕ
lowest = trailing_zeros w8

-- the word address where the program answers INTk, at the front of its part (ATmega128 datasheet, "Reset and Interrupt
-- Vectors"); addresses wrap
abbrev pub vector : Part → ℕ → ℕ
vector part k = wrapping_sum part.first (2 * (k + 1))

-- an interrupt is taken before the next instruction
abbrev pub is_taken : Moment → Bool
is_taken m = m.due && (has_bit m.now.cpu.sreg interrupts && is_enabled m.now.devices)

-- INTk is taken: the pc is pushed as by a call, interrupts are off, INTk is no longer pending, and the program goes on at
-- its vector. This is a step, and no crossing.
abbrev pub interrupted_by : Part → FlatState → ℕ → Outcome FlatSpace (Unit {0}) → Next
interrupted_by part s k (Stopped stop) = Ends (end_at s.cpu.pc stop)
interrupted_by part s k (Went done space) = On None (record {
  now = record {
    cpu = record { r = s.cpu.r; sreg = with_bit s.cpu.sreg interrupts false; sp = wrapping_difference s.cpu.sp 2; pc = vector part k };
    memory = space.memory;
    devices = with_taken space.devices k;
    pages = space.pages;
    steps = s.steps + 1;
    crossings = s.crossings;
  };
  due = false;
})

-- the one with the least number
abbrev pub interrupted : Program → FlatState → Next
interrupted program s = interrupted_by program.part s (lowest (enabled s.devices)) (push_return_on flat_stack (space_of program s) s.cpu.sp s.cpu.pc)

-- a step is a checkpoint where it is a crossing, and the crossings are then a multiple of the quantum
abbrev pub is_checkpoint : ℕ → FlatState → FlatState → Bool
is_checkpoint quantum s next = is_crossing s.cpu.pc next.cpu.pc && (next.crossings % quantum == 0)

abbrev pub next_by : ℕ → FlatState → Tried → Next
next_by quantum s (Stops end) = Ends end
next_by quantum s (Goes line next) = On line (record { now = next; due = is_checkpoint quantum s next })
next_by quantum s (Wakes next) = On None (record { now = next; due = true })

-- an interrupt, or else the instruction at the pc
unfoldable pub next_of : Program → Moment → Next
next_of program m = if is_taken m then interrupted program m.now else next_by program.quantum m.now (tried program m.now)

-- an end, the lines that were written, and the moment
pub record Run : Type 0 where
  pub end : End
  pub lines : List Line
  pub state : Moment

abbrev pub ended : End → Moment → Run
ended end m = record { end = end; lines = []; state = m }

-- a run whose first step wrote this line
abbrev pub with_line : Option Line → Run → Run
with_line None r = r
with_line (Some line) r = record r { lines = line ∷ r.lines }

-- the run after a try, where a step is followed by the rest of the run
abbrev pub followed : Moment → Next → (Moment → Run) → Run
followed m (Ends end) rest = ended end m
followed m (On line next) rest = with_line line (rest next)

-- outside the program's part the run ends at once
abbrev pub if_inside : Program → Moment → Run → Run
if_inside program m r = if is_inside program m.now.cpu.pc then r else ended (Wild m.now.cpu.pc) m

-- the run of at most n steps from a moment
unfoldable pub run : Program → Moment → ℕ → Run
run program m zero = if_inside program m (ended Spent m)
run program m (suc n) = if_inside program m (followed m (next_of program m) (λ next. run program next n))

-- how many pages of 256 bytes the data addresses have, none of them stored to
unfoldable pub no_pages : List Bool
no_pages = replicate 256 false

-- at reset all is 0, no page was stored to, and the events are to come
abbrev pub at_reset : List Event → FlatState
at_reset events = record {
  cpu = record { r = zeros 32; sreg = 0; sp = 0; pc = 0 };
  memory = zeros 65536;
  devices = devices_at_reset events;
  pages = no_pages;
  steps = 0;
  crossings = 0;
}

-- the same where a program begins, at the front of its part
abbrev pub at_front : Program → List Event → Moment
at_front program events = record { now = record (at_reset events) { cpu = record (at_reset events).cpu { pc = program.part.first } }; due = false }

-- the original program's first n steps
abbrev pub original : Program → List Event → ℕ → Run
original program events n = run program (at_front program events) n
