-- The guarded space: the program's memory over the mote's own parts. The stack window is SRAM at the same
-- addresses, and the heap is kept in frames and swap slots (crate heap_frames).
use Rattle.std.specs.Prelude.{ℕ, List, length, Option, Some, None}
use Rattle.avr_isa.specs.Image.{byte}
use Rattle.avr_exec.specs.declared.cpu.Cpu.{Cpu}
use Rattle.avr_exec.specs.declared.stop.BusStop.TheVariants.{Io, Stack as StackStop, SwapFull as FullStop}
use Rattle.avr_exec.specs.Spaces.{Outcome, Went, Stopped, Calls}
use Rattle.avr_exec.specs.StackRules.{StackRule, push_on, pop_from, push_return_on, pop_return_from}
use Rattle.flash_words.specs.declared.layout.Layout.{Layout}
use Rattle.flash_words.specs.Layouts.{image_of}
use Rattle.sram_layout.specs.Bytes.{byte_at, with_byte}
use Rattle.flat_machine.specs.Addresses.{is_stack}
use Rattle.heap_frames.specs.Frames.{pages}
use Rattle.heap_frames.specs.Memory.{vmem}
use Rattle.heap_frames.specs.Paging.{Store, heap_load, heap_store}
use Rattle.mote_devices.specs.declared.line.Line.{Line}
use Rattle.mote_devices.specs.State.{State, stored, with_stored, rampz_address}
use Rattle.mote_devices.specs.Accesses.{Asked, answered_or, read, write, modify as modify_device}
use Rattle.flat_machine.specs.declared.address.AddrClass.{AddrClass}
use Rattle.flat_machine.specs.declared.part.Part.{Part}
use Rattle.flat_machine.specs.declared.address.AddrClass.TheVariants.{Stack, Heap}
use Rattle.flat_machine.specs.Classes.{class_of}
use Rattle.flat_machine.specs.FlatSpace.{FlatSpace}
use Rattle.flat_machine.specs.FlatMachine.{Program, FlatState}

-- the bytes of SRAM, the swap slots, the devices, the words of flash and which of them are the image's,
-- and what the last write of a device showed outside
pub record Guarded : Type 0 where
  pub sram : List ℕ
  pub swap : List (List ℕ)
  pub devices : State
  pub words : List ℕ
  pub layout : Layout
  pub line : Option Line

-- the program of a part of the image: as many pages of the heap may be stored to as there are slots
abbrev pub program_of : Part → ℕ → Guarded → Program
program_of part quantum g = record { image = image_of g.layout g.words; part = part; page_limit = length g.swap; quantum = quantum }

-- what the program sees of it: flat memory
abbrev pub flat_of : Guarded → FlatSpace
flat_of g = record {
  memory = vmem g.sram g.swap;
  devices = g.devices;
  pages = pages g.sram;
  page_limit = length g.swap;
  image = image_of g.layout g.words;
  line = g.line;
}

-- and the state that the program is in, with these registers and counts
abbrev pub state_of : Guarded → Cpu → ℕ → ℕ → FlatState
state_of g cpu steps crossings = record {
  cpu = cpu;
  memory = vmem g.sram g.swap;
  devices = g.devices;
  pages = pages g.sram;
  steps = steps;
  crossings = crossings;
}

-- what the heap is kept in
abbrev pub heap_of : Guarded → Store
heap_of g = record { sram = g.sram; swap = g.swap }

abbrev pub with_heap : Guarded → Store → Guarded
with_heap g h = record g { sram = h.sram; swap = h.swap }

-- with another byte at a data address of SRAM
abbrev pub with_sram : Guarded → ℕ → ℕ → Guarded
with_sram g a v = record g { sram = with_byte g.sram a v }

-- what the devices answered to a read, and to a write, at data address a
abbrev pub from_device : Guarded → ℕ → Asked ℕ → Outcome Guarded ℕ
from_device g a asked = answered_or (Stopped (Io a)) (λ v next. Went v (record g { devices = next })) asked

abbrev pub to_device : Guarded → ℕ → Asked (Option Line) → Outcome Guarded (Unit {0})
to_device g a asked = answered_or (Stopped (Io a)) (λ line next. Went tt (record g { devices = next; line = line })) asked

-- what the heap answered to a load, and to a store at data address a
abbrev pub from_heap : Guarded → ℕ × Store → Outcome Guarded ℕ
from_heap g answer = Went answer.0 (with_heap g answer.1)

abbrev pub to_heap : Guarded → ℕ → Option Store → Outcome Guarded (Unit {0})
to_heap g a (Some h) = Went tt (with_heap g h)
to_heap g a None = Stopped (FullStop a)

abbrev pub load_in : AddrClass → Guarded → ℕ → Outcome Guarded ℕ
load_in Stack g a = Went (byte_at g.sram a) g
load_in Heap g a = from_heap g (heap_load (heap_of g) a)
load_in _ g a = from_device g a (read g.devices a)

unfoldable pub load : Guarded → ℕ → Outcome Guarded ℕ
load g a = load_in (class_of a) g a

abbrev pub store_in : AddrClass → Guarded → ℕ → ℕ → Outcome Guarded (Unit {0})
store_in Stack g a v = Went tt (with_sram g a v)
store_in Heap g a v = to_heap g a (heap_store (heap_of g) a v)
store_in _ g a v = to_device g a (write g.devices a v)

unfoldable pub store : Guarded → ℕ → ℕ → Outcome Guarded (Unit {0})
store g a v = store_in (class_of a) g a v

unfoldable pub modify : Guarded → ℕ → ℕ → ℕ → Outcome Guarded (Unit {0})
modify g a clear set = to_device g a (modify_device g.devices a clear set)

-- the stack keeps to its window
abbrev pub guarded_stack : StackRule Guarded
guarded_stack = record { holds = λ a. is_stack a; byte = λ g a. byte_at g.sram a; with_byte = λ g a v. with_sram g a v; stop = λ a. StackStop a }

unfoldable pub push : Guarded → ℕ → ℕ → Outcome Guarded (Unit {0})
push g sp v = push_on guarded_stack g sp v

unfoldable pub pop : Guarded → ℕ → Outcome Guarded ℕ
pop g sp = pop_from guarded_stack g sp

unfoldable pub push_return : Guarded → ℕ → ℕ → Outcome Guarded (Unit {0})
push_return g sp ret = push_return_on guarded_stack g sp ret

unfoldable pub pop_return : Guarded → ℕ → Outcome Guarded ℕ
pop_return g sp = pop_return_from guarded_stack g sp

-- the space as a bus's calls
abbrev pub guarded_calls : Calls Guarded
guarded_calls = record {
  load = load;
  store = store;
  modify = modify;
  push = push;
  pop = pop;
  push_ret = push_return;
  pop_ret = pop_return;
  rampz = λ g. stored g.devices rampz_address;
  set_rampz = λ g v. record g { devices = with_stored g.devices rampz_address v };
  flash_byte = λ g a. byte (image_of g.layout g.words) a;
}
