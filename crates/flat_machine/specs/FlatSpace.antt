-- The data memory of the original program's machine: flat bytes, and the devices' registers.
-- ATmega128 datasheet, "AVR ATmega128 Memories"; docs/MEMORY.md has what the profile adds.
use Rattle.std.specs.Prelude.{ℕ, ◌/◌, Bool, true, false, ◌||◌, nat_lt, if◌then◌else◌, List, slice_index, slice_index_or, slice_set, count_by, Option}
use Rattle.avr_isa.specs.Image.{byte}
use Rattle.avr_exec.specs.declared.stop.BusStop.TheVariants.{Io, Stack as StackStop, SwapFull as FullStop}
use Rattle.avr_exec.specs.Spaces.{Outcome, Went, Stopped, Calls}
use Rattle.avr_exec.specs.StackRules.{StackRule, push_on, pop_from, push_return_on, pop_return_from}
use Rattle.flat_machine.specs.Addresses.{is_stack, is_heap}
use Rattle.mote_devices.specs.declared.line.Line.{Line}
use Rattle.mote_devices.specs.State.{State, stored, with_stored, rampz_address}
use Rattle.mote_devices.specs.Accesses.{Asked, answered_or, read, write, modify}

-- A byte for each data address, of which those from 0x0100 on are used; the devices; which pages of the
-- heap were stored to, and how many may be; the program's words; and what the last write of a device
-- showed outside.
pub record FlatSpace : Type 0 where
  pub memory : List ℕ
  pub devices : State
  pub pages : List Bool
  pub page_limit : ℕ
  pub image : List ℕ
  pub line : Option Line

-- the byte at a data address, and another byte there
abbrev pub memory_byte : FlatSpace → ℕ → ℕ
memory_byte s a = slice_index s.memory a

abbrev pub with_memory : FlatSpace → ℕ → ℕ → FlatSpace
with_memory s a v = record s { memory = slice_set s.memory a v }

-- the page of a data address was stored to, and joins those that were
abbrev pub has_page : FlatSpace → ℕ → Bool
has_page s a = slice_index_or s.pages (a / 256) false

abbrev pub with_page : FlatSpace → ℕ → FlatSpace
with_page s a = record s { pages = slice_set s.pages (a / 256) true }

-- one more page may be stored to
abbrev pub has_room : FlatSpace → Bool
has_room s = nat_lt (count_by (λ b. b) s.pages) s.page_limit

-- what the devices answered to a read, and to a write, at data address a
abbrev pub from_device : FlatSpace → ℕ → Asked ℕ → Outcome FlatSpace ℕ
from_device s a asked = answered_or (Stopped (Io a)) (λ v next. Went v (record s { devices = next })) asked

abbrev pub to_device : FlatSpace → ℕ → Asked (Option Line) → Outcome FlatSpace (Unit {0})
to_device s a asked = answered_or (Stopped (Io a)) (λ line next. Went tt (record s { devices = next; line = line })) asked

-- a store to the heap: the page was stored to before, or joins where one more may
abbrev pub store_to_heap : FlatSpace → ℕ → ℕ → Outcome FlatSpace (Unit {0})
store_to_heap s a v =
    if has_page s a || has_room s then Went tt (with_memory (with_page s a) a v) else Stopped (FullStop a)

-- the stack keeps to its window
abbrev pub flat_stack : StackRule FlatSpace
flat_stack = record { holds = λ a. is_stack a; byte = λ s a. memory_byte s a; with_byte = λ s a v. with_memory s a v; stop = λ a. StackStop a }

-- The space as a bus's calls. A load and a store reach memory in the stack window and in the heap, and else the devices, which
-- refuse where a program may not read or write; `modify` reads a register of the devices and writes it in one. The core answers
-- its own addresses, and never asks for them here.
abbrev pub flat_calls : Calls FlatSpace
flat_calls = record {
  load = λ s a. if is_stack a || is_heap a then Went (memory_byte s a) s else from_device s a (read s.devices a);
  store = λ s a v. if is_stack a then Went tt (with_memory s a v) else if is_heap a then store_to_heap s a v else to_device s a (write s.devices a v);
  modify = λ s a clear set. to_device s a (modify s.devices a clear set);
  push = push_on flat_stack;
  pop = pop_from flat_stack;
  push_ret = push_return_on flat_stack;
  pop_ret = pop_return_from flat_stack;
  rampz = λ s. stored s.devices rampz_address;
  set_rampz = λ s v. record s { devices = with_stored s.devices rampz_address v };
  flash_byte = λ s a. byte s.image a;
}
