-- The physical data space: SRAM at its own addresses, the devices' registers, and nothing else
-- (ATmega128 datasheet, "SRAM Data Memory"); and the program's bytes, which are those of flash.
use Rattle.std.specs.Prelude.{ℕ, ◌/◌, ◌%◌, Bool, ◌==◌, if◌then◌else◌, List, Option}
use Rattle.avr_exec.specs.declared.stop.BusStop.TheVariants.{Io}
use Rattle.avr_exec.specs.Spaces.{Outcome, Went, Stopped, Calls}
use Rattle.avr_exec.specs.StackRules.{StackRule, push_on, pop_from, push_return_on, pop_return_from}
use Rattle.flash_words.specs.Pages.{word_at}
use Rattle.sram_layout.specs.Bytes.{byte_at, with_byte}
use Rattle.sram_layout.specs.Regions.{whole_sram, is_within}
use Rattle.mote_devices.specs.declared.line.Line.{Line}
use Rattle.mote_devices.specs.State.{State, stored, with_stored, rampz_address}
use Rattle.mote_devices.specs.Accesses.{Asked, answered_or, read, write, modify}

-- the bytes of SRAM, the devices, the words of flash, and what the last write of a device showed outside
pub record Physical : Type 0 where
  pub sram : List ℕ
  pub devices : State
  pub words : List ℕ
  pub line : Option Line

-- SRAM has a byte at this data address
abbrev pub is_sram : ℕ → Bool
is_sram a = is_within whole_sram a

-- with another byte at a data address of SRAM
abbrev pub with_sram : Physical → ℕ → ℕ → Physical
with_sram s a v = record s { sram = with_byte s.sram a v }

-- what the devices answered to a read, and to a write, at data address a
abbrev pub from_device : Physical → ℕ → Asked ℕ → Outcome Physical ℕ
from_device s a asked = answered_or (Stopped (Io a)) (λ v next. Went v (record s { devices = next })) asked

abbrev pub to_device : Physical → ℕ → Asked (Option Line) → Outcome Physical (Unit {0})
to_device s a asked = answered_or (Stopped (Io a)) (λ line next. Went tt (record s { devices = next; line = line })) asked

-- the stack keeps to SRAM
abbrev pub physical_stack : StackRule Physical
physical_stack = record { holds = λ a. is_sram a; byte = λ s a. byte_at s.sram a; with_byte = λ s a v. with_sram s a v; stop = λ a. Io a }

-- the high or the low byte of a word
abbrev pub half_of : ℕ → Bool → ℕ
half_of w high = if high then w / 256 else w % 256

-- The space as a bus's calls. The devices refuse every address at which they have no register. A byte address of flash has
-- 17 bits, and the low byte of a word comes first.
abbrev pub physical_calls : Calls Physical
physical_calls = record {
  load = λ s a. if is_sram a then Went (byte_at s.sram a) s else from_device s a (read s.devices a);
  store = λ s a v. if is_sram a then Went tt (with_sram s a v) else to_device s a (write s.devices a v);
  modify = λ s a clear set. to_device s a (modify s.devices a clear set);
  push = push_on physical_stack;
  pop = pop_from physical_stack;
  push_ret = push_return_on physical_stack;
  pop_ret = pop_return_from physical_stack;
  rampz = λ s. stored s.devices rampz_address;
  set_rampz = λ s v. record s { devices = with_stored s.devices rampz_address v };
  flash_byte = λ s a. half_of (word_at s.words (a / 2 % 65536)) (a % 2 == 1);
}
