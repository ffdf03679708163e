-- The state of the original program at a moment, as it is shown: a line for each thing, its name and what stands there.
use Rattle.std.specs.Prelude.{ℕ, ◌-◌, List, ◌++◌, length, count_by, slice_index, codes, decimal}
use Rattle.mote_devices.specs.State.{State, stored, mask_address}
use Rattle.flat_machine.specs.FlatMachine.{FlatState}
use Rattle.text_lines.specs.Pieces.{address_text, byte_text}
use Rattle.tk_watch.specs.Rows.{rows}

-- a line: a name, with a blank behind it, and what stands there
abbrev pub named : (name value : List ℕ) → List ℕ
named name value = name ++ value ++ codes "\n"

-- a number, and how many there are at most
abbrev pub of_all : (number all : ℕ) → List ℕ
of_all number all = decimal number ++ codes " of " ++ decimal all

-- where the program stands, its stack pointer and SREG
unfoldable pub core_text : (pc sp sreg : ℕ) → List ℕ
core_text pc sp sreg = named (codes "pc ") (address_text pc) ++ named (codes "sp ") (address_text sp) ++ named (codes "sreg ") (byte_text sreg)

-- a register
unfoldable pub register_text : (n value : ℕ) → List ℕ
register_text n value = codes "r" ++ decimal n ++ codes " " ++ byte_text value ++ codes "\n"

-- how many polls were made, how many events of all took effect, and how many pages of the heap were stored to, of as many as
-- there are slots
unfoldable pub counts_text : (polls taken events pages slots : ℕ) → List ℕ
counts_text polls taken events pages slots =
    named (codes "polls ") (decimal polls) ++ named (codes "events ") (of_all taken events) ++ named (codes "slots ") (of_all pages slots)

-- the interrupts that are enabled, and those that are requested and were not taken, INTk in bit k; and how many operations on
-- flash were tried
unfoldable pub requests_text : (enabled requested operations : ℕ) → List ℕ
requests_text enabled requested operations =
    named (codes "enabled ") (byte_text enabled) ++ named (codes "requested ") (byte_text requested) ++ named (codes "operations ") (decimal operations)

-- an event has taken effect, or is to come
abbrev pub taken_of : (events : ℕ) → State → ℕ
taken_of events devices = events - length devices.received.coming

-- A state of the original program, whose script has so many events, and which may store to as many pages of the heap as there are
-- slots; the machine has tried so many operations on flash.
abbrev pub state_text : (slots events operations : ℕ) → FlatState → List ℕ
state_text slots events operations s =
    core_text s.cpu.pc s.cpu.sp s.cpu.sreg
    ++ (rows (λ n. register_text n (slice_index s.cpu.r n)) 32
    ++ (counts_text s.devices.polls (taken_of events s.devices) events (count_by (λ has. has) s.pages) slots
    ++ requests_text (stored s.devices mask_address) s.devices.received.pending operations))
