-- What a program reads and writes of the devices: the value or the line that it gets and the state after it.
use Rattle.std.specs.Prelude.{slice_index, ℕ, ◌-◌, ◌/◌, ◌%◌, Bool, ◌&&◌, nat_le, if◌then◌else◌, List, Option, Some, None, Result, Ok, Err, drop, bit_and, bit_or}
use Rattle.std.specs.List.{slice_get}
use Rattle.std.specs.Option.{option_map}
use Rattle.avr_isa.specs.IoTable.{can_read, can_write, register_at}
use Rattle.avr_isa.specs.declared.io.IoRegister.{IoRegister}
use Rattle.avr_isa.specs.declared.io.IoRegister.TheVariants.{Direction, Output, Pins, SerialStatus, SerialData, ConverterLow, ConverterHigh, ConverterControl, Timer}
use Rattle.mote_devices.specs.declared.line.Line.{Line}
use Rattle.mote_devices.specs.declared.line.Port.{Port}
use Rattle.mote_devices.specs.declared.line.Port.TheVariants.{Uart0}
use Rattle.mote_devices.specs.declared.devices.IoStop.{IoStop}
use Rattle.mote_devices.specs.Registers.{is_polled, outputs, directions}
use Rattle.mote_devices.specs.Inputs.{first_byte, is_empty}
use Rattle.mote_devices.specs.State.{State, stored, with_stored, polled}

-- SPL, SPH and SREG are the core's own
abbrev pub is_core_register : ℕ → Bool
is_core_register a = nat_le 0x5D a && nat_le a 0x5F

-- an answer and the state after it; or the access isn't allowed, and the state stays
pub data Asked (A : Type 0) : Type 0 where
  Gave : A → State → Asked A
  Refused : Asked A

-- what is made of an answer and the state after it; where the access isn't allowed, what stands for that
abbrev pub answered_or : {A B : Type 0} → B → (A → State → B) → Asked A → B
answered_or refused given (Gave answer next) = given answer next
answered_or refused given Refused = refused

-- what a call's result and the state after it tell
abbrev pub device_answer : {A : Type 0} → Result A IoStop → State → Asked A
device_answer (Ok answer) next = Gave answer next
device_answer (Err stop) next = Refused

-- UCSR0A: the transmit register is always empty (UDRE, bit 5); bit 7 (RXC) is set where a byte is waiting
abbrev pub serial_status : Bool → ℕ
serial_status none = if none then 0x20 else 0xA0

-- ADCSRA: no conversion is running (ADSC, bit 6), and its result is there (ADIF, bit 4)
abbrev pub converter_status : ℕ → ℕ
converter_status stored = bit_or (bit_and stored (255 - 0x40)) 0x10

-- the value of a register at data address a: what is stored there, but for those that read something else
abbrev pub value_of : IoRegister → State → ℕ → ℕ
value_of (Pins port) s a = slice_index s.received.pins port
value_of SerialStatus s a = serial_status (is_empty s.received.queue)
value_of SerialData s a = first_byte s.received.queue
value_of ConverterLow s a = s.received.converter % 256
value_of ConverterHigh s a = s.received.converter / 256 % 4
value_of ConverterControl s a = converter_status (stored s a)
value_of Timer s a = s.polls % 256
value_of _ s a = stored s a

-- the serial port's byte is taken by a read
abbrev pub after_value : IoRegister → State → State
after_value SerialData s = record s { received = record s.received { queue = drop 1 s.received.queue } }
after_value _ s = s

-- a read of a register: a poll comes before the value
abbrev pub read_from : State → IoRegister → ℕ → Asked ℕ
read_from s register a = let now = if is_polled register then polled s else s in Gave (value_of register now a) (after_value register now)

unfoldable pub read : State → ℕ → Asked ℕ
read s a = if can_read a then read_from s (register_at a) a else Refused

-- the state after a write; the serial port's registers and the timer store nothing
abbrev pub after_write : IoRegister → State → ℕ → ℕ → State
after_write SerialStatus s a v = s
after_write SerialData s a v = s
after_write Timer s a v = s
after_write _ s a v = with_stored s a v

-- a byte at the port with a number, if there is one
abbrev pub line_at : List Port → ℕ → ℕ → Option Line
line_at ports number v = option_map (λ port. record { port = port; value = v }) (slice_get ports number)

-- what a write shows outside
abbrev pub line_written : IoRegister → ℕ → Option Line
line_written (Direction port) v = line_at directions port v
line_written (Output port) v = line_at outputs port v
line_written SerialData v = Some (record { port = Uart0; value = v })
line_written _ v = None

unfoldable pub write : State → ℕ → ℕ → Asked (Option Line)
write s a v = if can_write a then Gave (line_written (register_at a) v) (after_write (register_at a) s a v) else Refused

-- a byte with the bits of `clear` cleared and those of `set` set
abbrev pub written_byte : ℕ → ℕ → ℕ → ℕ
written_byte v clear set = bit_or (bit_and v (255 - clear)) set

-- a write of what was read, changed so
abbrev pub written_back : Asked ℕ → ℕ → ℕ → ℕ → Asked (Option Line)
written_back (Gave v now) a clear set = write now a (written_byte v clear set)
written_back Refused a clear set = Refused

-- one read of the whole register, then one write of it; both directions must be allowed
unfoldable pub modify : State → ℕ → ℕ → ℕ → Asked (Option Line)
modify s a clear set = if can_write a then written_back (read s a) a clear set else Refused
