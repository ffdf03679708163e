-- The I/O registers of the profile, one row each (ATmega128 datasheet, "Register Summary", and the sections "I/O Ports",
-- "USART", "Analog to Digital Converter" and "8-bit Timer/Counter0").
use Rattle.std.specs.Prelude.{ℕ, ◌+◌, Bool, true, false, ◌&&◌, ◌==◌, List, [], ◌∷◌, find}
use Rattle.std.specs.List.{list_any}
use Rattle.std.specs.Option.{option_map_or}
use Rattle.avr_isa.specs.declared.io.IoRegister.{IoRegister}
use Rattle.avr_isa.specs.declared.io.IoRegister.TheVariants.{Stored, Direction, Output, Pins, SerialStatus, SerialData, ConverterLow, ConverterHigh, ConverterControl, Timer}

-- the data address of the I/O register that an instruction names by its field A
abbrev pub io_address : ℕ → ℕ
io_address field = field + 0x20

-- EIMSK (ATmega128 datasheet, "External Interrupt Mask Register"): bit k enables INTk
abbrev pub mask_address : ℕ
mask_address = 0x59

-- RAMPZ (ATmega128 datasheet, "RAM Page Z Select Register")
abbrev pub rampz_address : ℕ
rampz_address = 0x5B

-- a register: its data address, whether a program may read it, whether it may write it, and what it does
pub record Row : Type 0 where
  pub address : ℕ
  pub read : Bool
  pub write : Bool
  pub does : IoRegister

-- the row of a register that a program may only read
abbrev pub read_only : ℕ → IoRegister → Row
read_only address does = record { address = address; read = true; write = false; does = does }

-- the row of one that it may read and write
abbrev pub read_write : ℕ → IoRegister → Row
read_write address does = record { address = address; read = true; write = true; does = does }

-- every register that a program may touch; at all other addresses nothing is allowed
abbrev pub io_registers : List Row
io_registers =
    read_only 0x24 ConverterLow  -- ADCL
    ∷ read_only 0x25 ConverterHigh  -- ADCH
    ∷ read_write 0x26 ConverterControl  -- ADCSRA
    ∷ read_write 0x27 Stored  -- ADMUX
    ∷ read_write 0x29 Stored  -- UBRR0L
    ∷ read_write 0x2A Stored  -- UCSR0B
    ∷ read_write 0x2B SerialStatus  -- UCSR0A
    ∷ read_write 0x2C SerialData  -- UDR0
    ∷ read_only 0x30 (Pins 3)  -- PIND
    ∷ read_write 0x31 (Direction 3)  -- DDRD
    ∷ read_write 0x32 (Output 3)  -- PORTD
    ∷ read_only 0x33 (Pins 2)  -- PINC
    ∷ read_write 0x34 (Direction 2)  -- DDRC
    ∷ read_write 0x35 (Output 2)  -- PORTC
    ∷ read_only 0x36 (Pins 1)  -- PINB
    ∷ read_write 0x37 (Direction 1)  -- DDRB
    ∷ read_write 0x38 (Output 1)  -- PORTB
    ∷ read_only 0x39 (Pins 0)  -- PINA
    ∷ read_write 0x3A (Direction 0)  -- DDRA
    ∷ read_write 0x3B (Output 0)  -- PORTA
    ∷ read_write 0x52 Timer  -- TCNT0
    ∷ read_write 0x53 Stored  -- TCCR0
    ∷ read_write 0x55 Stored  -- MCUCR
    ∷ read_write mask_address Stored  -- EIMSK
    ∷ read_write 0x5A Stored  -- EICRB
    ∷ read_write rampz_address Stored  -- RAMPZ
    ∷ read_write 0x5D Stored  -- SPL
    ∷ read_write 0x5E Stored  -- SPH
    ∷ read_write 0x5F Stored  -- SREG
    ∷ read_write 0x6A Stored  -- EICRA
    ∷ read_write 0x90 Stored  -- UBRR0H
    ∷ read_write 0x95 Stored  -- UCSR0C
    ∷ []

-- a program may read the I/O register at this data address
unfoldable pub can_read : ℕ → Bool
can_read a = list_any (λ (row : Row). (row.address == a) && row.read) io_registers

-- a program may write the I/O register at this data address
unfoldable pub can_write : ℕ → Bool
can_write a = list_any (λ (row : Row). (row.address == a) && row.write) io_registers

-- what the register at a data address does; what is no register would store
unfoldable pub register_at : ℕ → IoRegister
register_at a = option_map_or (λ (row : Row). row.does) (find (λ (row : Row). row.address == a) io_registers) Stored
