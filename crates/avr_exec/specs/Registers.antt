-- The registers of the core, and the data addresses at which a program sees them.
-- ATmega128 datasheet, "AVR CPU Core": "General Purpose Register File", "Stack Pointer"; "Register Summary".
use Rattle.std.specs.Prelude.{ℕ, Bool, ◌+◌, ◌*◌, ◌/◌, ◌%◌, ◌==◌, ◌||◌, nat_lt, nat_le, ◌&&◌, if◌then◌else◌, slice_index, slice_set}
use Rattle.avr_exec.specs.declared.cpu.Cpu.{Cpu}

-- register r0 to r31
abbrev pub register : Cpu → ℕ → ℕ
register cpu n = slice_index cpu.r n

abbrev pub with_register : Cpu → ℕ → ℕ → Cpu
with_register cpu n v = record cpu { r = slice_set cpu.r n v }

-- a register pair, named by its low register
abbrev pub pair : Cpu → ℕ → ℕ
pair cpu n = register cpu n + 256 * register cpu (n + 1)

abbrev pub with_pair : Cpu → ℕ → ℕ → Cpu
with_pair cpu n v = record cpu { r = slice_set (slice_set cpu.r n (v % 256)) (n + 1) (v / 256) }

-- with another status register, stack pointer, program counter
abbrev pub with_status : Cpu → ℕ → Cpu
with_status cpu v = record cpu { sreg = v }

abbrev pub with_stack : Cpu → ℕ → Cpu
with_stack cpu v = record cpu { sp = v }

abbrev pub with_counter : Cpu → ℕ → Cpu
with_counter cpu v = record cpu { pc = v }

-- the data addresses of r0 to r31, SPL, SPH and SREG, which no bus sees
abbrev pub is_own : ℕ → Bool
is_own a = nat_lt a 0x20 || nat_le 0x5D a && nat_le a 0x5F

-- the byte at one of these addresses
unfoldable pub own_byte : Cpu → ℕ → ℕ
own_byte cpu a =
    if nat_lt a 0x20 then register cpu a
    else if a == 0x5D then cpu.sp % 256
    else if a == 0x5E then cpu.sp / 256
    else cpu.sreg

-- a byte written there
unfoldable pub with_own_byte : Cpu → ℕ → ℕ → Cpu
with_own_byte cpu a v =
    if nat_lt a 0x20 then with_register cpu a v
    else if a == 0x5D then with_stack cpu (cpu.sp / 256 * 256 + v)
    else if a == 0x5E then with_stack cpu (v * 256 + cpu.sp % 256)
    else with_status cpu v
