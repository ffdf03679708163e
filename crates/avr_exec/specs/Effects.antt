-- What instructions do to the registers: a byte at an address of the core's own, pointers, and the pc.
-- AVR Instruction Set Manual, "Operation" and "Program Counter" of each instruction.
use Rattle.std.specs.Prelude.{ℕ, Bool, ◌+◌, if◌then◌else◌, ℤ}
use Rattle.avr_isa.specs.declared.operation.Ptr.{Ptr}
use Rattle.avr_isa.specs.declared.operation.Ptr.TheVariants.{ZInc, ZDec, YInc, YDec, X, XInc, XDec}
use Rattle.avr_exec.specs.declared.cpu.Cpu.{Cpu}
use Rattle.avr_isa.specs.Addresses.{wrapping_sum, wrapping_difference, relative}
use Rattle.avr_exec.specs.Registers.{with_pair, with_stack, with_counter, is_own, own_byte, with_own_byte}

-- the byte loaded from a data address: the core's own, or the one that the bus answers
unfoldable pub loaded : Cpu → ℕ → ℕ → ℕ
loaded cpu a answer = if is_own a then own_byte cpu a else answer

-- a byte stored to a data address: the bus has it already where the address isn't the core's own
unfoldable pub stored : Cpu → ℕ → ℕ → Cpu
stored cpu a v = if is_own a then with_own_byte cpu a v else cpu

-- a pointer that changes gets its new value, computed from the old one
unfoldable pub with_pointer : Cpu → Ptr → ℕ → Cpu
with_pointer cpu ZInc value = with_pair cpu 30 (wrapping_sum value 1)
with_pointer cpu ZDec value = with_pair cpu 30 (wrapping_difference value 1)
with_pointer cpu YInc value = with_pair cpu 28 (wrapping_sum value 1)
with_pointer cpu YDec value = with_pair cpu 28 (wrapping_difference value 1)
with_pointer cpu XInc value = with_pair cpu 26 (wrapping_sum value 1)
with_pointer cpu XDec value = with_pair cpu 26 (wrapping_difference value 1)
with_pointer cpu X value = cpu

-- Z raised by one where a load from the program asks for it
abbrev pub with_z_raised_if : Cpu → Bool → ℕ → Cpu
with_z_raised_if cpu inc z = if inc then with_pair cpu 30 (wrapping_sum z 1) else cpu

-- the pc one or two words on
abbrev pub next : Cpu → Cpu
next cpu = with_counter cpu (wrapping_sum cpu.pc 1)

abbrev pub after_two_words : Cpu → Cpu
after_two_words cpu = with_counter cpu (wrapping_sum cpu.pc 2)

-- a branch by k where the test holds
abbrev pub branch_if : Bool → ℤ → Cpu → Cpu
branch_if taken k cpu = with_counter cpu (if taken then relative cpu.pc k else wrapping_sum cpu.pc 1)

-- the next instruction, of this many words, passed over where the test holds
abbrev pub skip_if : Bool → ℕ → Cpu → Cpu
skip_if passed next_size cpu = with_counter cpu (if passed then wrapping_sum cpu.pc (1 + next_size) else wrapping_sum cpu.pc 1)

-- at the address of a called function, its return address pushed
abbrev pub called : Cpu → ℕ → Cpu
called cpu a = with_counter (with_stack cpu (wrapping_difference cpu.sp 2)) a

-- at a return address, which was popped
abbrev pub returned : Cpu → ℕ → Cpu
returned cpu a = with_counter (with_stack cpu (wrapping_sum cpu.sp 2)) a
