-- What stands at a data address of the program's machine (docs/MEMORY.md).
use Rattle.std.specs.Prelude.{ℕ, ◌&&◌, nat_lt, nat_le, if◌then◌else◌}
use Rattle.flat_machine.specs.Addresses.{is_stack, is_heap}
use Rattle.flat_machine.specs.declared.address.AddrClass.{AddrClass}
use Rattle.flat_machine.specs.declared.address.AddrClass.TheVariants.{Register, Cpu, Io, Stack, Heap}

-- the core's registers, the core's SPL, SPH and SREG, the stack window and the heap; the rest are I/O registers
unfoldable pub class_of : ℕ → AddrClass
class_of a =
    if nat_lt a 0x20 then Register
    else if nat_le 0x5D a && nat_le a 0x5F then Cpu
    else if is_stack a then Stack
    else if is_heap a then Heap
    else Io
