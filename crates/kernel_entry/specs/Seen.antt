-- What the program sees of the mote: its core, its memory, the devices.
use Rattle.std.specs.Prelude.{ℕ, Bool, List}
use Rattle.avr_exec.specs.declared.cpu.Cpu.{Cpu}
use Rattle.sram_layout.specs.Bytes.{byte_at}
use Rattle.sram_layout.specs.Cells.{count_cell}
use Rattle.heap_frames.specs.Frames.{pages}
use Rattle.heap_frames.specs.Memory.{vmem}
use Rattle.mote_devices.specs.State.{State}
use Rattle.flat_machine.specs.FlatSpace.{FlatSpace}
use Rattle.flat_machine.specs.FlatMachine.{Program, FlatState, End, Halted as HaltedEnd, Asleep as AsleepEnd, Read as ReadEnd, Illegal as IllegalEnd, SelfProgram as SelfProgramEnd, Io as IoEnd}
use Rattle.flat_machine.specs.FlatMachine.{Stack as StackEnd, SwapFull as SwapFullEnd}
use Rattle.mem_guard.specs.Guarded.{flat_of, state_of, program_of}
use Rattle.kernel_entry.specs.declared.kernel.Kernel.{Kernel}
use Rattle.kernel_entry.specs.declared.kernel.Stop.{Stop}
use Rattle.kernel_entry.specs.declared.kernel.Stop.TheVariants.{Halted, Asleep, Illegal, SelfProgram, Read, Io, Stack, SwapFull}
use Rattle.kernel_entry.specs.Parts.{virtual_sp, memory_of, core_of}

-- its registers, SREG and SP; a byte for each data address; the devices; and which pages of the heap have a slot
pub record View : Type 0 where
  pub registers : List ℕ
  pub status : ℕ
  pub stack_pointer : ℕ
  pub memory : List ℕ
  pub devices : State
  pub pages : List Bool

abbrev pub view_of : Kernel → View
view_of k = record {
  registers = k.mote.cpu.r;
  status = k.mote.cpu.sreg;
  stack_pointer = virtual_sp k;
  memory = vmem k.mote.sram k.mote.swap;
  devices = k.mote.devices;
  pages = pages k.mote.sram;
}

-- what a program sees of a core and a flat memory
abbrev pub view_by : Cpu → FlatSpace → View
view_by core space = record {
  registers = core.r;
  status = core.sreg;
  stack_pointer = core.sp;
  memory = space.memory;
  devices = space.devices;
  pages = space.pages;
}

-- COUNT, of which the program sees nothing
abbrev pub count_of : Kernel → ℕ
count_of k = byte_at k.mote.sram count_cell

-- the program's flat memory
abbrev pub space_of : Kernel → FlatSpace
space_of k = flat_of (memory_of k)

-- the program, and the state of its own machine at this pc and with these counts
abbrev pub program : Kernel → Program
program k = program_of k.part k.quantum (memory_of k)

abbrev pub state_at : Kernel → (pc steps crossings : ℕ) → FlatState
state_at k pc steps crossings = state_of (memory_of k) (core_of k pc) steps crossings

-- a stop, as an end of the original program's run
abbrev pub end_of : Stop → End
end_of (Halted pc) = HaltedEnd pc
end_of (Asleep pc) = AsleepEnd pc
end_of (Illegal pc) = IllegalEnd pc
end_of (SelfProgram pc) = SelfProgramEnd pc
end_of (Read pc a) = ReadEnd pc a
end_of (Io pc a) = IoEnd pc a
end_of (Stack pc a) = StackEnd pc a
end_of (SwapFull pc a) = SwapFullEnd pc a
