-- What a service leaves of the kernel and of the mote's own parts.
use Rattle.std.specs.Prelude.{◌≡◌, ◌≢◌, ◌+◌, ◌≤◌, max, length}
use Rattle.avr_exec.specs.declared.ask.Ask.{Ask}
use Rattle.sram_layout.specs.Bytes.{with_word}
use Rattle.sram_layout.specs.Cells.{vsp_cell, kernel_stack_top}
use Rattle.sram_layout.specs.Regions.{frame_cells, place_cells, frames, through, KeepsRegion}
use Rattle.heap_frames.specs.Paged.{IsPaged}
use Rattle.mem_guard.specs.Guarded.{Guarded}
use Rattle.nat_template.specs.Stubs.{fault_entry}
use Rattle.mem_guard.specs.Left.{HeapAfter}
use Rattle.kernel_entry.specs.declared.kernel.Kernel.{Kernel}
use Rattle.kernel_entry.specs.Parts.{virtual_sp, memory_of}

-- every service: the kernel's stack is empty; flash, the layout, the program's part, the quantum, the number of slots and the
-- kernel's tables of places stay; the devices are polled once at most, or by FAULT, at a SLEEP, as
-- often as an event asks for; and the heap stays in order
pub record Leaves (old new : Kernel) : Type 0 where
  pub stack : new.mote.cpu.sp ≡ kernel_stack_top
  pub flash : new.mote.flash ≡ old.mote.flash
  pub layout : new.layout ≡ old.layout
  pub part : new.part ≡ old.part
  pub quantum : new.quantum ≡ old.quantum
  pub slots : length new.mote.swap ≡ length old.mote.swap
  pub size : length new.mote.sram ≡ length old.mote.sram
  pub tables : KeepsRegion place_cells old.mote.sram new.mote.sram
  pub polls : new.mote.devices.polls ≤ max (old.mote.devices.polls + 1) 4294967295
  pub polled : old.mote.cpu.pc ≢ fault_entry → new.mote.devices.polls ≤ old.mote.devices.polls + 1
  pub paged : IsPaged old.mote.sram old.mote.swap → IsPaged new.mote.sram new.mote.swap

-- every service but MEM: all from the frame table to the last frame stays, and the swap
pub record LeavesHeap (old new : Kernel) : Type 0 where
  pub frames : KeepsRegion (through frame_cells frames) old.mote.sram new.mote.sram
  pub swap : new.mote.swap ≡ old.mote.swap

-- MEM: frames and slots are as the one thing that the instruction asks of the program's memory leaves them;
-- beside that the program's stack pointer is stored in its cell
pub record MovesPages (old new : Kernel) (ask : Ask) : Type 0 where
  pub memory : Guarded
  pub asked : HeapAfter (memory_of old) ask memory
  pub sram : new.mote.sram ≡ with_word memory.sram vsp_cell (virtual_sp new)
  pub swap : new.mote.swap ≡ memory.swap
