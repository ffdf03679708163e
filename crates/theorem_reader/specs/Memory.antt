-- Where the mote keeps the program's data memory of 65,536 bytes. In place of registers and devices, which are told apart, it
-- has 0. Each page of 256 bytes has a number, its address / 256.
use Rattle.std.specs.Prelude.{◌≡◌, ◌≢◌, ◌↔◌, ℕ, ◌+◌, ◌-◌, ◌*◌, ◌/◌, ◌%◌, ◌<◌, ◌≤◌, Bool, true, false, List, [], length, slice_index, slice_index_or}
use Rattle.avr_exec.specs.declared.cpu.Cpu.{Cpu}
use Rattle.flat_machine.specs.FlatMachine.{FlatState}
use Rattle.mote_core.specs.declared.mote.Mote.{Mote}

-- the byte of SRAM at a data address
abbrev pub sram_byte : Mote → ℕ → ℕ
sram_byte m a = slice_index m.sram (a - 0x0100)

-- the bytes of SRAM from the first to the last of these addresses stay
abbrev pub Keeps : (first last : ℕ) → (before after : Mote) → Type 0
Keeps first last before after = (a : ℕ) → first ≤ a → a ≤ last → sram_byte after a ≡ sram_byte before a

-- the program's own core, at this address: the low byte of its stack pointer is at 0x0103, the high one at 0x0104
abbrev pub core_at : Mote → (pc : ℕ) → Cpu
core_at m pc = record { r = m.cpu.r; sreg = m.cpu.sreg; sp = sram_byte m 0x0103 + 256 * sram_byte m 0x0104; pc = pc }

-- SRAM has eight frames, 0 to 7, and a table that says of each which page it holds, and whether it holds one
pub record Holds (m : Mote) (page frame : ℕ) : Type 0 where
  pub frame_is : frame < 8
  pub page_is : sram_byte m (0x0120 + 4 * frame) ≡ page
  pub used : sram_byte m (0x0120 + 4 * frame + 1) ≢ 0

-- the slot of a page in the swap area, 0xFF for none
abbrev pub slot_of : Mote → ℕ → ℕ
slot_of m page = sram_byte m (0x0400 + page)

-- the heap: all from 0x0100 on but the stack window
pub data IsHeap (a : ℕ) : Type 0 where
  Below : 0x0100 ≤ a → a ≤ 0x0CFF → IsHeap a
  Above : 0x1100 ≤ a → a ≤ 0xFFFF → IsHeap a

-- The stack window is SRAM's own; a page of the heap is in the frame that holds it, else in its slot, and one without a slot is
-- all 0. Below 0x0100 all is 0.
pub record HasMemory (m : Mote) (memory : List ℕ) : Type 0 where
  pub size : length memory ≡ 65536
  pub registers : (a : ℕ) → a < 0x0100 → slice_index memory a ≡ 0
  pub window : (a : ℕ) → 0x0D00 ≤ a → a ≤ 0x10FF → slice_index memory a ≡ sram_byte m a
  pub framed : (a frame : ℕ) → IsHeap a → Holds m (a / 256) frame → slice_index memory a ≡ sram_byte m (0x0500 + 256 * frame + a % 256)
  pub swapped : (a : ℕ) → IsHeap a → ((frame : ℕ) → ¬ Holds m (a / 256) frame) → slot_of m (a / 256) ≢ 0xFF
      → slice_index memory a ≡ slice_index (slice_index_or m.swap (slot_of m (a / 256)) []) (a % 256)
  pub untouched : (a : ℕ) → IsHeap a → slot_of m (a / 256) ≡ 0xFF → slice_index memory a ≡ 0

-- just the pages that were stored to have a slot
abbrev pub HaveSlots : Mote → (stored : List Bool) → Type 0
HaveSlots m stored = (page : ℕ) → page < 256 → ((slot_of m page ≢ 0xFF) ↔ (slice_index_or stored page false ≡ true))

-- the program stands on its mote where its own machine does, but for its address, and the numbers of its steps and crossings
pub record HasState (s : FlatState) (m : Mote) : Type 0 where
  pub core : core_at m s.cpu.pc ≡ s.cpu
  pub memory : HasMemory m s.memory
  pub slots : HaveSlots m s.pages
  pub devices : m.devices ≡ s.devices
