-- The ways through an inline template (docs/LOADER.md, "Inline templates"): inside the stack window to the word behind it,
-- and outside to the kernel's service MEM, with everything that the program sees as before.
use Rattle.std.specs.Prelude.{◌≡◌, ◌≢◌, ℕ, zero, suc, ◌+◌, ◌-◌, ◌*◌, ◌/◌, ◌%◌, ◌<◌, ◌≤◌, List, length, slice_index, slice_set}
use Rattle.sram_layout.specs.Bytes.{byte_count, byte_at, with_byte, data_word_at}
use Rattle.sram_layout.specs.Cells.{sreg_cell, vsp_cell, z_cell, kernel_stack_top}
use Rattle.sram_layout.specs.Regions.{stack_window}
use Rattle.nat_template.specs.Stubs.{mem_entry}
use Rattle.nat_template.specs.Inline.{push_forms, pop_forms, load_forms, store_forms}
use Rattle.avr_isa.specs.Addresses.{wrapping_sum}
use Rattle.mote_core.specs.declared.mote.Mote.{Mote}
use Rattle.mote_core.specs.QuietSteps.{IsQuiet, held}
use Rattle.inline_laws.specs.Rows.{Row}

-- n quiet steps in a row, each from a word address of at least `from` and below `to`
abbrev pub Passes : (from to n : ℕ) → Mote → Mote → Type 0
Passes from to zero m last = m ≡ last
Passes from to (suc n) m last = (next : Mote) × (from ≤ m.cpu.pc) × (m.cpu.pc < to) × IsQuiet m next × Passes from to n next last

-- SRAM with Z, in halves, and SREG in their cells
abbrev pub saved : List ℕ → (low high status : ℕ) → List ℕ
saved sram low high status = with_byte (with_byte (with_byte sram z_cell low) (z_cell + 1) high) sreg_cell status

abbrev pub saved_of : Mote → List ℕ
saved_of m = saved m.sram (slice_index m.cpu.r 30) (slice_index m.cpu.r 31) m.cpu.sreg

-- SRAM with another stack pointer of the program, and with a byte pushed at p
abbrev pub with_pointer : List ℕ → ℕ → List ℕ
with_pointer sram p = with_byte (with_byte sram vsp_cell (p % 256)) (vsp_cell + 1) (p / 256)

abbrev pub with_pushed : List ℕ → (p x : ℕ) → List ℕ
with_pushed sram p x = with_pointer (with_byte sram p x) (p - 1)

-- the mote with another pc, and after a template's first step
abbrev pub placed : Mote → ℕ → Mote
placed m v = held m m.cpu.r m.cpu.sreg v m.sram

abbrev pub begun : Mote → ℕ → Mote
begun m v = held m m.cpu.r m.cpu.sreg (v + 2) (with_byte m.sram z_cell (slice_index m.cpu.r 30))

-- At the entry of MEM with these bytes of SRAM: registers and SREG are the program's, and the address behind
-- the call is on the kernel's stack, its low byte at the higher address.
abbrev pub trapped : Mote → (back : ℕ) → List ℕ → Mote
trapped m back sram = record m { cpu = record m.cpu { sp = kernel_stack_top - 2; pc = mem_entry }; sram = with_byte (with_byte sram kernel_stack_top (back % 256)) (kernel_stack_top - 1) (back / 256) }

-- What a template at v needs: all registers and bytes, the program's stack pointer in bytes, the kernel's stack empty.
pub record CanPass (m : Mote) (v : ℕ) : Type 0 where
  pub registers : 31 < length m.cpu.r
  pub size : length m.sram ≡ byte_count
  pub pointer : byte_at m.sram vsp_cell < 256
  pub top : m.cpu.sp ≡ kernel_stack_top
  pub room : v + 128 < 65536

-- The template of `size` words at v that reaches this address of the program's memory. After its first step, `steps`
-- more lead inside the window to the word behind it, with these registers and bytes; `lower` below it and `upper` above it
-- lead to MEM.
pub record Ways (m : Mote) (v size address steps lower upper : ℕ) (r sram : List ℕ) : Type 0 where
  pub first : IsQuiet (placed m v) (begun m v)
  pub inside : stack_window.first ≤ address → address < stack_window.behind → Passes (v + 1) (v + size) steps (begun m v) (held m r m.cpu.sreg (v + size) sram)
  pub below : address < stack_window.first → Passes (v + 1) (v + size) lower (begun m v) (trapped m (v + size - 1) (saved_of m))
  pub above : stack_window.behind ≤ address → Passes (v + 1) (v + size) upper (begun m v) (trapped m (v + size - 1) (saved_of m))

-- the addresses: the stack pointer, the byte above it, and q on from Y
abbrev pub pointer_of : Mote → ℕ
pointer_of m = data_word_at m.sram vsp_cell

abbrev pub above_pointer : Mote → ℕ
above_pointer m = wrapping_sum (pointer_of m) 1

abbrev pub from_frame : Mote → ℕ → ℕ
from_frame m q = wrapping_sum (slice_index m.cpu.r 28 + 256 * slice_index m.cpu.r 29) q

-- each of the four, for a register d other than r30 and r31
abbrev pub IsOther : ℕ → Type 0
IsOther d = (d ≢ 30) × (d ≢ 31)

abbrev pub PushPasses : Type 0
PushPasses = (m : Mote) → (v d : ℕ) → CanPass m v → IsOther d → Row m.flash.words v (push_forms d)
    → Ways m v 39 (pointer_of m) 18 12 14 m.cpu.r (with_pushed (saved_of m) (pointer_of m) (slice_index m.cpu.r d))

abbrev pub PopPasses : Type 0
PopPasses = (m : Mote) → (v d : ℕ) → CanPass m v → IsOther d → Row m.flash.words v (pop_forms d)
    → Ways m v 39 (above_pointer m) 18 13 15 (slice_set m.cpu.r d (byte_at m.sram (above_pointer m))) (with_pointer (saved_of m) (above_pointer m))

abbrev pub LoadPasses : Type 0
LoadPasses = (m : Mote) → (v d q : ℕ) → CanPass m v → IsOther d → Row m.flash.words v (load_forms d q)
    → Ways m v 32 (from_frame m q) 15 12 14 (slice_set m.cpu.r d (byte_at m.sram (from_frame m q))) (saved_of m)

abbrev pub StorePasses : Type 0
StorePasses = (m : Mote) → (v d q : ℕ) → CanPass m v → IsOther d → Row m.flash.words v (store_forms q d)
    → Ways m v 32 (from_frame m q) 15 12 14 m.cpu.r (with_byte (saved_of m) (from_frame m q) (slice_index m.cpu.r d))
