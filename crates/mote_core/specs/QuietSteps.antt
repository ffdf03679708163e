-- Steps that leave what the kernel keeps: those of the stubs and templates, which may write their own cells, the kernel's
-- stack and the program's memory alone (ATmega128 datasheet, "SRAM Data Memory"; the kernel's memory: docs/MEMORY.md).
use Rattle.std.specs.Prelude.{◌≡◌, ℕ, ◌+◌, ◌*◌, ◌/◌, ◌%◌, true, List, Option, slice_index, slice_set}
use Rattle.avr_isa.specs.declared.form.Form.{Form}
use Rattle.avr_decode.specs.Decoding.{the_form}
use Rattle.avr_exec.specs.declared.cpu.Cpu.{Cpu}
use Rattle.avr_isa.specs.Addresses.{wrapping_sum}
use Rattle.flash_words.specs.Pages.{word_at}
use Rattle.sram_layout.specs.Regions.{template_cells, kernel_stack, frames, between, KeepsRegion}
use Rattle.mote_core.specs.declared.mote.Mote.{Mote}
use Rattle.mote_core.specs.declared.mote.Plain.TheVariants.{Went}
use Rattle.mote_core.specs.Conditions.{can_step}
use Rattle.mote_core.specs.Step.{form_at, IsPlainStep}

-- the kernel's memory stays, but for the templates' cells and the kernel's own stack
pub record KeepsKernel (old new : List ℕ) : Type 0 where
  pub below : KeepsRegion (between template_cells kernel_stack) old new
  pub above : KeepsRegion (between kernel_stack frames) old new

-- The step may be made, its mote is `next` (a step has one result, by `one_step`), it shows nothing, and it leaves the
-- kernel's memory, devices, flash and swap.
pub record IsQuiet (m next : Mote) : Type 0 where
  pub can : can_step (form_at m) m.cpu ≡ true
  pub step : IsPlainStep m Went next
  pub keeps : KeepsKernel m.sram next.sram
  pub devices : next.devices ≡ m.devices

-- Z, the pair r31:r30, of a list of registers, and the registers with another Z
abbrev pub z_of : List ℕ → ℕ
z_of r = slice_index r 30 + 256 * slice_index r 31

abbrev pub with_z : List ℕ → ℕ → List ℕ
with_z r z = slice_set (slice_set r 30 (z % 256)) 31 (z / 256)

-- the core with these registers, SREG and pc, and the mote with this core and these bytes of SRAM
abbrev pub core : Mote → List ℕ → (status pc : ℕ) → Cpu
core m r status pc = record m.cpu { r = r; sreg = status; pc = pc }

abbrev pub held : Mote → List ℕ → (status pc : ℕ) → List ℕ → Mote
held m r status pc sram = record m { cpu = core m r status pc; sram = sram }

-- the instruction that flash has at a word address, if there is one
abbrev pub flash_form : Mote → ℕ → Option Form
flash_form m pc = the_form (word_at m.flash.words pc) (word_at m.flash.words (wrapping_sum pc 1))
