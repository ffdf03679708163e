-- One AVR step over the mote, and the mote at reset.
use Rattle.std.specs.Prelude.{◌≡◌, ℕ, List, Option, Some, None}
use Rattle.std.specs.Option.{option_map}
use Rattle.input_script.specs.Script.{Schedule}
use Rattle.avr_isa.specs.declared.form.Form.{Form}
use Rattle.avr_decode.specs.Decoding.{the_form, size_by_first_word}
use Rattle.avr_exec.specs.declared.cpu.Cpu.{Cpu}
use Rattle.avr_isa.specs.Addresses.{wrapping_sum}
use Rattle.avr_exec.specs.Spaces.{Outcome, Went}
use Rattle.avr_exec.specs.Execution.{exec_of}
use Rattle.flash_words.specs.Memory.{new_flash}
use Rattle.flash_words.specs.Pages.{word_at}
use Rattle.base.specs.Lists.{many}
use Rattle.sram_layout.specs.Boot.{at_boot}
use Rattle.sram_layout.specs.Cells.{kernel_stack_top}
use Rattle.swap_store.specs.Slots.{zero_slots}
use Rattle.mote_devices.specs.declared.line.Line.{Line}
use Rattle.mote_devices.specs.State.{at_reset}
use Rattle.mote_core.specs.declared.mote.Mote.{Mote}
use Rattle.mote_core.specs.declared.mote.Plain.{Plain}
use Rattle.mote_core.specs.Physical.{Physical, physical_calls}
use Rattle.mote_core.specs.Shown.{line_shown}

-- the word at the pc, and the one after it
abbrev pub first_at : Mote → ℕ
first_at m = word_at m.flash.words m.cpu.pc

abbrev pub second_at : Mote → ℕ
second_at m = word_at m.flash.words (wrapping_sum m.cpu.pc 1)

-- the instruction at the pc, if there is one
abbrev pub form_at : Mote → Option Form
form_at m = the_form (first_at m) (second_at m)

-- how many words a skip passes over: those of the instruction that follows one word on
abbrev pub next_size : Mote → ℕ
next_size m = size_by_first_word (second_at m)

-- what the instruction reaches of the mote, where a write has shown this outside
abbrev pub space_of : Mote → Option Line → Physical
space_of m line = record { sram = m.sram; devices = m.devices; words = m.flash.words; line = line }

-- the instruction at the pc, executed over the physical space
unfoldable pub stepped : Mote → Option (Outcome Physical Cpu)
stepped m = option_map (λ (form : Form). exec_of physical_calls form m.cpu (space_of m None) (next_size m)) (form_at m)

-- One plain step, with what it shows outside: the instruction doesn't stop, and it leaves flash and swap.
pub record IsPlainStep (m : Mote) (shown : Plain) (next : Mote) : Type 0 where
  pub executed : stepped m ≡ Some (Went next.cpu (space_of next (line_shown shown)))
  pub flash : next.flash ≡ m.flash
  pub swap : next.swap ≡ m.swap

-- the core at reset
abbrev pub cpu_at_reset : Cpu
cpu_at_reset = record { r = many 32 0; sreg = 0; sp = kernel_stack_top; pc = 0 }

-- at reset flash is new, with the image in it and the script's list of operations that are to fail, and all slots of
-- the swap are zero
pub record IsAtReset (image : List ℕ) (script : Schedule) (slots : ℕ) (m : Mote) : Type 0 where
  pub cpu : m.cpu ≡ cpu_at_reset
  pub sram : m.sram ≡ at_boot
  pub flash : m.flash ≡ new_flash image script.failing
  pub devices : m.devices ≡ at_reset script.events
  pub swap : m.swap ≡ zero_slots slots
