-- The machine before its first step: at boot, or over a flash whose pool has pages (docs/MACHINE.md, "Boot").
use Rattle.std.specs.Prelude.{ℕ, false, List, length}
use Rattle.sram_layout.specs.Boot.{at_boot}
use Rattle.sram_layout.specs.Bytes.{with_byte}
use Rattle.sram_layout.specs.Cells.{count_cell}
use Rattle.flash_words.specs.Memory.{Memory, new_flash}
use Rattle.flash_words.specs.Operations.{renewed}
use Rattle.flash_words.specs.Layouts.{layout_of}
use Rattle.flash_words.specs.declared.layout.Layout.{Layout}
use Rattle.input_script.specs.Script.{Schedule}
use Rattle.mote_devices.specs.State.{at_reset}
use Rattle.mote_core.specs.declared.mote.Mote.{Mote}
use Rattle.mote_core.specs.Step.{cpu_at_reset}
use Rattle.nat_page.specs.Used.{used_pages}
use Rattle.swap_store.specs.Slots.{zero_slots}
use Rattle.program_steps.specs.Machines.{Machine, unstarted}

-- a machine of a mote that has done nothing yet, whose program has the whole image
abbrev pub begun : Mote → Layout → (quantum pages : ℕ) → Machine
begun mote layout quantum pages = unstarted (record { mote = mote; layout = layout; part = record { first = 0; count = layout.image_words; shut = false }; quantum = quantum }) pages 0

-- one of a mote at reset over this flash, with COUNT set to the quantum
abbrev pub started : (image : List ℕ) (flash : Memory) (script : Schedule) (quantum slots pages : ℕ) → Machine
started image flash script quantum slots pages = begun (record {
  cpu = cpu_at_reset;
  sram = with_byte at_boot count_cell quantum;
  flash = flash;
  devices = at_reset script.events;
  swap = zero_slots slots;
}) (layout_of (length image)) quantum pages

-- at boot, with the image in a new flash
abbrev pub booted : (image : List ℕ) (script : Schedule) (quantum slots : ℕ) → Machine
booted image script quantum slots = started image (new_flash image script.failing) script quantum slots 0

-- over this flash, whose operations are counted from 1 again, and of which none is to fail; the pages that its pool
-- has are counted
abbrev pub started_over : (image : List ℕ) (flash : Memory) (script : Schedule) (quantum slots : ℕ) → Machine
started_over image flash script quantum slots = started image (renewed flash) script quantum slots (used_pages (layout_of (length image)) flash.words)
