-- Each of several tasks at boot (docs/TASKS.md, "Boot").
use Rattle.std.specs.Prelude.{ℕ, ◌+◌, ◌*◌, false, List, [], ◌∷◌, length, Option, Some, None}
use Rattle.sram_layout.specs.Boot.{at_boot}
use Rattle.sram_layout.specs.Bytes.{with_byte}
use Rattle.sram_layout.specs.Cells.{count_cell}
use Rattle.flash_words.specs.Memory.{new_flash}
use Rattle.flash_words.specs.Layouts.{layout_of}
use Rattle.input_script.specs.Script.{Schedule}
use Rattle.mote_devices.specs.State.{at_reset}
use Rattle.mote_core.specs.declared.mote.Mote.{Mote}
use Rattle.mote_core.specs.Step.{cpu_at_reset}
use Rattle.swap_store.specs.Slots.{zero_slots}
use Rattle.parked_tasks.specs.declared.parked.Parked.{Parked}
use Rattle.parked_tasks.specs.declared.task.Task.{Task}
use Rattle.task_input.specs.Images.{quarter}
use Rattle.task_turns.specs.Quarters.{quarter_part}
use Rattle.parked_tasks.specs.Parking.{parked_of}
use Rattle.kernel_entry.specs.declared.kernel.Kernel.{Kernel}

-- A mote at reset with these words in flash, one task's script and slots, and COUNT set to the quantum. No operation on
-- flash is to fail.
abbrev pub mote_at_boot : (words : List ℕ) (script : Schedule) (quantum slots : ℕ) → Mote
mote_at_boot words script quantum slots = record {
  cpu = cpu_at_reset;
  sram = with_byte at_boot count_cell quantum;
  flash = new_flash words [];
  devices = at_reset script.events;
  swap = zero_slots slots;
}

-- a task that owes an arrival at the first word of its quarter, and has done nothing
abbrev pub at_start : ℕ → Option Parked → Task
at_start task parked = record {
  parked = parked;
  at = quarter * task;
  owed = Some (quarter * task);
  due = false;
  end = None;
  steps = 0;
  crossings = 0;
  natural = 0;
  entries = 0;
  since = 0;
  longest = 0;
}

-- what is parked of a task at boot; flash is no part of it
abbrev pub parked_at_boot : (script : Schedule) (quantum slots : ℕ) → Parked
parked_at_boot script quantum slots = parked_of (mote_at_boot [] script quantum slots)

-- the tasks from this one on, each parked as it is at boot with its script
abbrev pub waiting_from : ℕ → List Schedule → (quantum slots : ℕ) → List Task
waiting_from task [] quantum slots = []
waiting_from task (script ∷ scripts) quantum slots = at_start task (Some (parked_at_boot script quantum slots)) ∷ waiting_from (task + 1) scripts quantum slots

-- the mote as task 0 has it
abbrev pub kernel_at_boot : (words : List ℕ) (script : Schedule) (quantum slots : ℕ) → Kernel
kernel_at_boot words script quantum slots = record { mote = mote_at_boot words script quantum slots; layout = layout_of (length words); part = quarter_part 0; quantum = quantum }
