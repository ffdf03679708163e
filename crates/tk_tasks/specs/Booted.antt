-- Several tasks at boot (docs/TASKS.md, "Boot").
use Rattle.std.specs.Prelude.{ℕ, ◌+◌, false, List, ◌∷◌, length, Some, None, ◌≡◌, slice_get}
use Rattle.input_script.specs.Script.{Schedule}
use Rattle.parked_tasks.specs.declared.task.Task.{Task}
use Rattle.task_input.specs.Images.{task_words}
use Rattle.tk_tasks.specs.States.{Tasks}
use Rattle.parked_tasks.specs.AtBoot.{kernel_at_boot, at_start, waiting_from}

-- task 0 is running, the others wait, and nothing was counted
abbrev pub booted : (image : List ℕ) (first : Schedule) (others : List Schedule) (quantum slots : ℕ) → Tasks
booted image first others quantum slots =
    record {
      kernel = kernel_at_boot (task_words (length others + 1) image) first quantum slots;
      running = 0;
      stub = None;
      tasks = at_start 0 None ∷ waiting_from 1 others quantum slots;
      broken = false;
      natural = 0;
      entries = 0;
      pages = 0;
      switches = 0;
    }

-- no task was run: none has ended, the mote was given to no other, and all lines were put
pub record IsUnstarted (t : Tasks) : Type 0 where
  pub going : (i : ℕ) → (task : Task) → slice_get t.tasks i ≡ Some task → task.end ≡ None
  pub unchanged : t.switches ≡ 0
  pub whole : t.broken ≡ false
