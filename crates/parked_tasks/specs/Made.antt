-- Serves the contract of `boot_tasks`: what it makes.
use Rattle.std.specs.Prelude.{◌≡◌, ℕ, ◌+◌, List, ◌∷◌, length, None}
use Rattle.input_script.specs.Script.{Schedule}
use Rattle.kernel_entry.specs.declared.kernel.Kernel.{Kernel}
use Rattle.task_input.specs.Images.{task_words}
use Rattle.parked_tasks.specs.declared.task.Task.{Task}
use Rattle.parked_tasks.specs.AtBoot.{at_start, kernel_at_boot, waiting_from}

-- what stands on a mote at boot, where task 0 has the first script
pub record AreBooted (image : List ℕ) (first : Schedule) (others : List Schedule) (quantum slots : ℕ) (kernel : Kernel) (tasks : List Task) : Type 0 where
  pub mote : kernel ≡ kernel_at_boot (task_words (length others + 1) image) first quantum slots
  pub waiting : tasks ≡ at_start 0 None ∷ waiting_from 1 others quantum slots
