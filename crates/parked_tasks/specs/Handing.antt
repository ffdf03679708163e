-- What is parked of one of several tasks (docs/TASKS.md, "What is shared, and what is exchanged").
use Rattle.std.specs.Prelude.{ℕ, List, slice_get, slice_set, Option, Some, None}
use Rattle.mote_core.specs.declared.mote.Mote.{Mote}
use Rattle.kernel_entry.specs.declared.kernel.Kernel.{Kernel}
use Rattle.task_turns.specs.Quarters.{quarter_part}
use Rattle.parked_tasks.specs.declared.parked.Parked.{Parked}
use Rattle.parked_tasks.specs.declared.task.Task.{Task}
use Rattle.parked_tasks.specs.Parking.{parked_of, taken_up}

-- the task of this number with something else parked
abbrev pub parking : List Task → ℕ → Option Parked → Option Task → List Task
parking tasks i parked None = tasks
parking tasks i parked (Some task) = slice_set tasks i (record task { parked = parked })

abbrev pub with_parked : List Task → ℕ → Option Parked → List Task
with_parked tasks i parked = parking tasks i parked (slice_get tasks i)

-- what is parked of the task
abbrev pub parked_by : Option Task → Option Parked
parked_by None = None
parked_by (Some task) = task.parked

-- the mote where the task of this number has taken it up
abbrev pub given_to_task : Kernel → ℕ → Parked → Kernel
given_to_task k next parked = record k { mote = taken_up k.mote parked; part = quarter_part next }

-- the tasks where the running one has given up this mote, and the next has taken it
abbrev pub handed_over : List Task → (running next : ℕ) → Mote → List Task
handed_over tasks running next mote = with_parked (with_parked tasks next None) running (Some (parked_of mote))
