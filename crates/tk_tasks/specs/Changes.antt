-- The change of the task that runs (docs/TASKS.md, "What is shared, and what is exchanged").
use Rattle.std.specs.Prelude.{◌≡◌, ◌≢◌, ℕ, ◌+◌, length, map, slice_get, Option, Some, None}
use Rattle.parked_tasks.specs.declared.parked.Parked.{Parked}
use Rattle.parked_tasks.specs.declared.task.Task.{Task}
use Rattle.task_turns.specs.Turns.{next_in}
use Rattle.tk_tasks.specs.States.{Tasks}
use Rattle.parked_tasks.specs.Ends.{flat_end_of}
use Rattle.parked_tasks.specs.Handing.{parked_by, given_to_task, handed_over}

-- The mote is given to the task of this number, of which this is parked. The one that had it is parked, and keeps no stub.
abbrev pub given_by : Tasks → ℕ → Option Parked → Tasks
given_by t next None = t
given_by t next (Some parked) = record t {
  kernel = given_to_task t.kernel next parked;
  running = next;
  stub = None;
  tasks = handed_over t.tasks t.running next t.kernel.mote;
  switches = t.switches + 1;
}

abbrev pub given_to : Tasks → Option ℕ → Tasks
given_to t None = t
given_to t (Some next) = given_by t next (parked_by (slice_get t.tasks next))

-- the next task in turn that has not ended, beside the one that runs
abbrev pub next_task : Tasks → Option ℕ
next_task t = next_in t.running (length t.tasks) (map (λ task. flat_end_of task.end) t.tasks)

-- it is given the mote; where there is none, the same goes on
abbrev pub changed_tasks : Tasks → Tasks
changed_tasks t = given_to t (next_task t)

-- where the task that runs has not ended, it owes an arrival, and no stub asked for that
abbrev pub IsFree : Tasks → Type 0
IsFree t = (task : Task) → slice_get t.tasks t.running ≡ Some task → task.end ≡ None → (t.stub ≡ None) × (task.owed ≢ None)
