-- The tasks of a mote as their contracts see them, and what each stands for (docs/TASKS.md, "The tasks on a mote").
use Rattle.std.specs.Prelude.{◌≡◌, ◌≢◌, ℕ, ◌+◌, ◌-◌, ◌*◌, ◌<◌, ◌≤◌, Bool, false, List, [], ◌∷◌, length, slice_get, sum_by, Option, Some, None, IfSome}
use Rattle.flash_words.specs.Layouts.{layout_of}
use Rattle.mote_core.specs.declared.mote.Mote.{Mote}
use Rattle.kernel_entry.specs.declared.kernel.Kernel.{Kernel}
use Rattle.kernel_entry.specs.declared.kernel.Stop.TheVariants as stops
use Rattle.kernel_entry.specs.Seen.{program as program_of}
use Rattle.kernel_entry.specs.declared.kernel.Owed.{Owed}
use Rattle.kernel_entry.specs.declared.kernel.End.{End}
use Rattle.kernel_entry.specs.declared.kernel.End.TheVariants as ends
use Rattle.program_steps.specs.Machines.{Machine, flat_of}
use Rattle.program_steps.specs.Ready.{most_arrivals, IsSound, IsGoing, IsQuiet}
use Rattle.parked_tasks.specs.declared.parked.Parked.{Parked}
use Rattle.parked_tasks.specs.declared.task.Task.{Task}
use Rattle.parked_tasks.specs.declared.task.TaskEnd.{TaskEnd}
use Rattle.parked_tasks.specs.declared.task.TaskEnd.TheVariants.{Spent, Stopped, Wild, Read}
use Rattle.task_input.specs.Images.{quarter}
use Rattle.task_turns.specs.Quarters.{quarter_part}
use Rattle.parked_tasks.specs.Parking.{IsSized, taken_up}
use Rattle.task_turns.specs.Turns.{Player, Turns}
use Rattle.parked_tasks.specs.Ends.{flat_end_of}

-- the fields of the type `Tasks`
pub record Tasks : Type 0 where
  pub kernel : Kernel
  pub running : ℕ
  pub stub : Option ℕ
  pub tasks : List Task
  pub broken : Bool
  pub natural : ℕ
  pub entries : ℕ
  pub pages : ℕ
  pub switches : ℕ

-- the arrival that a task owes; only the running one's may have been asked for by a stub
abbrev pub owed_of : Option ℕ → Option ℕ → Option Owed
owed_of None stub = None
owed_of (Some target) stub = Some (record { target = target; stub = stub })

abbrev pub stub_of : Tasks → Option Parked → Option ℕ
stub_of t None = t.stub
stub_of t (Some parked) = None

-- the mote as the task has it, or would have it if it were given the mote now
abbrev pub mote_for : Mote → Option Parked → Mote
mote_for mote None = mote
mote_for mote (Some parked) = taken_up mote parked

-- how a task ended, as its machine did: one whose steps are done, or that left its quarter, stands as a machine without an end
abbrev pub machine_end : Option TaskEnd → Option End
machine_end None = None
machine_end (Some Spent) = None
machine_end (Some (Wild a)) = None
machine_end (Some (Stopped stop)) = Some (ends.Stopped stop)
machine_end (Some (Read pc a)) = Some (ends.Stopped (stops.Read pc a))

-- how many arrivals a task may have made, and how many the others may have made
abbrev pub arrivals_of : Task → ℕ
arrivals_of task = most_arrivals (owed_of task.owed None) task.steps

abbrev pub others_of : Tasks → Task → ℕ
others_of t task = sum_by arrivals_of t.tasks - arrivals_of task

-- the machine that a task, of this number, is with the mote
abbrev pub machine_of : Tasks → ℕ → Task → Machine
machine_of t i task = record {
  kernel = record t.kernel { mote = mote_for t.kernel.mote task.parked; part = quarter_part i };
  at = task.at;
  owed = owed_of task.owed (stub_of t task.parked);
  end = machine_end task.end;
  due = task.due;
  torn = None;
  broken = false;
  steps = task.steps;
  crossings = task.crossings;
  natural = task.natural;
  entries = task.entries;
  pages = t.pages;
  since = task.since;
  longest = task.longest;
  began = 0;
  others = others_of t task;
}

-- The machine of each task is sound, and goes on where the task has not ended; the running task alone has nothing parked.
-- One that waits owes an arrival, since flash may change meanwhile.
pub record IsTask (t : Tasks) (i : ℕ) (task : Task) : Type 0 where
  pub running : i ≡ t.running → task.parked ≡ None
  pub waiting : i ≢ t.running → task.parked ≢ None
  pub owes : i ≢ t.running → task.end ≡ None → task.owed ≢ None
  pub sized : IfSome task.parked IsSized
  pub sound : IsSound (machine_of t i task)
  pub going : t.broken ≡ false → task.end ≡ None → IsGoing (machine_of t i task)
  pub quiet : t.broken ≡ false → task.end ≡ None → IsQuiet (machine_of t i task)

-- what the type `Tasks` keeps
pub record AreSound (t : Tasks) : Type 0 where
  pub few : length t.tasks ≤ 4
  pub one_runs : t.running < length t.tasks
  pub part : t.kernel.part ≡ quarter_part t.running
  pub layout : t.kernel.layout ≡ layout_of (quarter * length t.tasks)
  pub unfailing : t.kernel.mote.flash.failing ≡ []
  pub each : (i : ℕ) → (task : Task) → slice_get t.tasks i ≡ Some task → IsTask t i task

-- The task as it stands in turn with the others, where each may do n steps.
abbrev pub player_of : (n : ℕ) → Tasks → ℕ → Task → Player
player_of n t i task = record {
  program = program_of (machine_of t i task).kernel;
  moment = flat_of (machine_of t i task);
  left = n - task.steps;
  end = flat_end_of task.end;
}

-- those from this number on
abbrev pub players_from : (n : ℕ) → Tasks → ℕ → List Task → List Player
players_from n t i [] = []
players_from n t i (task ∷ tasks) = player_of n t i task ∷ players_from n t (i + 1) tasks

-- all of them in turn
abbrev pub turns_of : (n : ℕ) → Tasks → Turns
turns_of n t = record { players = players_from n t 0 t.tasks; running = t.running; switches = t.switches }
