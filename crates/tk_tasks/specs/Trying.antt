-- Serves private functions: tries of the running task, one behind the other, as its machine makes them.
use Rattle.std.specs.Prelude.{◌≡◌, ◌≢◌, ℕ, zero, suc, ◌+◌, ◌-◌, ◌<◌, ◌==◌, Bool, true, false, if◌then◌else◌, List, [], ◌∷◌, ◌++◌, length, slice_set, Option, Some, None}
use Rattle.mote_devices.specs.declared.line.Line.{Line}
use Rattle.flat_machine.specs.declared.part.Part.{Part}
use Rattle.flat_machine.specs.FlatMachine.{is_own}
use Rattle.kernel_entry.specs.declared.kernel.Stop.{Stop}
use Rattle.kernel_entry.specs.declared.kernel.Stop.TheVariants as stops
use Rattle.kernel_entry.specs.declared.kernel.End.{End}
use Rattle.kernel_entry.specs.declared.kernel.End.TheVariants as ends
use Rattle.kernel_entry.specs.declared.kernel.Owed.{Owed}
use Rattle.step_laws.specs.Moves.{Move, line_before}
use Rattle.program_steps.specs.Machines.{Machine}
use Rattle.program_steps.specs.Ready.{IsGoing}
use Rattle.program_steps.specs.Stepping.{Goes, Stays, StepWay, HasStepped}
use Rattle.program_steps.specs.Several.{Silently}
use Rattle.program_steps.specs.Waiting.{IsLeft}
use Rattle.parked_tasks.specs.declared.task.Task.{Task}
use Rattle.parked_tasks.specs.declared.task.TaskEnd.{TaskEnd}
use Rattle.parked_tasks.specs.declared.task.TaskEnd.TheVariants.{Spent, Stopped, Wild, Read}
use Rattle.tk_tasks.specs.declared.trying.Tried.{Tried}
use Rattle.task_turns.specs.Turns.{Told, Wrote, Stops}
use Rattle.tk_tasks.specs.States.{Tasks}
use Rattle.parked_tasks.specs.Ends.{flat_end}
use Rattle.tk_tasks.specs.Changes.{changed_tasks}
use Rattle.tk_tasks.specs.Plays.{Play, TaskPath, told_of, AreAStep}
use Rattle.task_turns.specs.Checkpoints.{checks_by}

-- a task that makes no further step, with so many left, where its next would begin
abbrev pub rest_at : Part → (at left : ℕ) → Option TaskEnd
rest_at part at left = if is_own part at then (if left == 0 then Some Spent else None) else Some (Wild at)

-- how a machine's end ends its task
abbrev pub ended_by : Stop → TaskEnd
ended_by (stops.Read pc a) = Read pc a
ended_by stop = Stopped stop

abbrev pub task_end : End → TaskEnd
task_end ends.Spent = Spent
task_end (ends.Stopped stop) = ended_by stop
task_end (ends.Wild a) = Wild a
task_end (ends.Flash op) = Spent

-- One try that is a step of the program, or stops it: the arrival that is owed, and the step's moves; or an interrupt.
pub record Went (old new : Machine) (line : Option Line) : Type 0 where
  pub moves : List Move
  pub goes : Goes old new moves (line_before line [])
  pub of_step : AreAStep old.at moves
  pub stays : Stays old new
  pub broken : new.broken ≡ old.broken
  pub left : IsLeft new
  pub way : StepWay old new line

abbrev pub checks : Machine → Machine → Bool
checks old new = checks_by old.kernel.quantum old.crossings new.crossings

abbrev pub rest_if : Bool → Part → (at left : ℕ) → Option TaskEnd
rest_if checks part at left = if checks then rest_at part at left else None

-- so many steps that wrote no line, of which none was a checkpoint, and each led to an address of the task's part
abbrev pub Quietly : ℕ → Machine → Machine → Type 0
Quietly zero x z = x ≡ z
Quietly (suc n) x z = (y : Machine) × Quietly n x y × Went y z None × IsGoing z × (is_own z.kernel.part z.at ≡ true) × (checks y z ≡ false)

-- what a step left: where it was a checkpoint, a task that makes no further step has ended
pub data IsBehind (old new : Machine) (left : ℕ) (tried : Tried) : Type 0 where
  On : IsGoing new → tried.changes ≡ checks old new → tried.end ≡ rest_if (checks old new) new.kernel.part new.at left → IsBehind old new left tried
  Over : (stop : Stop) → new.end ≡ Some (ends.Stopped stop) → tried.changes ≡ true → tried.end ≡ Some (ended_by stop) → IsBehind old new left tried

-- steps behind an arrival, with so many left before them
pub record HasMade (old new : Machine) (left : ℕ) (tried : Tried) : Type 0 where
  pub earlier : ℕ
  pub last : Machine
  pub few : earlier < left
  pub counted : tried.count ≡ earlier + 1
  pub silently : Silently earlier old last
  pub step : HasStepped last new tried.line
  pub behind : IsBehind last new (left - (earlier + 1)) tried

-- tries of a task that may do so many steps: it makes none, and ends; or it makes some
pub data HasTried (old new : Machine) (left : ℕ) (tried : Tried) : Type 0 where
  Rests : (end : TaskEnd) → rest_at old.kernel.part old.at left ≡ Some end → new ≡ old → tried ≡ record { line = None; end = Some end; changes = true; count = 1 } → HasTried old new left tried
  Steps : (earlier : ℕ) → (last : Machine) → rest_at old.kernel.part old.at left ≡ None → earlier < left → tried.count ≡ earlier + 1 → Quietly earlier old last → Went last new tried.line
      → IsBehind last new (left - (earlier + 1)) tried → HasTried old new left tried

-- the task as its machine leaves it
abbrev pub target_of : Option Owed → Option ℕ
target_of None = None
target_of (Some owed) = Some owed.target

abbrev pub stub_in : Option Owed → Option ℕ
stub_in None = None
stub_in (Some owed) = owed.stub

abbrev pub kept_task : Task → Machine → Option TaskEnd → Task
kept_task task m end = record {
  parked = task.parked;
  at = m.at;
  owed = target_of m.owed;
  due = m.due;
  end = end;
  steps = m.steps;
  crossings = m.crossings;
  natural = m.natural;
  entries = m.entries;
  since = m.since;
  longest = m.longest;
}

-- the tasks where the running one's machine came to m
abbrev pub kept_tasks : Tasks → Task → Machine → Option TaskEnd → Tasks
kept_tasks t task m end = record t { kernel = m.kernel; stub = stub_in m.owed; tasks = slice_set t.tasks t.running (kept_task task m end); pages = m.pages }

-- the mote goes to another task, where the try says so
abbrev pub finished : Bool → Tasks → Tasks
finished true t = changed_tasks t
finished false t = t

-- what is told of tries: the line that the last wrote, and the task's end
abbrev pub line_told : ℕ → Option Line → List Told
line_told task None = []
line_told task (Some line) = record { task = task; shown = Wrote line } ∷ []

abbrev pub end_told : ℕ → Option TaskEnd → (steps crossings : ℕ) → List Told
end_told task None steps crossings = []
end_told task (Some end) steps crossings = record { task = task; shown = Stops (flat_end end) steps crossings } ∷ []

abbrev pub tried_told : ℕ → Option Line → Option TaskEnd → (steps crossings : ℕ) → List Told
tried_told task line end steps crossings = line_told task line ++ end_told task end steps crossings

-- so many plays lead from the tasks to others, and tell this
pub record HasPlayed (n : ℕ) (old new : Tasks) (tells : List Told) (count : ℕ) : Type 0 where
  pub plays : List Play
  pub counted : length plays ≡ count
  pub path : TaskPath n old plays new
  pub told : told_of plays ≡ tells
  pub some : plays ≢ []
