-- Nothing is done without rewritten code: where no step of that is told, the program made no step, and no service is told. So a
-- body that interprets the program, and tells no such step, makes no run.
use Rattle.std.specs.Prelude.{◌≡◌, ℕ, [], slice_get, Some}
use Rattle.flat_machine.specs.FlatMachine.{Run}
use Rattle.program_steps.specs.Machines.{Machine}
use Rattle.task_turns.specs.Turns.{Player, Turns}
use Rattle.tk_tasks.specs.States.{Tasks}
use Rattle.theorem_reader.specs.Acts.{steps_in}
use Rattle.theorem_reader.specs.Restarts.{IsLeft, restart_of}
use Rattle.theorem_reader.specs.Runs.{Asked, boot_of, Stands}
use Rattle.theorem_reader.specs.Stints.{acts_of_task}
use Rattle.theorem_reader.specs.Tasks.{AskedTasks, LeadThere}

-- where no step of rewritten code is told, the original program made no step, and no service is told
abbrev pub IsDoneByCode : Type 0
IsDoneByCode = (asked : Asked) → (r : Run) → (m : Machine) → Stands (boot_of asked) asked r m → m.natural ≡ 0 → (m.steps ≡ 0) × (m.entries ≡ 0)

-- .. and so it is behind a restart
abbrev pub IsDoneByCodeAgain : Type 0
IsDoneByCodeAgain = (asked : Asked) → (flash : IsLeft asked) → (r : Run) → (m : Machine) → Stands (restart_of asked flash) asked r m → m.natural ≡ 0 → (m.steps ≡ 0) × (m.entries ≡ 0)

-- .. and so it is of each of several programs: where its acts have no step of rewritten code, it made no step, and has no acts
abbrev pub AreDoneByCode : Type 0
AreDoneByCode = (asked : AskedTasks) → (to : Turns) → (t : Tasks) → (stints : LeadThere asked to t) → (task : ℕ) → (p : Player) → slice_get to.players task ≡ Some p
    → steps_in (acts_of_task task stints.stints) ≡ 0 → (p.moment.now.steps ≡ 0) × (acts_of_task task stints.stints ≡ [])
