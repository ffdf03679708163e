-- A run of the tasks on the mote, play by play, beside the tasks in turn (docs/TASKS.md, "A run on the mote").
use Rattle.std.specs.Prelude.{◌≡◌, ℕ, ◌/◌, Bool, true, false, List, [], ◌∷◌, ◌++◌, length, flat_map, slice_get, slice_set, sum_by, Option, Some, None, Result, Ok, Err, is_err}
use Rattle.mote_devices.specs.declared.line.Line.{Line}
use Rattle.flat_machine.specs.FlatMachine.{Run, Spent, Wild}
use Rattle.printed_text.specs.DeviceLines.{device_line_text}
use Rattle.printed_text.specs.Ends.{stop_text}
use Rattle.byte_streams.specs.declared.failure.Failed.{Failed}
use Rattle.byte_streams.specs.Streams.{Puts}
use Rattle.kernel_entry.specs.declared.kernel.Stop.{Stop}
use Rattle.kernel_entry.specs.declared.kernel.End.{End}
use Rattle.kernel_entry.specs.declared.kernel.End.TheVariants as ends
use Rattle.step_laws.specs.Moves.{Move}
use Rattle.step_laws.specs.Walks.{Walks}
use Rattle.program_steps.specs.Machines.{Machine}
use Rattle.program_steps.specs.Ready.{IsGoing}
use Rattle.program_steps.specs.Stepping.{Goes, IsArrival, AreOwn}
use Rattle.parked_tasks.specs.declared.task.Task.{Task}
use Rattle.text_lines.specs.Pieces.{task_text}
use Rattle.task_turns.specs.Turns.{Player, Turns, Shown, Wrote, Stops, Told, Played, Over, Gone, played, once, tries, turns, alone, shown_by, own_told, HaveEnded}
use Rattle.tk_tasks.specs.States.{Tasks, AreSound, machine_of, player_of, turns_of}
use Rattle.tk_tasks.specs.Changes.{changed_tasks}

-- one try of the running task: its moves, what is told of it, and whether the mote may be given to another behind it
pub record Play : Type 0 where
  pub moves : List Move
  pub told : List Told
  pub changes : Bool

-- the device lines of what is told
abbrev pub line_shown : Shown → List Line
line_shown (Wrote line) = line ∷ []
line_shown (Stops end steps crossings) = []

abbrev pub lines_told : List Told → List Line
lines_told told = flat_map (λ one. line_shown one.shown) told

-- at most an arrival at this address, and behind it the moves of one step
pub record AreAStep (at : ℕ) (moves : List Move) : Type 0 where
  pub arrival : List Move
  pub own : List Move
  pub parts : moves ≡ arrival ++ own
  pub arrives : IsArrival at arrival
  pub makes : AreOwn own

-- .. that is made, and behind which the machine may go on
pub record AreMade (at : ℕ) (moves : List Move) (m : Machine) : Type 0 where
  pub step : AreAStep at moves
  pub ready : IsGoing m

-- .. or that isn't, since the program stops in it
pub record AreStopped (at : ℕ) (moves : List Move) (end : Option End) : Type 0 where
  pub step : AreAStep at moves
  pub stop : Stop
  pub stops : end ≡ Some (ends.Stopped stop)

-- The moves of a try that comes to this, and the machine behind them. One that has done all its steps, or has left its part,
-- makes none.
abbrev pub AreOfTry : (at : ℕ) → List Move → Machine → Played → Type 0
AreOfTry at moves m (Over Spent) = moves ≡ []
AreOfTry at moves m (Over (Wild pc)) = moves ≡ []
AreOfTry at moves m (Over _) = AreStopped at moves m.end
AreOfTry at moves m (Gone line checkpoint next) = AreMade at moves m

-- The running task's machine goes by these moves. A move counts for this task alone. The other tasks have what they had, and all
-- stay sound.
pub record IsTry (t : Tasks) (task : Task) (play : Play) (new : Tasks) (next : Task) : Type 0 where
  pub goes : Goes (machine_of t t.running task) (machine_of new t.running next) play.moves (lines_told play.told)
  pub tasks : new.tasks ≡ slice_set t.tasks t.running next
  pub running : new.running ≡ t.running
  pub switches : new.switches ≡ t.switches
  pub sound : AreSound new

-- behind it the mote may be given to another task, by no move of a task
abbrev pub GoesOn : Bool → Tasks → Tasks → Type 0
GoesOn true mid new = new ≡ changed_tasks mid
GoesOn false mid new = new ≡ mid

-- One play of a task that has not ended, of sound tasks that aren't broken, where each may do n steps: the tasks stand behind
-- it, and of them is told, what one try in turn comes to.
pub record IsPlay (n : ℕ) (t : Tasks) (play : Play) (new : Tasks) : Type 0 where
  pub sound : AreSound t
  pub whole : t.broken ≡ false
  pub task : Task
  pub here : slice_get t.tasks t.running ≡ Some task
  pub going : task.end ≡ None
  pub mid : Tasks
  pub next : Task
  pub tried : IsTry t task play mid next
  pub of_try : AreOfTry task.at play.moves (machine_of mid t.running next) (played (player_of n t t.running task))
  pub behind : GoesOn play.changes mid new
  pub in_turn : turns_of n new ≡ (once (turns_of n t) (player_of n t t.running task)).turns
  pub told : play.told ≡ (once (turns_of n t) (player_of n t t.running task)).told

-- plays one after another
abbrev pub TaskPath : ℕ → Tasks → List Play → Tasks → Type 0
TaskPath n t plays new = Walks (IsPlay n) t plays new

-- what is told of all of them
abbrev pub told_of : List Play → List Told
told_of [] = []
told_of (play ∷ plays) = play.told ++ told_of plays

-- The plays are the first tries of tasks in turn: these stand where as many tries lead, and what is told of the plays
-- begins what the tasks tell until each has ended.
pub record AreInTurn (first : Turns) (plays : List Play) (reached : Turns) : Type 0 where
  pub tried : tries (length plays) first ≡ record { told = told_of plays; turns = reached }
  pub rest : List Told
  pub begins : (turns first).told ≡ told_of plays ++ rest

-- what is told, as it is printed: each line names its task
abbrev pub shown_text : (quantum : ℕ) → Shown → List ℕ
shown_text quantum (Wrote line) = device_line_text line
shown_text quantum (Stops end steps crossings) = stop_text end steps (crossings / quantum)

abbrev pub told_text : (quantum : ℕ) → List Told → List ℕ
told_text quantum told = flat_map (λ one. task_text one.task ++ shown_text quantum one.shown) told

-- every task has ended, and told what it does alone; it ended as it does alone, and holds what it then holds
abbrev pub EndsAsAlone : Run → ℕ → List Told → Player → Type 0
EndsAsAlone r i told p = (own_told i told ≡ shown_by r) × (p.end ≡ Some r.end) × (p.moment ≡ r.state)

-- All tasks have ended, and the run is the tasks' in turn. What each told, how it ended and what it holds is its own run's,
-- whatever the others are.
pub record HaveRun (n : ℕ) (old : Tasks) (told : List Told) (new : Tasks) : Type 0 where
  pub ended : HaveEnded (turns_of n new)
  pub in_turn : turns_of n new ≡ (turns (turns_of n old)).turns
  pub tells : told ≡ (turns (turns_of n old)).told
  pub alone : (i : ℕ) → (was task : Task) → slice_get old.tasks i ≡ Some was → was.end ≡ None → slice_get new.tasks i ≡ Some task
      → EndsAsAlone (alone (player_of n old i was)) i told (player_of n new i task)

-- what is counted of all tasks
abbrev pub counted : Tasks → (broken : Bool) → Tasks
counted t broken = record t { broken = broken; natural = sum_by (λ (task : Task). task.natural) t.tasks; entries = sum_by (λ (task : Task). task.entries) t.tasks }

abbrev pub IfDone : Result (Unit {0}) Failed → Type 0 → Type 0
IfDone (Ok done) holds = holds
IfDone (Err e) holds = Unit {0}

-- What a run of the tasks leaves, where each may do n steps. The plays are those of the tasks in turn. What they told was
-- put, or, where the sink failed, a shorter part of it from its front.
pub record HasRunTasks (n : ℕ) (old new : Tasks) (before after : Option (List ℕ)) (result : Result (Unit {0}) Failed) : Type 0 where
  pub plays : List Play
  pub last : Tasks
  pub path : TaskPath n old plays last
  pub counts : new ≡ counted last (is_err result)
  pub in_turn : AreInTurn (turns_of n old) plays (turns_of n last)
  pub put : Puts before after result (told_text old.kernel.quantum (told_of plays))
  pub run : IfDone result (HaveRun n old (told_of plays) last)
