-- Several programs that are run in turn on one mote: what was printed, what is kept, and how both follow each program as it
-- runs alone.
use Rattle.std.specs.Prelude.{◌≡◌, ℕ, ◌*◌, ◌<◌, ◌++◌, nat_lt, true, false, if◌then◌else◌, List, [], ◌∷◌, length, slice_get, slice_index_or, Option, Some, None}
use Rattle.byte_streams.specs.Faults.{Rose}
use Rattle.byte_streams.specs.Streams.{CutShort}
use Rattle.input_script.specs.Script.{Schedule, nothing}
use Rattle.flat_machine.specs.FlatMachine.{Program, Run}
use Rattle.flat_machine.specs.Masked as masked
use Rattle.parked_tasks.specs.declared.task.Task.{Task}
use Rattle.parked_tasks.specs.declared.task.TaskEnd.{TaskEnd}
use Rattle.task_input.specs.Images.{task_words}
use Rattle.task_turns.specs.Quarters.{quarter_part}
use Rattle.tk_tasks.specs.Booted.{booted}
use Rattle.task_turns.specs.Reset.{turns_at_reset}
use Rattle.tk_tasks.specs.States.{Tasks, AreSound, player_of, turns_of}
use Rattle.parked_tasks.specs.Ends.{flat_end}
use Rattle.task_turns.specs.Turns.{Turns, Told, alone, at_reset_in, tries, turns, HaveEnded}
use Rattle.tk_tasks.specs.Plays.{Play, TaskPath, AreInTurn, EndsAsAlone, counted, told_of, told_text}
use Rattle.cli_words.specs.declared.request.TaskRequest.{TaskRequest}
use Rattle.cli_words.specs.declared.status.Status.{Status}
use Rattle.cli_words.specs.declared.status.Status.TheVariants as status
use Rattle.tkernel_cli.specs.declared.top.Exit.{Exit}
use Rattle.cli_words.specs.Stream.{Stream}
use Rattle.tkernel_cli.specs.Runs.{Says, Begins, status_of_end}
use Rattle.cli_words.specs.Status.{number_of}
use Rattle.printed_text.specs.Counts.{tasks_count_text}

-- a task's program: its quarter of the words of all
abbrev pub program_in : TaskRequest → ℕ → Program
program_in request task =
    record { image = task_words request.options.count request.image; page_limit = request.options.swap; quantum = request.options.quantum; part = quarter_part task }

-- its run alone, over no words but those of its quarter, from reset at their front, with its own script's events, up to the
-- bound that was asked for
abbrev pub run_of_task : TaskRequest → ℕ → Run
run_of_task request task =
    alone (at_reset_in (masked.alone (program_in request task)) (slice_index_or request.scripts task nothing).events request.options.steps)

-- the programs in turn, from reset. Nothing is shared there
abbrev pub turns_by : TaskRequest → Turns
turns_by request = turns_at_reset request.image request.scripts request.options.quantum request.options.swap request.options.steps

-- what they tell, until each has ended
abbrev pub all_told : TaskRequest → List Told
all_told request = (turns (turns_by request)).told

-- the tasks before they do anything
abbrev pub start_by : TaskRequest → List Schedule → Tasks
start_by request [] = booted request.image nothing [] request.options.quantum request.options.swap
start_by request (first ∷ others) = booted request.image first others request.options.quantum request.options.swap

abbrev pub start_of : TaskRequest → Tasks
start_of request = start_by request request.scripts

-- the status with the greater number
abbrev pub worse : Status → Status → Status
worse a b = if nat_lt (number_of a) (number_of b) then b else a

abbrev pub status_of_task : Option TaskEnd → Status
status_of_task None = status.Done
status_of_task (Some end) = status_of_end (flat_end end)

-- a fault of one task counts for more than a bound that one reached, and that more than a halt
abbrev pub worst : Status → List Task → Status
worst own [] = own
worst own (task ∷ tasks) = worst (worse own (status_of_task task.end)) tasks

-- No task can change what another prints, when and how it ends, or what it holds: each is as its own program's run.
abbrev pub EachIsAlone : TaskRequest → Tasks → Type 0
EachIsAlone request t =
    (i : ℕ) → i < request.options.count → (task : Task) × (slice_get t.tasks i ≡ Some task) × EndsAsAlone (run_of_task request i) i (all_told request) (player_of request.options.steps t i task)

-- the tasks before they do anything are sound, and each stands at its program's reset
pub record AreAtReset (request : TaskRequest) : Type 0 where
  pub sound : AreSound (start_of request)
  pub turns : turns_of request.options.steps (start_of request) ≡ turns_by request

-- Every task ended, and what was printed is what the programs tell in turn, which went out whole, with the counts of all. The
-- machine of each is sound, so the pool is faithful, and plays lead here from the start.
pub record RunsTasksToTheEnd (request : TaskRequest) (before now : Stream) (told : Status) (t : Tasks) : Type 0 where
  pub said : Says (worst status.Done t.tasks) (told_text request.options.quantum (all_told request) ++ tasks_count_text t.natural t.entries t.pages t.switches) before now told
  pub begun : Begins before.told now.told (told_text request.options.quantum (all_told request))
  pub alone : EachIsAlone request t
  pub sound : AreSound t
  pub start : AreAtReset request
  pub plays : List Play
  pub last : Tasks
  pub path : TaskPath request.options.steps (start_of request) plays last
  pub is : t ≡ counted last false
  pub ended : HaveEnded (turns_of request.options.steps last)

-- Lines could not be put: what went out is a part, from its front, of what the programs tell in turn. It is cut short of
-- what was told of the plays that lead to where the tasks stand, and that is where the programs stand in turn after as
-- many tries. At each multiple of 65,536 tries before that all that was told by then had gone out, so behind that there were at most
-- 65,536 tries.
pub record RunsTasksUntilCut (request : TaskRequest) (before now : Stream) (told : Status) (t : Tasks) : Type 0 where
  pub status_is : told ≡ status.WriteFault
  pub rose : Rose before.faults now.faults
  pub start : AreAtReset request
  pub plays : List Play
  pub last : Tasks
  pub path : TaskPath request.options.steps (start_of request) plays last
  pub is : t ≡ counted last true
  pub in_turn : AreInTurn (turns_by request) plays (turns_of request.options.steps last)
  pub put : CutShort before.told now.told (told_text request.options.quantum (told_of plays))
  pub front : CutShort before.told now.told (told_text request.options.quantum (all_told request))
  pub turns : (turn : ℕ) → 65536 * turn < length plays → Begins before.told now.told (told_text request.options.quantum (tries (65536 * turn) (turns_by request)).told)
  pub sound : AreSound t

pub data RunsTasks (request : TaskRequest) (before now : Stream) (told : Status) (t : Tasks) : Type 0 where
  Ended : RunsTasksToTheEnd request before now told t → RunsTasks request before now told t
  Cut : RunsTasksUntilCut request before now told t → RunsTasks request before now told t

-- the tasks of the run are kept, and no machine
pub record HasTasksRun (request : TaskRequest) (before now : Stream) (exit : Exit) : Type 0 where
  pub tasks : Tasks
  pub kept : exit.tasks ≡ Some tasks
  pub none : exit.kept ≡ None
  pub runs : RunsTasks request before now exit.status tasks
