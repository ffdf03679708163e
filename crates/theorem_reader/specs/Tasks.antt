-- What a run of several programs leaves, which take turns on one mote: each prints and ends as if it were alone.
use Rattle.std.specs.Prelude.{◌≡◌, ℕ, ◌+◌, ◌*◌, ◌/◌, ◌<◌, max, List, [], ◌∷◌, ◌++◌, codes, decimal, flat_map, map, drop, slice_get, slice_index_or, true, false, ◌==◌, if◌then◌else◌}
use Rattle.std.specs.Prelude.{All, Option, Some, None, ◌≤◌, length, sum_by}
use Rattle.std.specs.List.{range_with_len}
use Rattle.input_script.specs.declared.input.Event.{Event}
use Rattle.input_script.specs.Script.{Schedule}
use Rattle.flash_words.specs.Layouts.{layout_of}
use Rattle.flat_machine.specs.FlatMachine.{Run, original}
use Rattle.mote_core.specs.declared.mote.Mote.{Mote}
use Rattle.parked_tasks.specs.declared.task.Task.{Task}
use Rattle.program_steps.specs.Machines.{Machine}
use Rattle.tk_tasks.specs.States.{Tasks}
use Rattle.task_turns.specs.Turns.{Player, Turns, After, Told, Shown, Wrote, Stops, shown_by, tries, turns}
use Rattle.task_turns.specs.Reset.{turns_at_reset}
use Rattle.task_input.specs.Images.{IsMisplaced}
use Rattle.task_input.specs.Scripts.{Schedules}
use Rattle.cli_words.specs.declared.command.Command.TheVariants.{Tasks as TasksCommand}
use Rattle.cli_words.specs.declared.command.TaskOptions.{TaskOptions}
use Rattle.cli_words.specs.Commands.{IsCommand}
use Rattle.theorem_reader.specs.Acts.{Act, IsBoot, IsNew, steps_in, services_in, made_in}
use Rattle.theorem_reader.specs.Runs.{HasHex}
use Rattle.theorem_reader.specs.Memory.{HasState}
use Rattle.theorem_reader.specs.Stints.{Stint, TakeTurns, IsLeft, changes_from, acts_of_task}
use Rattle.theorem_reader.specs.Wear.{IsWellKept}
use Rattle.theorem_reader.specs.Telling.{Sink, Fails, IsTold, IsToldPast}
use Rattle.theorem_reader.specs.Texts.{device_line, end_words, stop_line, end_status, no_memory}

-- the image of so many programs, the inputs of each, and how they are run
pub record AskedTasks : Type 0 where
  pub image : List ℕ
  pub scripts : List Schedule
  pub count : ℕ
  pub steps : ℕ
  pub quantum : ℕ
  pub slots : ℕ

-- the options that say so
abbrev pub tasks_options_of : AskedTasks → TaskOptions
tasks_options_of asked = record { count = asked.count; steps = asked.steps; quantum = asked.quantum; swap = asked.slots }

-- the image of one program alone: each word outside its 4,096 is erased
abbrev pub image_of : AskedTasks → ℕ → List ℕ
image_of asked task = map (λ a. if a / 4096 == task then slice_index_or asked.image a 0xFFFF else 0xFFFF) (range_with_len 0 (4096 * asked.count))

-- all of them: 4,096 words for each, erased behind the end of the image
abbrev pub words_of : AskedTasks → List ℕ
words_of asked = map (λ a. slice_index_or asked.image a 0xFFFF) (range_with_len 0 (4096 * asked.count))

-- the inputs of one program
abbrev pub events_of : AskedTasks → ℕ → List Event
events_of asked task = (slice_index_or asked.scripts task (record { events = []; failing = [] })).events

-- That program's run, by itself on flat memory of 64 KiB, from the first of its words, for the steps that each may do. It may
-- read no words but its own.
abbrev pub alone_of : AskedTasks → ℕ → Run
alone_of asked task =
    original (record { image = image_of asked task; part = record { first = 4096 * task; count = 4096; shut = true }; page_limit = asked.slots; quantum = asked.quantum })
    (events_of asked task) asked.steps

-- a line, and the program that it is of
pub record Printed : Type 0 where
  pub task : ℕ
  pub line : List ℕ

-- as they are printed, one behind the other: each begins with its program's number, as `task 1 `
abbrev pub printed_text : List Printed → List ℕ
printed_text printed = flat_map (λ one. codes "task " ++ (48 + one.task) ∷ codes " " ++ one.line) printed

-- a device line or a stop line, letter by letter
abbrev pub line_shown : (quantum : ℕ) → Shown → List ℕ
line_shown quantum (Wrote line) = device_line line
line_shown quantum (Stops end steps crossings) = stop_line (end_words end) steps (crossings / quantum)

-- the lines of one program alone: those of its devices, and its stop line
abbrev pub lines_alone : AskedTasks → ℕ → List (List ℕ)
lines_alone asked task = map (line_shown asked.quantum) (shown_by (alone_of asked task))

-- those that were told of the programs
abbrev pub printed_by : (quantum : ℕ) → List Told → List Printed
printed_by quantum told = map (λ one. record { task = one.task; line = line_shown quantum one.shown }) told

-- the programs at reset, in turn
abbrev pub reset_of : AskedTasks → Turns
reset_of asked = turns_at_reset asked.image asked.scripts asked.quantum asked.slots asked.steps

-- .. and until each has ended
abbrev pub in_turn : AskedTasks → After
in_turn asked = turns (reset_of asked)

-- What the programs print in turn: each goes on up to its checkpoint, and then the next that hasn't ended is stepped
-- (`task_turns/Turns`, where each has a flat memory of its own, and reads nothing of another). A try is a step, or ends a
-- program; this is printed in so many tries.
abbrev pub printed_in : AskedTasks → (count : ℕ) → List Printed
printed_in asked count = printed_by asked.quantum (tries count (reset_of asked)).told

-- .. until each has ended
abbrev pub printed_of : AskedTasks → List Printed
printed_of asked = printed_by asked.quantum (in_turn asked).told

-- the lines of one program, in their order
abbrev pub lines_of_task : ℕ → List Printed → List (List ℕ)
lines_of_task task printed = flat_map (λ one. if one.task == task then one.line ∷ [] else []) printed

-- the last line
abbrev pub last_line : (natural entries pages switches : ℕ) → List ℕ
last_line natural entries pages switches =
    codes "natural " ++ decimal natural ++ codes " entries " ++ decimal entries ++ codes " pages " ++ decimal pages ++ codes " switches " ++ decimal switches ++ codes "\n"

-- the greatest of the numbers, or 0
abbrev pub greatest : List ℕ → ℕ
greatest [] = 0
greatest (n ∷ numbers) = max n (greatest numbers)

-- 2 where a program alone ends in a fault, else 1 where one does all its steps, else 0
abbrev pub worst_status : AskedTasks → ℕ
worst_status asked = greatest (map (λ task. end_status (alone_of asked task).end) (range_with_len 0 asked.count))

-- Stints lead all programs from reset, the first on a mote at boot with all their words and each on one of its own that has done
-- nothing, to where they stand at these turns (`Stints`). The tasks that are kept are as many, on a mote with the layout of the
-- words and with this quantum, and as often changed; and have these numbers of changes, and of instructions of rewritten code,
-- services and pages made. Of one program's acts no more than 5,120 such instructions for each crossing of the quantum stand in a
-- row without a service. One page at most was made for each step that the programs made, and one more for each program; and at
-- most 1,000 operations on flash were tried for each of these. Flash was kept well (`Wear`).
pub record LeadThere (asked : AskedTasks) (to : Turns) (t : Tasks) : Type 0 where
  pub stints : List Stint
  pub first : Mote
  pub begins : IsBoot (words_of asked) [] (events_of asked 0) asked.quantum asked.slots first
  pub motes : List Mote
  pub first_is : slice_get motes 0 ≡ Some first
  pub own : (task : ℕ) (m : Mote) → slice_get motes task ≡ Some m → IsNew (events_of asked task) asked.quantum asked.slots m
  pub starts : (task : ℕ) (p : Player) → slice_get (reset_of asked).players task ≡ Some p → (own : Mote) × (slice_get motes task ≡ Some own) × HasState p.moment.now own
  pub last : List Mote
  pub left : Mote
  pub turns : TakeTurns (words_of asked) asked.quantum (reset_of asked) first motes stints to left last
  pub ends : (task : ℕ) (p : Player) → slice_get to.players task ≡ Some p → IsLeft left last stints t task p
  pub runs : t.running ≡ to.running
  pub many : length t.tasks ≡ length to.players
  pub layout : t.kernel.layout ≡ layout_of (length (words_of asked))
  pub quantum_is : t.kernel.quantum ≡ asked.quantum
  pub switched : t.switches ≡ to.switches
  pub switches : t.switches ≡ changes_from (reset_of asked).running stints to.running
  pub natural_is : t.natural ≡ sum_by (λ (stint : Stint). steps_in stint.acts) stints
  pub entries_is : t.entries ≡ sum_by (λ (stint : Stint). services_in stint.acts) stints
  pub pages_is : t.pages ≡ sum_by (λ (stint : Stint). made_in stint.acts) stints
  pub few : (task : ℕ) → (front between back : List Act) → acts_of_task task stints ≡ front ++ (between ++ back) → services_in between ≡ 0 → steps_in between ≤ 5120 * asked.quantum
  pub most_pages : t.pages ≤ sum_by (λ (task : Task). task.steps) t.tasks + length t.tasks
  pub most_operations : t.kernel.mote.flash.ops ≤ 1000 * (sum_by (λ (task : Task). task.steps) t.tasks + length t.tasks)
  pub flash : IsWellKept (words_of asked) t.pages first.flash t.kernel.mote.flash

-- What is told is what the programs print in turn, which went out whole, and a last line, with the worst of their statuses. The
-- lines of each are just those of its run alone: none can change what another prints, or when and how it ends. The numbers of
-- the last line are those of stints on one mote, which lead each program from where it begins to where its run alone ends.
pub record AreApart (sink : Sink) (asked : AskedTasks) (status : ℕ) (taken : List ℕ) (t : Tasks) : Type 0 where
  pub told : IsToldPast sink (worst_status asked) (printed_text (printed_of asked)) (last_line t.natural t.entries t.pages t.switches) status taken
  pub theirs : All (λ one. one.task < asked.count) (printed_of asked)
  pub each : (task : ℕ) → task < asked.count → lines_of_task task (printed_of asked) ≡ lines_alone asked task
  pub stints : LeadThere asked (in_turn asked).turns t
  pub alone : (task : ℕ) → task < asked.count → (p : Player) × (slice_get (in_turn asked).turns.players task ≡ Some p) × (p.moment ≡ (alone_of asked task).state)
      × (p.end ≡ Some (alone_of asked task).end)
  pub unbroken : t.broken ≡ false

-- The sink failed before the last line: it took a part of what so many tries printed, and of what the programs print in turn; and
-- stints lead there.
pub record AreCutShort (asked : AskedTasks) (status : ℕ) (taken : List ℕ) (t : Tasks) : Type 0 where
  pub count : ℕ
  pub told : IsTold Fails 6 (printed_text (printed_in asked count)) status taken
  pub stints : LeadThere asked (tries count (reset_of asked)).turns t
  pub front : IsTold Fails 6 (printed_text (printed_of asked)) status taken
  pub broken : t.broken ≡ true

-- memory was wanted, which is all that is told; or all programs were run, or up to a try by which the sink had failed, and they
-- are kept. No machine is kept.
pub data AreRun (sink : Sink) (asked : AskedTasks) (status : ℕ) (taken : List ℕ) (kept : Option Machine) (tasks : Option Tasks) : Type 0 where
  NoMemory : IsTold sink 8 no_memory status taken → kept ≡ None → tasks ≡ None → AreRun sink asked status taken kept tasks
  Ended : (t : Tasks) → AreApart sink asked status taken t → kept ≡ None → tasks ≡ Some t → AreRun sink asked status taken kept tasks
  Cut : (t : Tasks) → sink ≡ Fails → AreCutShort asked status taken t → kept ≡ None → tasks ≡ Some t → AreRun sink asked status taken kept tasks

-- the words aren't those of `tasks`
abbrev pub AsksNoTasks : (words : List (List ℕ)) → Type 0
AsksNoTasks words = (options : TaskOptions) → ¬ IsCommand words (TasksCommand options)

-- The words are those of `tasks` with these options; the text has a HEX text of the image, in which no word stands where no program
-- may have one (`IsMisplaced`), and behind it a script of theirs.
pub record AsksTasks (words : List (List ℕ)) (text : List ℕ) (asked : AskedTasks) : Type 0 where
  pub command : IsCommand words (TasksCommand (tasks_options_of asked))
  pub front : HasHex text asked.image
  pub scripts : Schedules asked.count (drop front.position text) asked.scripts
  pub placed : (a : ℕ) → ¬ IsMisplaced asked.count asked.image a
