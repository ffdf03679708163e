-- A run of several programs, with its last line, as the answer tells it.
use Rattle.std.proofs.Common.{◌≡◌, ℕ, ◌*◌, ◌<◌, ◌≤◌, true, false, List, [], ◌∷◌, ◌++◌, length, Option, Some, None, refl, sym, ap, ◌∙◌, subst, arith}
use Rattle.std.specs.Prelude.{Result, Ok, Err, OnErr, slice_get, slice_index_or}
use Rattle.byte_streams.specs.declared.failure.Failed.{Failed}
use Rattle.byte_streams.specs.Faults.{Rose}
use Rattle.byte_streams.specs.Streams.{CutShort}
use Rattle.input_script.specs.Script.{Schedule, nothing}
use Rattle.flat_machine.specs.FlatMachine.{Run}
use Rattle.flat_machine.specs.Masked as masked
use Rattle.parked_tasks.specs.declared.task.Task.{Task}
use Rattle.task_input.specs.Images.{IsMisplaced, task_words}
use Rattle.tk_tasks.specs.Booted.{booted}
use Rattle.task_turns.specs.Reset.{turns_at_reset}
use Rattle.tk_tasks.specs.States.{Tasks, AreSound, player_of, turns_of}
use Rattle.task_turns.specs.Turns.{Told, Turns, alone, at_reset_in, tries, turns}
use Rattle.tk_tasks.specs.Plays.{Play, AreInTurn, EndsAsAlone, HasRunTasks, HaveRun, TaskPath, counted, told_of, told_text}
use Rattle.tk_tasks.proofs.Telling.{told_text_on}
use Rattle.printed_text.proofs.Gathered.{cut_less}
use Rattle.task_turns.proofs.OwnPrograms.{program_at, player_at, own_run}
use Rattle.tk_tasks.proofs.FirstPlayers.{boot_player, each_first, each_last, first_going}
use Rattle.cli_words.specs.declared.request.TaskRequest.{TaskRequest}
use Rattle.cli_words.specs.declared.status.Status.{Status}
use Rattle.cli_words.specs.declared.status.Status.TheVariants as status
use Rattle.cli_words.specs.Commands.{AreTasks}
use Rattle.cli_words.specs.Stream.{Stream}
use Rattle.tkernel_cli.specs.Runs.{Says, Begins}
use Rattle.tkernel_cli.specs.TasksRuns.{AreAtReset, RunsTasks, EachIsAlone, all_told, run_of_task, start_by, start_of, turns_by, worst}
use Rattle.printed_text.specs.Counts.{tasks_count_text}
use Rattle.tkernel_cli.proofs.Putting.{said_on, begun_on}

-- what stands of the tasks at boot
pub record Starts (request : TaskRequest) (start : Tasks) : Type 0 where
  pub is : start ≡ start_of request
  pub in_turn : turns_of request.options.steps start ≡ turns_by request
  pub sound : AreSound start

at_reset : (request : TaskRequest) (start : Tasks) → Starts request start → AreAtReset request
at_reset request start starts = record { sound = subst AreSound starts.is starts.sound; turns = ap (turns_of request.options.steps) (sym starts.is) ∙ starts.in_turn }

started_quantum : (request : TaskRequest) (scripts : List Schedule) → (start_by request scripts).kernel.quantum ≡ request.options.quantum
started_quantum request [] = refl
started_quantum request (first ∷ others) = refl

started_whole : (request : TaskRequest) (scripts : List Schedule) → (start_by request scripts).broken ≡ false
started_whole request [] = refl
started_whole request (first ∷ others) = refl

started_same : (request : TaskRequest) (scripts : List Schedule) → (start_by request scripts).switches ≡ 0
started_same request [] = refl
started_same request (first ∷ others) = refl

-- so the run may begin
pub can_run : (request : TaskRequest) (start : Tasks) → Starts request start
    → (start.broken ≡ false) × (start.switches ≡ 0) × ((i : ℕ) → (task : Task) → slice_get start.tasks i ≡ Some task → task.end ≡ None)
can_run request start starts = (
  ap (λ (t : Tasks). t.broken) starts.is ∙ started_whole request request.scripts,
  ap (λ (t : Tasks). t.switches) starts.is ∙ started_same request request.scripts,
  λ i task there. first_going request.options.steps start request.image request.scripts request.options.quantum request.options.swap i task starts.in_turn there,
)

-- the tasks that boot made
starts_of : (request : TaskRequest) (start : Tasks) → (scripts : List Schedule) → 1 ≤ length scripts → request.scripts ≡ scripts
    → ((first : Schedule) (others : List Schedule) → request.scripts ≡ first ∷ others → start ≡ booted request.image first others request.options.quantum request.options.swap)
    → turns_of request.options.steps start ≡ turns_by request → AreSound start → Starts request start
starts_of request start [] some is made same sound = absurd (omega arith)
starts_of request start (first ∷ others) some is made same sound = record { is = made first others is ∙ sym (ap (start_by request) is); in_turn = same; sound = sound }

pub starts_at_boot : (request : TaskRequest) (start : Tasks) (list : List Schedule) → AreTasks request → list ≡ request.scripts
    → ((first : Schedule) (others : List Schedule) → list ≡ first ∷ others → start ≡ booted request.image first others request.options.quantum request.options.swap)
    → ((n : ℕ) → turns_of n start ≡ turns_at_reset request.image list request.options.quantum request.options.swap n) → AreSound start → Starts request start
starts_at_boot request start list may is made in_turn sound =
    let some : 1 ≤ length request.scripts = omega (arith, may.each_task, may.possible.0) in
    starts_of request start request.scripts some refl (λ first others same. made first others (is ∙ same))
    (in_turn request.options.steps ∙ ap (λ scripts. turns_at_reset request.image scripts request.options.quantum request.options.swap request.options.steps) is) sound

-- the run of a task alone is that of its player at boot
own_alone : (request : TaskRequest) (i : ℕ) → AreTasks request → i < length request.scripts
    → alone (player_at (task_words (length request.scripts) request.image) request.scripts request.options.quantum request.options.swap request.options.steps i) ≡ run_of_task request i
own_alone request i may below =
    let options = request.options in
    let few : length request.scripts ≤ 4 = omega (arith, may.each_task, may.possible.1) in
    let placed : (address : ℕ) → ¬ IsMisplaced (length request.scripts) request.image address = subst (λ c. (address : ℕ) → ¬ IsMisplaced c request.image address) (sym may.each_task) may.placed in
    let Alone : ℕ → Run = λ c. alone (at_reset_in (masked.alone (program_at (task_words c request.image) options.quantum options.swap i))
    (slice_index_or request.scripts i nothing).events options.steps) in
    sym (own_run (length request.scripts) request.image request.scripts options.quantum options.swap options.steps i below few placed) ∙ ap Alone may.each_task

same_told : (request : TaskRequest) (start last : Tasks) (told : List Told) → Starts request start → HaveRun request.options.steps start told last → told ≡ all_told request
same_told request start last told starts run = run.tells ∙ ap (λ (s : Turns). (turns s).told) starts.in_turn

each_alone : (request : TaskRequest) (start last t : Tasks) (told : List Told) → AreTasks request → Starts request start → HaveRun request.options.steps start told last → t ≡ counted last false
    → EachIsAlone request t
each_alone request start last t told may starts run is = λ i below.
    let options = request.options in
    let n = options.steps in
    let inside : i < length request.scripts = omega (arith, below, may.each_task) in
    let was = each_first n start request.image request.scripts options.quantum options.swap i starts.in_turn inside in
    let now = each_last n last request.image request.scripts options.quantum options.swap i (run.in_turn ∙ ap (λ (s : Turns). (turns s).turns) starts.in_turn) inside in
    let going = first_going n start request.image request.scripts options.quantum options.swap i was.0 starts.in_turn was.1 in
    let ends = run.alone i was.0 now.0 was.1 going now.1 in
    let boot = boot_player n start request.image request.scripts options.quantum options.swap i was.0 starts.in_turn was.1 inside in
    let own : alone (player_of n start i was.0) ≡ run_of_task request i = ap alone boot ∙ own_alone request i may inside in
    let Own : Run → Type 0 = λ r. EndsAsAlone r i told (player_of n last i now.0) in
    let All : List Told → Type 0 = λ l. EndsAsAlone (run_of_task request i) i l (player_of n last i now.0) in
    let whole = subst All (same_told request start last told starts run) (subst Own own ends) in
    let There : Tasks → Type 0 = λ s. (task : Task) × (slice_get s.tasks i ≡ Some task) × EndsAsAlone (run_of_task request i) i (all_told request) (player_of n s i task) in
    subst There (sym is) (now.0, now.1, whole)

-- every task ended, and the last line was said, or not
pub tasks_ended : (request : TaskRequest) (start t : Tasks) (before mid now : Stream) (told : Status) (done : Unit {0}) → AreTasks request → Starts request start
    → HasRunTasks request.options.steps start t before.told mid.told (Ok done) → AreSound t → before.faults ≤ mid.faults
    → Says (worst status.Done t.tasks) (tasks_count_text t.natural t.entries t.pages t.switches) mid now told → RunsTasks request before now told t
tasks_ended request start t before mid now told done may starts run sound later said =
    let quantum : start.kernel.quantum ≡ request.options.quantum = ap (λ (s : Tasks). s.kernel.quantum) starts.is ∙ started_quantum request request.scripts in
    let text : told_text start.kernel.quantum (told_of run.plays) ≡ told_text request.options.quantum (all_told request) =
    ap (λ q. told_text q (told_of run.plays)) quantum ∙ ap (told_text request.options.quantum) (same_told request start run.last (told_of run.plays) starts run.run) in
    let last = tasks_count_text t.natural t.entries t.pages t.switches in
    let whole = said_on (worst status.Done t.tasks) told before mid now (told_text start.kernel.quantum (told_of run.plays)) last run.put later said in
    RunsTasks.Ended (record {
      said = subst (λ l. Says (worst status.Done t.tasks) (l ++ last) before now told) text whole;
      begun = subst (Begins before.told now.told) text (begun_on (worst status.Done t.tasks) told before.told mid now (told_text start.kernel.quantum (told_of run.plays)) last run.put said);
      alone = each_alone request start run.last t (told_of run.plays) may starts run.run run.counts;
      sound = sound;
      start = at_reset request start starts;
      plays = run.plays;
      last = run.last;
      path = subst (λ s. TaskPath request.options.steps s run.plays run.last) starts.is run.path;
      is = run.counts;
      ended = run.run.ended;
    })

-- a part of what plays told is one of what the programs tell in turn
cut_in_turn : (quantum : ℕ) (before now : Option (List ℕ)) (told rest whole : List Told) → whole ≡ told ++ rest → CutShort before now (told_text quantum told)
    → CutShort before now (told_text quantum whole)
cut_in_turn quantum before now told rest whole is cut =
    subst (CutShort before now) (sym (ap (told_text quantum) is ∙ told_text_on quantum told rest)) (cut_less before now (told_text quantum told) (told_text quantum rest) cut)

-- at each turn in plays that led to these tasks all that was told by then went out
abbrev pub BeginInTurn : (n : ℕ) → (start t : Tasks) → (before now : Option (List ℕ)) → Type 0
BeginInTurn n start t before now = (plays : List Play) (last : Tasks) → TaskPath n start plays last → t ≡ counted last true → (turn : ℕ) → 65536 * turn < length plays
    → Begins before now (told_text start.kernel.quantum (tries (65536 * turn) (turns_of n start)).told)

-- a line could not be put
pub tasks_cut : (request : TaskRequest) (start t : Tasks) (before now : Stream) (failed : Failed) → Starts request start → HasRunTasks request.options.steps start t before.told now.told (Err failed)
    → AreSound t → Rose before.faults now.faults → BeginInTurn request.options.steps start t before.told now.told
    → RunsTasks request before now status.WriteFault t
tasks_cut request start t before now failed starts run sound rose turns =
    let quantum : start.kernel.quantum ≡ request.options.quantum = ap (λ (s : Tasks). s.kernel.quantum) starts.is ∙ started_quantum request request.scripts in
    let in_turn = subst (λ s. AreInTurn s run.plays (turns_of request.options.steps run.last)) starts.in_turn run.in_turn in
    let put = subst (λ q. CutShort before.told now.told (told_text q (told_of run.plays))) quantum run.put in
    RunsTasks.Cut (record {
      status_is = refl;
      rose = rose;
      start = at_reset request start starts;
      plays = run.plays;
      last = run.last;
      path = subst (λ s. TaskPath request.options.steps s run.plays run.last) starts.is run.path;
      is = run.counts;
      in_turn = in_turn;
      put = put;
      front = cut_in_turn request.options.quantum before.told now.told (told_of run.plays) in_turn.rest (all_told request) in_turn.begins put;
      turns = λ turn below. subst (λ s. Begins before.told now.told (told_text request.options.quantum (tries (65536 * turn) s).told)) starts.in_turn
          (subst (λ q. Begins before.told now.told (told_text q (tries (65536 * turn) (turns_of request.options.steps start)).told)) quantum (turns run.plays run.last run.path run.counts turn below));
      sound = sound;
    })

pub rose_of : (result : Result (Unit {0}) Failed) (failed : Failed) (before now : ℕ) → result ≡ Err failed → OnErr result (Rose before now) → Rose before now
rose_of (Ok done) failed before now is rose = absurd (cc)
rose_of (Err e) failed before now is rose = rose
