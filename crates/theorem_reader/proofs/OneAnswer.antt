-- Two calls with the same words over the same text: what one told whose sink served, the other tells too, as far as its sink takes it.
use Rattle.std.proofs.Common.{◌≡◌, ◌⊎◌, ℕ, ◌+◌, ◌-◌, ◌≤◌, ◌++◌, List, [], Option, None, length, slice_index, length-append, refl, sym, ap, ap₂, ◌∙◌, subst, arith, inl, inr}
use Rattle.std.proofs.lemmas.Grind.{flat_map-append, same_number_lists}
use Rattle.std.proofs.lemmas.List.{append_assoc, take-append-le}
use Rattle.byte_streams.specs.Faults.{Rose}
use Rattle.byte_streams.specs.Streams.{Input, CutShort}
use Rattle.flash_words.specs.Layouts.{IsRight, layout_of}
use Rattle.flash_words.specs.Memory.{Memory}
use Rattle.flash_words.specs.Operations.{renewed}
use Rattle.flash_dump.specs.WrittenDumps.{written}
use Rattle.nat_page.specs.Faithful.{IsFaithful}
use Rattle.flat_machine.specs.FlatMachine.{at_front}
use Rattle.printed_text.specs.Counts.{count_text, tasks_count_text}
use Rattle.printed_text.specs.DeviceLines.{lines_text, device_line_text}
use Rattle.printed_text.specs.Ends.{stop_text}
use Rattle.printed_text.specs.PlainLines.{no_memory_line}
use Rattle.printed_text.specs.RestartLines.{restart_text}
use Rattle.printed_text.specs.StopLines.{end_line}
use Rattle.kernel_entry.specs.declared.kernel.End.TheVariants as ends
use Rattle.mote_devices.specs.declared.line.Line.{Line}
use Rattle.step_laws.specs.Numbers.{Numbers}
use Rattle.step_laws.specs.States.{State}
use Rattle.program_steps.specs.Machines.{Machine, state_of}
use Rattle.cli_words.specs.declared.job.Job.{Job}
use Rattle.cli_words.specs.declared.job.Job.TheVariants as jobs
use Rattle.cli_words.specs.declared.request.Request.{Request}
use Rattle.cli_words.specs.declared.request.TaskRequest.{TaskRequest}
use Rattle.cli_words.specs.declared.status.Status.{Status}
use Rattle.cli_words.specs.declared.status.Status.TheVariants as statuses
use Rattle.cli_words.specs.Printed.{no_memory}
use Rattle.cli_words.specs.Status.{number_of}
use Rattle.cli_words.specs.Stream.{Stream}
use Rattle.cli_requests.specs.Asking.{Wanted, UsageLine, Made, ByText, AsksFor, Warrants, IsAsked, IsWarranted, Tells, wanted}
use Rattle.cli_requests.specs.Reading.{AsksByText, IsUnread, most_input}
use Rattle.cli_requests.proofs.Reasons.{all_taken, taken_of}
use Rattle.tkernel_cli.specs.declared.top.Exit.{Exit}
use Rattle.tkernel_cli.specs.Answer.{Does}
use Rattle.tkernel_cli.specs.Runs.{Says, Runs, RunsToTheEnd, RunsUntilCut, own_program, original_of, whole_run, checkpoints_of, ended_text, failed_text, first_start}
use Rattle.tkernel_cli.specs.DumpRuns.{silent}
use Rattle.tkernel_cli.specs.RestartRuns.{HasRestarted, RunsOver, lost_flash, refused_in, second_start}
use Rattle.tkernel_cli.specs.TasksRuns.{RunsTasks, all_told, worst}
use Rattle.tk_tasks.specs.Plays.{told_text}
use Rattle.tk_tasks.specs.States.{Tasks}
use Rattle.tk_restart.specs.Losing.{lost_in}
use Rattle.tk_restart.specs.declared.sweeping.Kept.{Kept}
use Rattle.tk_restart.specs.Restarting.{Restarts}
use Rattle.tk_restart.proofs.KeepingLaws.{one_answer}
use Rattle.theorem_reader.specs.Telling.{Sink, Serves, Fails, IsFront}
use Rattle.theorem_reader.specs.Runs.{Asked}
use Rattle.theorem_reader.specs.Twice.{IsToldAgain}
use Rattle.theorem_reader.proofs.Acting.{follow}
use Rattle.theorem_reader.proofs.Doing.{Call, Somehow, IsSoThen, so_is, so_then, not_risen, taken_is, told_how, cut_by, retold}
use Rattle.theorem_reader.proofs.Erasing.{turned}
use Rattle.theorem_reader.proofs.Longer.{longer}
use Rattle.theorem_reader.proofs.OnePlay.{turns_text, to_their_ends}
use Rattle.theorem_reader.proofs.OneRestart.{erased_alike, acts_erases}
use Rattle.theorem_reader.proofs.OneRun.{IsSame, IsStart, right_of, to_the_end, into_a_fault, never_both, begins_at_boot, cut_before}
use Rattle.theorem_reader.proofs.Restarting.{lost_is}

-- A job that is asked for in one call is warranted in the other. ------------------------------------------

text_asks : (Rule : List ℕ → Job → Type 0) (before now again later : Input) (text : List ℕ) (job : Job) → Tells before now text → Tells again later text
    → AsksByText Rule before now job → (job ≡ no_memory) ⊎ Warrants (ByText Rule) again later job
text_asks Rule before now again later text job tells tells' (inl (IsUnread.ReadFault is rose taken)) = absurd (tells.read rose)
text_asks Rule before now again later text job tells tells' (inl (IsUnread.NoMemory is taken)) = inl is
text_asks Rule before now again later text job tells tells' (inl (IsUnread.TooLong is taken)) = inr (text, tells', inl (omega (arith, taken_of before now text (most_input + 1) tells.told taken), is))
text_asks Rule before now again later text job tells tells' (inr judged) =
    let same = all_taken before now text judged.0 tells.told judged.1.taken judged.1.end in
    inr (text, tells', inr (omega (arith, judged.1.short, ap length same), subst (λ t. Rule t job) same judged.2))

asks_for : (by : Wanted) (before now again later : Input) (text : List ℕ) (job : Job) → Tells before now text → Tells again later text
    → AsksFor by before now job → (job ≡ no_memory) ⊎ Warrants by again later job
asks_for UsageLine before now again later text job tells tells' asks = inr asks.0
asks_for (Made own) before now again later text job tells tells' (inl made, read) = inr made
asks_for (Made own) before now again later text job tells tells' (inr none, read) = inl none
asks_for (ByText Rule) before now again later text job tells tells' asks = text_asks Rule before now again later text job tells tells' asks

asked_again : (words : List (List ℕ)) (before now again later : Input) (text : List ℕ) (job : Job) → Tells before now text → Tells again later text
    → IsAsked words before now job → (job ≡ no_memory) ⊎ IsWarranted words again later job
asked_again words before now again later text job tells tells' (inl asked) = elim (asks_for (wanted asked.0) before now again later text job tells tells' asked.2) [
  | inl none ↦ inl none
  | inr warranted ↦ inr (inl (asked.0, asked.1, warranted))
]
asked_again words before now again later text job tells tells' (inr unknown) = inr (inr (unknown.0, unknown.1))

-- What is told. -------------------------------------------------------------------------------------------

-- a call, and what it told
pub record Answered (words : List (List ℕ)) : Type 0 where
  pub exit : Exit
  pub status : ℕ
  pub faults : ℕ
  pub taken : List ℕ
  pub call : Call words exit status faults taken

-- one whose sink served
pub record Served (words : List (List ℕ)) : Type 0 where
  pub by : Answered words
  pub none : by.faults ≡ 0

-- a text that a call says, and its status
abbrev Said : (words : List (List ℕ)) → Answered words → Status → List ℕ → Type 0
Said words by own whole = Says own whole by.call.sink by.call.sink' by.exit.status

-- a text that such a call said, and its status
unrisen : (words : List (List ℕ)) (one : Served words) → Rose one.by.call.sink.faults one.by.call.sink'.faults → ⊥
unrisen words one rose = let call = one.by.call in not_risen call.sink.faults call.sink'.faults call.sound (call.faults_are ∙ one.none) rose

told_whole : (words : List (List ℕ)) (one : Served words) (own : Status) (whole : List ℕ) → Said words one.by own whole → (one.by.status ≡ number_of own) × (one.by.taken ≡ whole)
told_whole words one own whole said =
    let call = one.by.call in
    elim said [
      | inl is ↦ (call.status_is ∙ ap number_of is.0, taken_is call.sink.told call.sink'.told one.by.taken whole call.empty call.taken_is is.1)
      | inr cut ↦ absurd (unrisen words one cut.1)
    ]

-- what the other call tells of it
abbrev Again : (words : List (List ℕ)) (one : Served words) (other : Answered words) → Sink → Type 0
Again words one other sink = IsToldAgain one.by.status one.by.taken sink other.status other.taken

abbrev TellsAgain : (words : List (List ℕ)) (one : Served words) (other : Answered words) → Type 0
TellsAgain words one other = Somehow other.call.sink other.call.sink' (Again words one other)

one_wanting : (words : List (List ℕ)) (one : Served words) (other : Answered words) → one.by.status ≡ 8 → TellsAgain words one other
one_wanting words one other is = (Serves, tt, inr (inl is))

other_wanting : (words : List (List ℕ)) (one : Served words) (other : Answered words) → Said words other statuses.NoMemory no_memory_line → TellsAgain words one other
other_wanting words one other said =
    so_then other.call.sink other.call.sink' _ (Again words one other) (λ sink told. inr (inr told))
    (told_how words other.exit other.status other.faults other.taken other.call statuses.NoMemory no_memory_line said)

-- both say the same
said_again : (words : List (List ℕ)) (one : Served words) (other : Answered words) (own : Status) (whole whole' : List ℕ) → whole' ≡ whole → Said words one.by own whole → Said words other own whole'
    → TellsAgain words one other
said_again words one other own whole whole' same said said' =
    let is = told_whole words one own whole said in
    so_then other.call.sink other.call.sink' _ (Again words one other)
    (λ sink told. inl (retold sink (number_of own) one.by.status whole' one.by.taken other.status other.taken (sym is.0) (same ∙ sym is.1) told))
    (told_how words other.exit other.status other.faults other.taken other.call own whole' said')

-- or the other one a front of it
front_of : (part front rest : List ℕ) → IsFront part front → IsFront part (front ++ rest)
front_of part front rest is = record {
  count = is.count;
  less = omega (arith, is.less, length-append front rest);
  is = is.is ∙ sym (take-append-le is.count front rest (omega (arith, is.less)));
}

front_again : (words : List (List ℕ)) (one : Served words) (other : Answered words) (own : Status) (whole front rest : List ℕ) → whole ≡ front ++ rest → Said words one.by own whole
    → other.exit.status ≡ statuses.WriteFault → Rose other.call.sink.faults other.call.sink'.faults → CutShort other.call.sink.told other.call.sink'.told front → TellsAgain words one other
front_again words one other own whole front rest split said cut rose put =
    let told = cut_by words other.exit other.status other.faults other.taken other.call front cut put in
    (Fails, rose, inl (told.0, subst (IsFront other.taken) (sym ((told_whole words one own whole said).1 ∙ split)) (front_of other.taken front rest told.1)))

-- Two runs. -----------------------------------------------------------------------------------------------

ended_alike : (request : Request) (m n : Machine) → IsSame m n → ended_text request n ≡ ended_text request m
ended_alike request m n same =
    let r = whole_run request in
    ap (λ (k : Numbers). lines_text r.lines ++ stop_text r.end r.state.now.steps (checkpoints_of request r) ++ count_text k.natural k.entries k.pages) (sym same.numbers)

failed_alike : (request : Request) (op op' : ℕ) (m n : Machine) → op' ≡ op → IsSame m n → failed_text request op' n ≡ failed_text request op m
failed_alike request op op' m n at same =
    ap₂ (λ o (k : Numbers). lines_text (original_of request k.steps).lines ++ end_line (ends.Flash o) k.steps (checkpoints_of request (original_of request k.steps))
    ++ count_text k.natural k.entries k.pages) at (sym same.numbers)

-- a text of a run, as its device lines and the last two
record EndsWith (text lines : List ℕ) : Type 0 where
  last : List ℕ
  is : text ≡ lines ++ last

ends_with : (lines stop count : List ℕ) → EndsWith (lines ++ stop ++ count) lines
ends_with lines stop count = record { last = stop ++ count; is = append_assoc lines stop count }

-- the lines of fewer steps are the front of those of more
record LinesBehind (request : Request) (n m : ℕ) : Type 0 where
  lines : List Line
  is : lines_text (original_of request m).lines ≡ lines_text (original_of request n).lines ++ lines_text lines

lines_behind : (request : Request) (n m : ℕ) → n ≤ m → LinesBehind request n m
lines_behind request n m less =
    let more = longer (own_program request) n (m - n) (at_front (own_program request) request.script.events) in
    let sum : n + (m - n) ≡ m = omega (arith, less) in
    let split = ap lines_text more.behind ∙ flat_map-append device_line_text (original_of request n).lines more.lines in
    record { lines = more.lines; is = subst (λ k. lines_text (original_of request k).lines ≡ lines_text (original_of request n).lines ++ lines_text more.lines) sum split }

-- the other one's sink failed in the midst of its lines, where the machine had made no more steps
cut_again : (words : List (List ℕ)) (one : Served words) (other : Answered words) (request : Request) (own : Status) (front front' text : List ℕ) (steps : ℕ) (start n : Machine) → front ≡ front'
    → EndsWith text (lines_text (original_of request steps).lines) → n.steps ≤ steps → Said words one.by own (front ++ text)
    → RunsUntilCut request start front' other.call.sink other.call.sink' other.exit.status n → TellsAgain words one other
cut_again words one other request own front front' text steps start n same with less said run =
    let behind = lines_behind request n.steps steps less in
    let lines = lines_text (original_of request n.steps).lines in
    let more = lines_text behind.lines in
    let own_lines = with.is ∙ ap (λ front. front ++ with.last) behind.is ∙ append_assoc lines more with.last in
    let split = ap₂ (λ a b. a ++ b) same own_lines ∙ sym (append_assoc front' lines (more ++ with.last)) in
    front_again words one other own _ (front' ++ lines) (more ++ with.last) split said run.status_is run.rose run.put

ran_again : (words : List (List ℕ)) (one : Served words) (other : Answered words) (request : Request) (m n : Machine) → Runs request one.by.call.sink one.by.call.sink' one.by.exit.status m
    → Runs request other.call.sink other.call.sink' other.exit.status n → TellsAgain words one other
ran_again words one other request m n (Runs.Cut run) second = absurd (unrisen words one run.rose)
ran_again words one other request m n (Runs.Ended unlisted run) (Runs.Ended unlisted' run') =
    let same = to_the_end request (first_start request) m n (begins_at_boot request) run run' in
    said_again words one other _ (ended_text request m) (ended_text request n) (ended_alike request m n same) run.said run'.said
ran_again words one other request m n (Runs.Ended unlisted run) (Runs.Failed run') = absurd (never_both request m n (begins_at_boot request) run run')
ran_again words one other request m n (Runs.Ended unlisted run) (Runs.Cut run') =
    cut_again words one other request _ [] [] (ended_text request m) request.options.steps (first_start request) n refl (ends_with _ _ _) run'.within run.said run'
ran_again words one other request m n (Runs.Failed run) (Runs.Ended unlisted' run') = absurd (never_both request n m (begins_at_boot request) run' run)
ran_again words one other request m n (Runs.Failed run) (Runs.Failed run') =
    let same = into_a_fault request m n (begins_at_boot request) run run' in
    let at = run'.last ∙ sym (ap (λ (s : State). s.kernel.mote.flash.ops) same.state) ∙ sym run.last in
    said_again words one other statuses.FlashFault (failed_text request run.op m) (failed_text request run'.op n) (failed_alike request run.op run'.op m n at same) run.said run'.said
ran_again words one other request m n (Runs.Failed run) (Runs.Cut run') =
    cut_again words one other request _ [] [] (failed_text request run.op m) m.steps (first_start request) n refl (ends_with _ _ _)
    (cut_before request m n (begins_at_boot request) run run') run.said run'

-- the machines of two runs whose lines go nowhere
silently : Rose silent.faults silent.faults → ⊥
silently rose = not_risen 0 0 refl refl rose

same_silently : (request : Request) (told told' : Status) (m n : Machine) → Runs request silent silent told m → Runs request silent silent told' n → IsSame m n
same_silently request told told' m n (Runs.Ended unlisted run) (Runs.Ended unlisted' run') = to_the_end request (first_start request) m n (begins_at_boot request) run run'
same_silently request told told' m n (Runs.Ended unlisted run) (Runs.Failed run') = absurd (never_both request m n (begins_at_boot request) run run')
same_silently request told told' m n (Runs.Failed run) (Runs.Ended unlisted' run') = absurd (never_both request n m (begins_at_boot request) run' run)
same_silently request told told' m n (Runs.Failed run) (Runs.Failed run') = into_a_fault request m n (begins_at_boot request) run run'
same_silently request told told' m n (Runs.Cut run) second = absurd (silently run.rose)
same_silently request told told' m n first (Runs.Cut run') = absurd (silently run'.rose)

-- the layout of one
right_silently : (request : Request) (told : Status) (m : Machine) → Runs request silent silent told m → IsRight (layout_of (length request.image))
right_silently request told m (Runs.Ended unlisted run) = right_of request (first_start request) request.options.steps m run.follows
right_silently request told m (Runs.Failed run) = right_of request (first_start request) m.steps m run.follows
right_silently request told m (Runs.Cut run) = absurd (silently run.rose)

-- Two restarts. -------------------------------------------------------------------------------------------

-- what is asked for in a request
abbrev asked_of : Request → Asked
asked_of request = record {
  image = request.image;
  events = request.script.events;
  failing = request.script.failing;
  steps = request.options.steps;
  quantum = request.options.quantum;
  slots = request.options.swap;
}

-- what they leave of the flash of the first machine, which is the same
record LeftAlike (left left' : Memory) (told told' : Kept) : Type 0 where
  words : left'.words ≡ left.words
  told_same : told' ≡ told
  erases : (page : ℕ) → slice_index left.erases page ≡ slice_index left'.erases page

left_alike : {before now before' now' : Stream} {told told' : Status} {kept kept' : Option Machine} (request : Request) (done : HasRestarted request before now told kept)
    (done' : HasRestarted request before' now' told' kept')
    → LeftAlike done.left done'.left done.told done'.told
left_alike request done done' =
    let l = layout_of (length request.image) in
    let same = same_silently request done.ended done'.ended done.first done'.first done.runs done'.runs in
    let lost : lost_flash done'.first ≡ lost_flash done.first =
    ap (λ (s : State). lost_in (refused_in s.end) s.kernel.mote.flash.refused (renewed s.kernel.mote.flash)) (sym same.state) in
    let restarts' = subst (λ flash. Restarts l request.image flash done'.left done'.told) lost done'.restarts in
    let one = one_answer l request.image (lost_flash done.first) done.left done'.left done.told done'.told done.restarts restarts' in
    let whole = (lost_is (asked_of request) done.ended done.first done.runs).size in
    let right = right_silently request done.ended done.first done.runs in
    record {
      words = one.0;
      told_same = one.1;
      erases = λ page. erased_alike (lost_flash done.first) done.left done'.left page one.0 (turned l request.image (lost_flash done.first) done.left done.told page right whole done.restarts)
          (turned l request.image (lost_flash done.first) done'.left done'.told page right whole restarts');
    }

-- a start over a flash with these words and erases
abbrev start_over : Request → (words erases : List ℕ) → Machine
start_over request words erases = second_start request (record { words = words; erases = erases; failing = []; ops = 0; refused = None })

begins_over : (request : Request) (words erases : List ℕ) → IsFaithful (layout_of (length request.image)) request.image words
    → IsStart request.image request.options.quantum (start_over request words erases)
begins_over request words erases faithful = record { holds = record { laid = refl; held = faithful.held; counts = refl }; none = refl }

-- of each page of flash the erases are counted
counted_all : {front : List ℕ} {before now : Stream} {told : Status} (request : Request) (words erases : List ℕ) (m : Machine) → IsFaithful (layout_of (length request.image)) request.image words
    → RunsToTheEnd request (start_over request words erases) front before now told m → length erases ≡ 512
counted_all request words erases m faithful run =
    let start = start_over request words erases in
    let path = run.follows.at.path in
    let acts = follow request.image request.options.quantum (state_of start) path.moves (state_of m) path.goes.walk (begins_over request words erases faithful).holds in
    sym (acts_erases request.image request.options.quantum _ start.kernel.mote m.kernel.mote acts.follow) ∙ run.follows.sound.order.whole.erases

-- both came to the end
restarted_same : {front front' : List ℕ} {before now before' now' : Stream} {told told' : Status} (request : Request) (words words' erases erases' : List ℕ) (m n : Machine)
    → IsFaithful (layout_of (length request.image)) request.image words
    → IsFaithful (layout_of (length request.image)) request.image words' → words ≡ words' → ((page : ℕ) → slice_index erases page ≡ slice_index erases' page)
    → RunsToTheEnd request (start_over request words erases) front before now told m → RunsToTheEnd request (start_over request words' erases') front' before' now' told' n → IsSame m n
restarted_same request words words' erases erases' m n faithful faithful' same each run run' =
    let long = counted_all request words erases m faithful run ∙ sym (counted_all request words' erases' n faithful' run') in
    let counts : erases ≡ erases' = same_number_lists erases erases' long (λ page within. each page) in
    to_the_end request (start_over request words erases) m n (begins_over request words erases faithful) run (rw (← same, ← counts) at run')

restarted_again : (words : List (List ℕ)) (one : Served words) (other : Answered words) (request : Request)
    (done : HasRestarted request one.by.call.sink one.by.call.sink' one.by.exit.status one.by.exit.kept)
    (done' : HasRestarted request other.call.sink other.call.sink' other.exit.status other.exit.kept)
    → RunsOver request done.left (restart_text done.told.kept done.told.dropped) one.by.call.sink one.by.call.sink' one.by.exit.status done.machine
    → RunsOver request done'.left (restart_text done'.told.kept done'.told.dropped) other.call.sink other.call.sink' other.exit.status done'.machine → TellsAgain words one other
restarted_again words one other request done done' (RunsOver.Unbegun none) second = absurd (unrisen words one none.rose)
restarted_again words one other request done done' (RunsOver.Cut run) second = absurd (unrisen words one run.rose)
restarted_again words one other request done done' (RunsOver.Ended run) second =
    let alike = left_alike request done done' in
    let line : restart_text done.told.kept done.told.dropped ≡ restart_text done'.told.kept done'.told.dropped = ap (λ (t : Kept). restart_text t.kept t.dropped) (sym alike.told_same) in
    let m = done.machine in
    let n = done'.machine in
    let ended = ended_text request m in
    elim second [
      | RunsOver.Unbegun none ↦
          front_again words one other _ (restart_text done.told.kept done.told.dropped ++ ended) (restart_text done'.told.kept done'.told.dropped) ended
          (ap (λ text. text ++ ended) line) run.said none.status_is none.rose none.put
      | RunsOver.Cut run' ↦
          cut_again words one other request _ (restart_text done.told.kept done.told.dropped) (restart_text done'.told.kept done'.told.dropped) ended request.options.steps
          (second_start request done'.left) n line (ends_with _ _ _) run'.within run.said run'
      | RunsOver.Ended run' ↦
          let same = restarted_same request done.left.words done'.left.words done.left.erases done'.left.erases m n done.faithful done'.faithful (sym alike.words) alike.erases run run' in
          said_again words one other _ (restart_text done.told.kept done.told.dropped ++ ended) (restart_text done'.told.kept done'.told.dropped ++ ended_text request n)
          (ap₂ (λ a b. a ++ b) (sym line) (ended_alike request m n same)) run.said run'.said
    ]

-- Two runs of several programs. ---------------------------------------------------------------------------

turned_again : (words : List (List ℕ)) (one : Served words) (other : Answered words) (request : TaskRequest) (t u : Tasks)
    → RunsTasks request one.by.call.sink one.by.call.sink' one.by.exit.status t → RunsTasks request other.call.sink other.call.sink' other.exit.status u → TellsAgain words one other
turned_again words one other request t u (RunsTasks.Cut run) second = absurd (unrisen words one run.rose)
turned_again words one other request t u (RunsTasks.Ended run) (RunsTasks.Ended run') =
    let same = to_their_ends request t u run run' in
    said_again words one other (worst statuses.Done t.tasks) (turns_text request t) (turns_text request u) same.text run.said
    (subst (λ own. Said words other own (turns_text request u)) same.status run'.said)
turned_again words one other request t u (RunsTasks.Ended run) (RunsTasks.Cut run') =
    front_again words one other (worst statuses.Done t.tasks) (turns_text request t) (told_text request.options.quantum (all_told request))
    (tasks_count_text t.natural t.entries t.pages t.switches) refl run.said run'.status_is run'.rose run'.front

-- A job that both do. -------------------------------------------------------------------------------------

done_twice : (words : List (List ℕ)) (one : Served words) (other : Answered words) (job : Job) → Does job one.by.call.sink one.by.call.sink' one.by.exit
    → Does job other.call.sink other.call.sink' other.exit → TellsAgain words one other
done_twice words one other (jobs.Print own line) done done' = said_again words one other own line.items line.items refl done.0.0 done'.0.0
done_twice words one other (jobs.Write text) done done' = said_again words one other statuses.Done text text refl done.0.0 done'.0.0
done_twice words one other (jobs.Run request) done done' = ran_again words one other request done.0.machine done'.0.machine done.0.runs done'.0.runs
done_twice words one other (jobs.Dump request) done done' =
    let dumped = done.0 in
    let dumped' = done'.0 in
    let same = same_silently request dumped.ended dumped'.ended dumped.machine dumped'.machine dumped.runs dumped'.runs in
    elim dumped.said [
      | inr wanting ↦ one_wanting words one other (told_whole words one statuses.NoMemory no_memory_line wanting).0
      | inl said ↦ elim dumped'.said [
        | inr wanting ↦ other_wanting words one other wanting
        | inl said' ↦ said_again words one other statuses.Done _ _ (sym (ap (λ (s : State). written s.kernel.mote.flash.words) same.state)) said said'
      ]
    ]
done_twice words one other (jobs.Restart request script) done done' = restarted_again words one other request done.0 done'.0 done.0.over done'.0.over
done_twice words one other (jobs.Tasks request) done done' = turned_again words one other request done.tasks done'.tasks done.runs done'.runs

pub answered_twice : (words : List (List ℕ)) (one : Served words) (other : Answered words) (text : List ℕ) → Tells one.by.call.source one.by.call.source' text
    → Tells other.call.source other.call.source' text → IsSoThen other.faults (Again words one other)
answered_twice words one other text tells tells' =
    let call = one.by.call in
    let job = call.answer.job in
    so_is words other.exit other.status other.faults other.taken other.call (Again words one other)
    (elim (asked_again words call.source call.source' other.call.source other.call.source' text job tells tells' call.answer.asked) [
      | inl wanting ↦
          let done = subst (λ j. Does j call.sink call.sink' one.by.exit) wanting call.answer.done in
          one_wanting words one other (told_whole words one _ _ done.0.0).0
      | inr warranted ↦ elim (other.call.exact.done job warranted) [
        | inl wanting ↦ other_wanting words one other wanting.0.0
        | inr done ↦ done_twice words one other job call.answer.done done
      ]
    ])
