-- What `tasks` answers.
use Rattle.std.proofs.Common.{◌≡◌, ◌≢◌, ℕ, zero, suc, ◌+◌, ◌-◌, ◌*◌, ◌/◌, ◌≤◌, ◌<◌, max, eqb, cond, Bool, true, false, not, List, [], ◌∷◌, ◌++◌, map, length, Option, Some, None, codes, refl, sym}
use Rattle.std.proofs.Common.{ap, ap₂, ◌∙◌, subst, arith, inl, inr, ◌⊎◌}
use Rattle.std.specs.Prelude.{All, is_some, nat_lt, slice_get}
use Rattle.std.specs.List.{range_with_len, find}
use Rattle.std.proofs.lemmas.Bool.{cases_eq}
use Rattle.std.proofs.lemmas.Bool.Decides.{nat_tests}
use Rattle.std.proofs.lemmas.List.Elements.{All-nil, All-cons, All-append, All-head, All-tail}
use Rattle.input_script.specs.Script.{Schedule}
use Rattle.avr_isa.specs.Image.{word}
use Rattle.flat_machine.specs.declared.part.Part.{Part}
use Rattle.flat_machine.specs.FlatMachine.{End as FlatEnd, Run, run, is_own, original}
use Rattle.flat_machine.specs.Masked.{masked, masked_from}
use Rattle.parked_tasks.specs.declared.task.Task.{Task}
use Rattle.parked_tasks.specs.declared.task.TaskEnd.{TaskEnd}
use Rattle.task_turns.specs.Reset.{turns_at_reset, players_at_reset}
use Rattle.task_turns.specs.Quarters.{quarter_part}
use Rattle.task_input.specs.Images.{task_words}
use Rattle.task_input.proofs.FirstFaults.{each_task}
use Rattle.tk_tasks.specs.Plays.{shown_text, told_text, told_of}
use Rattle.tk_tasks.specs.States.{Tasks, player_of, turns_of}
use Rattle.parked_tasks.specs.Ends.{flat_end, flat_end_of}
use Rattle.task_turns.specs.Turns.{Player, Turns, Told, Shown, Wrote, Stops, After, others, has_ended, ends_of, next_in, changed_to, with_player, once, with_told, go_on, tries, turns, shown_by}
use Rattle.task_turns.specs.Turns.{own_told}
use Rattle.task_turns.proofs.Isolation.{once_follows}
use Rattle.cli_words.specs.declared.command.Command.TheVariants.{Tasks as TasksCommand}
use Rattle.cli_words.specs.declared.status.Status.{Status}
use Rattle.cli_words.specs.declared.status.Status.TheVariants as status
use Rattle.cli_requests.specs.Asking.{Tells}
use Rattle.tkernel_cli.specs.declared.top.Exit.{Exit}
use Rattle.cli_requests.specs.Reading.{Good}
use Rattle.tkernel_cli.specs.Runs.{status_of_end}
use Rattle.cli_words.specs.Status.{number_of}
use Rattle.cli_requests.specs.TasksCommand.{Placed}
use Rattle.tkernel_cli.specs.TasksRuns.{RunsTasks, RunsTasksToTheEnd, EachIsAlone, run_of_task, all_told, turns_by, start_by, worse, worst, status_of_task}
use Rattle.printed_text.specs.Counts.{tasks_count_text}
use Rattle.theorem_reader.specs.Tasks.{AskedTasks, AsksTasks, tasks_options_of, image_of, events_of, alone_of, lines_alone, Printed, printed_text, line_shown, printed_by, lines_of_task, last_line}
use Rattle.theorem_reader.specs.Tasks.{greatest, worst_status, AreApart, AreRun, NoMemory, Ended, Cut, reset_of, in_turn}
use Rattle.theorem_reader.specs.Telling.{Fails}
use Rattle.theorem_reader.specs.Texts.{end_status}
use Rattle.theorem_reader.proofs.Doing.{IsSoThen, Call, Somehow, so_then, past_by, retold, cut_by, told_how, told_by}
use Rattle.theorem_reader.proofs.SameTexts.{line_same, stop_same, status_same}
use Rattle.cli_words.proofs.OneCommand.{one_program}
use Rattle.parked_tasks.proofs.Waiting.{waiting_length}
use Rattle.tk_tasks.proofs.Paths.{player_here, path_turns}
use Rattle.theorem_reader.proofs.TakingTurns.{length_set, path_long, tasks_request_of, have_stints}

-- what is asked of the program, as it sees it: its run of one program alone, what all tell, and that each is alone
abbrev own_run : AskedTasks → ℕ → Run
own_run asked task = run_of_task (tasks_request_of asked) task

abbrev told_in : AskedTasks → List Told
told_in asked = all_told (tasks_request_of asked)

abbrev turns_in : AskedTasks → Turns
turns_in asked = turns_by (tasks_request_of asked)

abbrev AreAlone : AskedTasks → Tasks → Type 0
AreAlone asked t = EachIsAlone (tasks_request_of asked) t

abbrev start_in : AskedTasks → List Schedule → Tasks
start_in asked scripts = start_by (tasks_request_of asked) scripts

-- A program alone. ----------------------------------------------------------------------------------------

in_quarter : (task a : ℕ) → is_own (quarter_part task) a ≡ eqb (a / 4096) task
in_quarter task a = elim (cases_eq (a / 4096) task) [
  | inl is ↦
      let own : is_own (quarter_part task) a ≡ true = grind (arith, nat_tests, is) in
      let same : eqb (a / 4096) task ≡ true = grind (arith, nat_tests, is) in
      own ∙ sym same
  | inr apart ↦
      let own : is_own (quarter_part task) a ≡ false = grind (arith, nat_tests, apart) in
      let same : eqb (a / 4096) task ≡ false = grind (arith, nat_tests, apart) in
      own ∙ sym same
]

words_alone : (part : Part) (f g : ℕ → ℕ) (a n : ℕ) → ((b : ℕ) → cond (is_own part b) (f b) 0xFFFF ≡ g b) → masked_from part a (map f (range_with_len a n)) ≡ map g (range_with_len a n)
words_alone part f g a zero same = refl
words_alone part f g a (suc n) same = ap₂ (λ w (words : List ℕ). w ∷ words) (same a) (words_alone part f g (a + 1) n same)

image_alone : (asked : AskedTasks) (task : ℕ) → masked (quarter_part task) (task_words asked.count asked.image) ≡ image_of asked task
image_alone asked task =
    words_alone (quarter_part task) (word asked.image) (λ a. cond (eqb (a / 4096) task) (word asked.image a) 0xFFFF) 0 (4096 * asked.count)
    (λ a. ap (λ own. cond own (word asked.image a) 0xFFFF) (in_quarter task a))

run_alone : (asked : AskedTasks) (task : ℕ) → own_run asked task ≡ alone_of asked task
run_alone asked task =
    ap (λ image. original (record { image = image; part = quarter_part task; page_limit = asked.slots; quantum = asked.quantum }) (events_of asked task) asked.steps) (image_alone asked task)

-- What is printed. ----------------------------------------------------------------------------------------

shown_same : (quantum : ℕ) (shown : Shown) → shown_text quantum shown ≡ line_shown quantum shown
shown_same quantum (Wrote line) = line_same line
shown_same quantum (Stops end steps crossings) = stop_same end steps (crossings / quantum)

told_same : (quantum : ℕ) (told : List Told) → told_text quantum told ≡ printed_text (printed_by quantum told)
told_same quantum [] = refl
told_same quantum (one ∷ more) =
    ap₂ (λ line others. (codes "task " ++ (48 + one.task) ∷ codes " " ++ line) ++ others) (shown_same quantum one.shown) (told_same quantum more)

last_same : (natural entries pages switches : ℕ) → tasks_count_text natural entries pages switches ≡ last_line natural entries pages switches
unfolding tasks_count_text
last_same natural entries pages switches = refl

-- of one program
one_more : (own : Bool) (quantum : ℕ) (shown : Shown) (others : List Shown) (lines : List (List ℕ)) → lines ≡ map (line_shown quantum) others
    → cond own (line_shown quantum shown ∷ []) [] ++ lines ≡ map (line_shown quantum) (cond own (shown ∷ others) others)
one_more true quantum shown others lines same = ap (λ (l : List (List ℕ)). line_shown quantum shown ∷ l) same
one_more false quantum shown others lines same = same

own_same : (task quantum : ℕ) (told : List Told) → lines_of_task task (printed_by quantum told) ≡ map (line_shown quantum) (own_told task told)
own_same task quantum [] = refl
own_same task quantum (one ∷ more) = one_more (eqb one.task task) quantum one.shown (own_told task more) (lines_of_task task (printed_by quantum more)) (own_same task quantum more)

shown_alone : (asked : AskedTasks) (task : ℕ) → map (line_shown asked.quantum) (shown_by (own_run asked task)) ≡ lines_alone asked task
shown_alone asked task = ap (λ r. map (line_shown asked.quantum) (shown_by r)) (run_alone asked task)

-- Each line is of a program. ------------------------------------------------------------------------------

abbrev IsBelow : ℕ → Told → Type 0
IsBelow count one = one.task < count

printed_below : (count quantum : ℕ) (told : List Told) → All (IsBelow count) told → All (λ (one : Printed). one.task < count) (printed_by quantum told)
printed_below count quantum [] all = All-nil (λ (one : Printed). one.task < count)
printed_below count quantum (one ∷ more) all =
    All-cons (λ (one : Printed). one.task < count) (record { task = one.task; line = line_shown quantum one.shown }) (printed_by quantum more)
    (All-head (IsBelow count) one more all) (printed_below count quantum more (All-tail (IsBelow count) one more all))

none_behind : (own : Bool) (shown : Shown) (others : List Shown) → cond own (shown ∷ others) others ≡ [] → (own ≡ false) × (others ≡ [])
none_behind true shown others none = absurd (cc)
none_behind false shown others none = (refl, none)

-- where nothing is told of any other program
all_below : (count running : ℕ) (told : List Told) → running < count → ((i : ℕ) → i ≢ running → own_told i told ≡ []) → All (IsBelow count) told
all_below count running [] below none = All-nil (IsBelow count)
all_below count running (one ∷ more) below none =
    let first : one.task < count = elim (cases_eq one.task running) [
      | inl same ↦ omega (arith, same, below)
      | inr apart ↦
          let other = none_behind (eqb one.task one.task) one.shown (own_told one.task more) (none one.task apart) in
          let same : eqb one.task one.task ≡ true = grind (arith, nat_tests) in
          let both : ◌≡◌ {A = Bool} true false = sym same ∙ other.0 in
          absurd (cc)
    ] in
    All-cons (IsBelow count) one more first (all_below count running more below (λ i apart. (none_behind (eqb one.task i) one.shown (own_told i more) (none i apart)).1))

found_by : (test : Bool) (x k : ℕ) (rest : Option ℕ) → cond test (Some x) rest ≡ Some k → (x ≡ k) ⊎ (rest ≡ Some k)
found_by true x k rest is = inl (cc)
found_by false x k rest is = inr is

found_below : (count : ℕ) (f : ℕ → Bool) (xs : List ℕ) (k : ℕ) → All (λ n. n < count) xs → find f xs ≡ Some k → k < count
found_below count f [] k all is = absurd (cc)
found_below count f (x ∷ xs) k all is = elim (found_by (f x) x k (find f xs) is) [
  | inl same ↦ omega (arith, same, All-head (λ n. n < count) x xs all)
  | inr later ↦ found_below count f xs k (All-tail (λ n. n < count) x xs all) later
]

range_below : (count first n : ℕ) → first + n ≤ count → All (λ k. k < count) (range_with_len first n)
range_below count first zero few = All-nil (λ k. k < count)
range_below count first (suc n) few = All-cons (λ k. k < count) first (range_with_len (first + 1) n) (omega (arith, few)) (range_below count (first + 1) n (omega (arith, few)))

others_below : (count running : ℕ) → running < count → All (λ k. k < count) (others running count)
others_below count running below =
    All-append (λ k. k < count) (range_with_len (running + 1) (count - (running + 1))) (range_with_len 0 running)
    (range_below count (running + 1) (count - (running + 1)) (omega (arith, below))) (range_below count 0 running (omega (arith, below)))

-- so many programs, of which one is stepped
record AreOf (count : ℕ) (t : Turns) : Type 0 where
  few : length t.players ≡ count
  below : t.running < count

changed_of : (count : ℕ) (t : Turns) (next : Option ℕ) → next_in t.running (length t.players) (ends_of t) ≡ next → AreOf count t → AreOf count (changed_to t next)
changed_of count t None is are = are
changed_of count t (Some next) is are = record {
  few = are.few;
  below = found_below count (λ task. not (has_ended (ends_of t) task)) (others t.running (length t.players)) next
      (subst (λ n. All (λ k. k < count) (others t.running n)) (sym are.few) (others_below count t.running are.below)) is;
}

once_of : (count : ℕ) (t : Turns) (p : Player) → p.end ≡ None → AreOf count t → AreOf count (once t p).turns
once_of count t p going are =
    let one = once_follows t p going in
    let set : AreOf count (with_player t one.q) = record { few = length_set t.players t.running one.q ∙ are.few; below = are.below } in
    elim one.next [
      | inl is ↦ subst (AreOf count) (sym is) (changed_of count (with_player t one.q) _ refl set)
      | inr both ↦ subst (AreOf count) (sym both.0) set
    ]

tries_by : (count : ℕ) (t : Turns) (p : Player) (rest : Turns → After) (end : Option FlatEnd) → p.end ≡ end → AreOf count t → ((next : Turns) → AreOf count next → All (IsBelow count) (rest next).told)
    → All (IsBelow count) (cond (is_some end) (record { told = []; turns = t }) (with_told (once t p).told (rest (once t p).turns))).told
tries_by count t p rest (Some end) going are behind = All-nil (IsBelow count)
tries_by count t p rest None going are behind =
    let one = once_follows t p going in
    All-append (IsBelow count) (once t p).told (rest (once t p).turns).told (all_below count t.running (once t p).told are.below one.others_told)
    (behind (once t p).turns (once_of count t p going are))

tries_found : (count : ℕ) (t : Turns) (rest : Turns → After) (found : Option Player) → AreOf count t → ((next : Turns) → AreOf count next → All (IsBelow count) (rest next).told)
    → All (IsBelow count) (go_on t found rest).told
tries_found count t rest None are behind = All-nil (IsBelow count)
tries_found count t rest (Some p) are behind = tries_by count t p rest p.end refl are behind

tries_below : (n count : ℕ) (t : Turns) → AreOf count t → All (IsBelow count) (tries n t).told
unfolding tries
tries_below zero count t are = All-nil (IsBelow count)
tries_below (suc n) count t are = tries_found count t (tries n) (slice_get t.players t.running) are (λ next are'. tries_below n count next are')

pub reset_long : (words : List ℕ) (k : ℕ) (scripts : List Schedule) (quantum slots n : ℕ) → length (players_at_reset words k scripts quantum slots n) ≡ length scripts
reset_long words k [] quantum slots n = refl
reset_long words k (script ∷ scripts) quantum slots n = ap (λ m. suc m) (reset_long words (k + 1) scripts quantum slots n)

told_below : (asked : AskedTasks) → length asked.scripts ≡ asked.count → 1 ≤ asked.count → All (IsBelow asked.count) (told_in asked)
told_below asked long some =
    tries_below _ asked.count (turns_at_reset asked.image asked.scripts asked.quantum asked.slots asked.steps)
    (record { few = reset_long (task_words (length asked.scripts) asked.image) 0 asked.scripts asked.quantum asked.slots asked.steps ∙ long; below = some })

-- The status. ---------------------------------------------------------------------------------------------

start_long : (asked : AskedTasks) (scripts : List Schedule) → 1 ≤ length scripts → length (start_in asked scripts).tasks ≡ length scripts
start_long asked [] some = absurd (omega (arith, some))
start_long asked (first ∷ scripts) some = ap (λ m. suc m) (waiting_length 1 scripts asked.quantum asked.slots)

worse_by : (a b : Status) (less : Bool) → nat_lt (number_of a) (number_of b) ≡ less → number_of (cond less b a) ≡ max (number_of a) (number_of b)
worse_by a b true is = let less : number_of a < number_of b = grind (arith, nat_tests, is) in omega (arith, less)
worse_by a b false is = let most : number_of b ≤ number_of a = grind (arith, nat_tests, is) in omega (arith, most)

worst_is : (own : Status) (tasks : List Task) (k : ℕ) (f : ℕ → ℕ) → ((j : ℕ) (task : Task) → slice_get tasks j ≡ Some task → number_of (status_of_task task.end) ≡ f (k + j))
    → number_of (worst own tasks) ≡ max (number_of own) (greatest (map f (range_with_len k (length tasks))))
worst_is own [] k f each = omega arith
worst_is own (task ∷ tasks) k f each =
    let here : k + 0 ≡ k = omega arith in
    let first : number_of (status_of_task task.end) ≡ f k = each 0 task refl ∙ ap f here in
    let two : number_of (worse own (status_of_task task.end)) ≡ max (number_of own) (number_of (status_of_task task.end)) =
    worse_by own (status_of_task task.end) (nat_lt (number_of own) (number_of (status_of_task task.end))) refl in
    let more = worst_is (worse own (status_of_task task.end)) tasks (k + 1) f (λ j other there. let at : k + suc j ≡ k + 1 + j = omega arith in each (suc j) other there ∙ ap f at) in
    omega (arith, first, two, more)

end_is : (end : Option TaskEnd) (own : FlatEnd) → flat_end_of end ≡ Some own → number_of (status_of_task end) ≡ end_status own
end_is None own is = absurd (cc)
end_is (Some end) own is = let same : flat_end end ≡ own = cc in ap (λ e. number_of (status_of_end e)) same ∙ status_same own

get_below : (tasks : List Task) (j : ℕ) (task : Task) → slice_get tasks j ≡ Some task → j < length tasks
get_below [] j task there = absurd (cc)
get_below (first ∷ tasks) zero task there = omega arith
get_below (first ∷ tasks) (suc j) task there = omega (arith, get_below tasks j task there)

each_status : (asked : AskedTasks) (t : Tasks) → AreAlone asked t → (j : ℕ) (task : Task) → j < asked.count → slice_get t.tasks j ≡ Some task
    → number_of (status_of_task task.end) ≡ end_status (alone_of asked j).end
each_status asked t each j task below there =
    let one = each j below in
    let same : one.0 ≡ task = (let both : Some one.0 ≡ Some task = sym one.1 ∙ there in cc) in
    end_is task.end (alone_of asked j).end (ap (λ (x : Task). flat_end_of x.end) (sym same) ∙ one.2.1 ∙ ap (λ (r : Run). Some r.end) (run_alone asked j))

status_is : (asked : AskedTasks) (t : Tasks) → length t.tasks ≡ asked.count → AreAlone asked t → number_of (worst status.Done t.tasks) ≡ worst_status asked
status_is asked t long each =
    let f : ℕ → ℕ = λ task. end_status (alone_of asked task).end in
    let all = worst_is status.Done t.tasks 0 f (λ j task there.
    let at : j ≡ 0 + j = omega arith in
    each_status asked t each j task (omega (arith, get_below t.tasks j task there, long)) there ∙ ap f at) in
    let count : greatest (map f (range_with_len 0 (length t.tasks))) ≡ worst_status asked = ap (λ n. greatest (map f (range_with_len 0 n))) long in
    omega (arith, all, count)

-- The answer. ---------------------------------------------------------------------------------------------

apart : (asked : AskedTasks) (words : List (List ℕ)) (exit : Exit) (status faults : ℕ) (taken : List ℕ) (call : Call words exit status faults taken) (t : Tasks) → length asked.scripts ≡ asked.count
    → 1 ≤ asked.count
    → RunsTasksToTheEnd (tasks_request_of asked) call.sink call.sink' exit.status t → Somehow call.sink call.sink' (λ sink. AreApart sink asked status taken t)
apart asked words exit status faults taken call t long some run =
    let told = told_in asked in
    let tasks : length t.tasks ≡ asked.count =
    ap (λ (z : Tasks). length z.tasks) run.is ∙ path_long asked.steps (start_in asked asked.scripts) run.plays run.last run.path ∙ start_long asked asked.scripts (omega (arith, long, some)) ∙ long in
    let whole = ap₂ (λ a b. a ++ b) (told_same asked.quantum told) (last_same t.natural t.entries t.pages t.switches) in
    let leads : turns_of asked.steps run.last ≡ (in_turn asked).turns =
    ap (λ (a : After). a.turns) (sym (path_turns asked.steps (start_in asked asked.scripts) run.plays run.last run.path run.ended)) ∙ ap (λ (s : Turns). (turns s).turns) run.start.turns in
    so_then call.sink call.sink' _ (λ sink. AreApart sink asked status taken t) (λ sink said. record {
      told = (
        retold sink _ _ _ _ status taken (status_is asked t tasks run.alone) whole said,
        past_by words exit status faults taken call _ _ (told_same asked.quantum told) run.begun,
      );
      theirs = printed_below asked.count asked.quantum told (told_below asked long some);
      each = λ task below. own_same task asked.quantum told ∙ ap (map (line_shown asked.quantum)) (run.alone task below).2.0 ∙ shown_alone asked task;
      stints = have_stints asked asked.scripts t run.last run.plays false (in_turn asked).turns refl long some run.start.sound run.start.turns run.path run.is leads run.sound;
      alone = λ task below.
          let one = run.alone task below in
          let here : slice_get run.last.tasks task ≡ Some one.0 = ap (λ (z : Tasks). slice_get z.tasks task) (sym run.is) ∙ one.1 in
          let same : player_of asked.steps t task one.0 ≡ player_of asked.steps run.last task one.0 = ap (λ (z : Tasks). player_of asked.steps z task one.0) run.is in (
            player_of asked.steps t task one.0,
            ap (λ (s : Turns). slice_get s.players task) (sym leads) ∙ player_here asked.steps run.last task one.0 here ∙ ap Some (sym same),
            one.2.2 ∙ ap (λ (r : Run). r.state) (run_alone asked task),
            one.2.1 ∙ ap (λ (r : Run). Some r.end) (run_alone asked task),
          );
      unbroken = ap (λ (z : Tasks). z.broken) run.is;
    }) (told_how words exit status faults taken call _ _ run.said)

are_run : (asked : AskedTasks) (words : List (List ℕ)) (exit : Exit) (status faults : ℕ) (taken : List ℕ) (call : Call words exit status faults taken) (t : Tasks) → length asked.scripts ≡ asked.count
    → 1 ≤ asked.count → exit.kept ≡ None → exit.tasks ≡ Some t
    → RunsTasks (tasks_request_of asked) call.sink call.sink' exit.status t → Somehow call.sink call.sink' (λ sink. AreRun sink asked status taken exit.kept exit.tasks)
are_run asked words exit status faults taken call t long some none kept (RunsTasks.Ended run) =
    so_then call.sink call.sink' (λ sink. AreApart sink asked status taken t) (λ sink. AreRun sink asked status taken exit.kept exit.tasks) (λ sink is. Ended t is none kept)
    (apart asked words exit status faults taken call t long some run)
are_run asked words exit status faults taken call t long some none kept (RunsTasks.Cut run) =
    let tried : told_of run.plays ≡ (tries (length run.plays) (turns_in asked)).told = ap (λ (a : After). a.told) (sym run.in_turn.tried) in (
      Fails,
      run.rose,
      Cut t refl (record {
        count = length run.plays;
        told = retold Fails 6 6 _ _ status taken refl (told_same asked.quantum (told_of run.plays) ∙ ap (λ t. printed_text (printed_by asked.quantum t)) tried)
            (cut_by words exit status faults taken call _ run.status_is run.put);
        front = retold Fails 6 6 _ _ status taken refl (told_same asked.quantum (told_in asked)) (cut_by words exit status faults taken call _ run.status_is run.front);
        stints = have_stints asked asked.scripts t run.last run.plays true (tries (length run.plays) (reset_of asked)).turns refl long some run.start.sound run.start.turns run.path run.is
            (ap (λ (a : After). a.turns) (sym run.in_turn.tried)) run.sound;
        broken = ap (λ (z : Tasks). z.broken) run.is;
      }) none kept,
    )

pub tasks_told : (words : List (List ℕ)) (exit : Exit) (status faults : ℕ) (taken : List ℕ) (call : Call words exit status faults taken) (text : List ℕ) → Tells call.source call.source' text
    → (asked : AskedTasks)
    → AsksTasks words text asked → IsSoThen faults (λ sink. AreRun sink asked status taken exit.kept exit.tasks)
tasks_told words exit status faults taken call text tells asked asks =
    let some = one_program words (tasks_options_of asked) asks.command in
    told_by words exit status faults taken call _ (λ sink. AreRun sink asked status taken exit.kept exit.tasks)
    (inl (
      TasksCommand (tasks_options_of asked),
      asks.command,
      (text, tells, inr (asks.front.short, Good (asked.image, asks.front.position) asks.front.hex (Good asked.scripts asks.scripts (Placed asks.placed refl)))),
    ))
    (λ sink told none alone. NoMemory told none alone) (λ done. are_run asked words exit status faults taken call done.tasks
    (each_task asked.count _ asked.scripts asks.scripts) some done.none done.kept done.runs)
