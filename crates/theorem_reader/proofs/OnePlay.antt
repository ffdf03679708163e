-- Two runs of the same programs on one mote, from one start: each try leaves the same mote, the same counts and the same turns.
use Rattle.std.proofs.Common.{◌≡◌, ℕ, ◌+◌, ◌-◌, Bool, false, true, List, [], ◌∷◌, ◌++◌, length, map, Option, Some, None, refl, sym, ap, ap₂, ◌∙◌, subst, arith}
use Rattle.std.specs.Prelude.{is_some, slice_get, slice_set, sum_by}
use Rattle.std.specs.Option.{option_map}
use Rattle.std.proofs.lemmas.List.{map-set}
use Rattle.std.proofs.lemmas.List.Sums.{sum_by-cons}
use Rattle.std.proofs.lemmas.Option.{same_Some, slice_get-map}
use Rattle.flash_words.specs.declared.layout.Layout.{Layout}
use Rattle.flash_words.specs.Layouts.{layout_of, image_of, IsRight}
use Rattle.flat_machine.specs.FlatMachine.{Spent, Wild, End as FlatEnd}
use Rattle.kernel_entry.specs.Parts.{image_held}
use Rattle.kernel_entry.specs.declared.kernel.Kernel.{Kernel}
use Rattle.kernel_entry.specs.declared.kernel.Owed.{Owed}
use Rattle.kernel_entry.specs.declared.kernel.End.{End}
use Rattle.step_laws.specs.Moves.{Move}
use Rattle.step_laws.specs.Numbers.{Numbers, numbered}
use Rattle.step_laws.specs.States.{Awaited, State}
use Rattle.step_laws.specs.Walks.{Walk}
use Rattle.program_steps.specs.Machines.{Machine, awaited, state_of, numbers_of}
use Rattle.mote_core.specs.declared.mote.Mote.{Mote}
use Rattle.parked_tasks.specs.declared.parked.Parked.{Parked}
use Rattle.parked_tasks.specs.declared.task.Task.{Task}
use Rattle.parked_tasks.specs.declared.task.TaskEnd.{TaskEnd}
use Rattle.parked_tasks.specs.Ends.{flat_end_of}
use Rattle.parked_tasks.specs.Handing.{parking, with_parked, parked_by, given_to_task, handed_over}
use Rattle.parked_tasks.specs.Parking.{parked_of}
use Rattle.task_turns.specs.Quarters.{quarter_part}
use Rattle.task_turns.specs.Turns.{Player, Turns, Played, Over, Gone, played, once, HaveEnded}
use Rattle.tk_tasks.specs.Changes.{given_by, given_to, next_task}
use Rattle.tk_tasks.specs.Plays.{Play, AreAStep, AreOfTry, GoesOn, IsPlay, TaskPath, counted, told_text}
use Rattle.tk_tasks.specs.States.{Tasks, owed_of, stub_of, mote_for, machine_end, arrivals_of, others_of, machine_of, player_of, players_from, turns_of}
use Rattle.tk_tasks.specs.Trying.{target_of}
use Rattle.tk_tasks.proofs.Paths.{player_here}
use Rattle.tk_tasks.proofs.Stints.{next_there, next_unparked}
use Rattle.printed_text.specs.Counts.{tasks_count_text}
use Rattle.cli_words.specs.declared.request.TaskRequest.{TaskRequest}
use Rattle.cli_words.specs.declared.status.Status.{Status}
use Rattle.cli_words.specs.declared.status.Status.TheVariants as statuses
use Rattle.cli_words.specs.Stream.{Stream}
use Rattle.tkernel_cli.specs.Runs.{status_of_end}
use Rattle.tkernel_cli.specs.TasksRuns.{RunsTasksToTheEnd, start_of, all_told, worse, worst, status_of_task}
use Rattle.theorem_reader.proofs.Acting.{Holds, follow}
use Rattle.theorem_reader.proofs.Answering.{layout_same}
use Rattle.theorem_reader.proofs.OneRun.{both_ended, ended}
use Rattle.walk_laws.proofs.OneWalk.{compare}
use Rattle.theorem_reader.proofs.OneWalk.{IsStep, step_is, same_step, AreSame}

-- Tasks that are alike. -----------------------------------------------------------------------------------

-- what a task is, but where its program stands and how it ended, which the turns tell
abbrev bare : Task → Task
bare task = record task { at = 0; due = false; end = None; crossings = 0 }

-- the arrival that is owed
abbrev owed_at : Option ℕ → Option Task → Option Owed
owed_at stub None = None
owed_at stub (Some task) = owed_of task.owed stub

-- the same mote, pages and tasks, and the running one owes the same
record AreAlike (t u : Tasks) : Type 0 where
  running : t.running ≡ u.running
  kernel : t.kernel ≡ u.kernel
  pages : t.pages ≡ u.pages
  tasks : map bare t.tasks ≡ map bare u.tasks
  owed : owed_at t.stub (slice_get t.tasks t.running) ≡ owed_at u.stub (slice_get u.tasks u.running)

-- .. which stand at the same turns
record StandAlike (n : ℕ) (t u : Tasks) : Type 0 where
  turns : turns_of n t ≡ turns_of n u
  like : AreAlike t u

bare_there : (tasks : List Task) (i : ℕ) (task : Task) → slice_get tasks i ≡ Some task → slice_get (map bare tasks) i ≡ Some (bare task)
bare_there tasks i task there = slice_get-map bare tasks i ∙ ap (option_map bare) there

sum_bare : (f : Task → ℕ) (tasks : List Task) → ((task : Task) → f (bare task) ≡ f task) → sum_by f (map bare tasks) ≡ sum_by f tasks
sum_bare f [] same = refl
sum_bare f (task ∷ tasks) same = omega (arith, sum_bare f tasks same, same task, sum_by-cons f (bare task) (map bare tasks), sum_by-cons f task tasks)

sum_like : (f : Task → ℕ) (t u : Tasks) → ((task : Task) → f (bare task) ≡ f task) → AreAlike t u → sum_by f t.tasks ≡ sum_by f u.tasks
sum_like f t u same like = sym (sum_bare f t.tasks same) ∙ ap (sum_by f) like.tasks ∙ sum_bare f u.tasks same

-- The machine of the running task. ------------------------------------------------------------------------

abbrev state_by : Kernel → Option Owed → Bool → Option End → State
state_by kernel owed due end = record { kernel = kernel; owed = awaited owed due; end = end; torn = None }

abbrev numbers_by : Task → (pages others ops : ℕ) → Numbers
numbers_by task pages others ops =
    record { steps = task.steps; natural = task.natural; entries = task.entries; pages = pages; since = task.since; longest = task.longest; began = 0; others = others; ops = ops }

state_is : (t : Tasks) (i : ℕ) (task : Task) → t.kernel.part ≡ quarter_part i → task.parked ≡ None
    → state_of (machine_of t i task) ≡ state_by t.kernel (owed_of task.owed t.stub) task.due (machine_end task.end)
state_is t i task part alone =
    ap (λ q. state_by (record t.kernel { mote = mote_for t.kernel.mote q; part = quarter_part i }) (owed_of task.owed (stub_of t q)) task.due (machine_end task.end)) alone
    ∙ ap (λ p. state_by (record t.kernel { part = p }) (owed_of task.owed t.stub) task.due (machine_end task.end)) (sym part)

numbers_is : (t : Tasks) (i : ℕ) (task : Task) → task.parked ≡ None → numbers_of (machine_of t i task) ≡ numbers_by task t.pages (others_of t task) t.kernel.mote.flash.ops
numbers_is t i task alone = ap (λ q. numbers_by task t.pages (others_of t task) (mote_for t.kernel.mote q).flash.ops) alone

-- Before a try. -------------------------------------------------------------------------------------------

record BeginAlike (n : ℕ) (t u : Tasks) (task other : Task) : Type 0 where
  player : player_of n t t.running task ≡ player_of n u u.running other
  state : state_of (machine_of t t.running task) ≡ state_of (machine_of u u.running other)
  numbers : numbers_of (machine_of t t.running task) ≡ numbers_of (machine_of u u.running other)

begin_alike : (n : ℕ) (t new u new' : Tasks) (play play' : Play) → StandAlike n t u → (one : IsPlay n t play new) → (other : IsPlay n u play' new') → BeginAlike n t u one.task other.task
begin_alike n t new u new' play play' alike one other =
    let like = alike.like in
    let task = one.task in
    let task' = other.task in
    let alone = (one.sound.each t.running task one.here).running refl in
    let alone' = (other.sound.each u.running task' other.here).running refl in
    let player : player_of n t t.running task ≡ player_of n u u.running task' =
    same_Some _ _ (sym (player_here n t t.running task one.here) ∙ ap₂ (λ (s : Turns) r. slice_get s.players r) alike.turns like.running ∙ player_here n u u.running task' other.here) in
    let same : bare task ≡ bare task' = same_Some _ _ (sym (bare_there t.tasks t.running task one.here) ∙ ap₂ slice_get like.tasks like.running ∙ bare_there u.tasks u.running task' other.here) in
    let owed : owed_of task.owed t.stub ≡ owed_of task'.owed u.stub = sym (ap (owed_at t.stub) one.here) ∙ like.owed ∙ ap (owed_at u.stub) other.here in
    let others : others_of t task ≡ others_of u task' = ap₂ (λ sum (x : Task). sum - arrivals_of x) (sum_like arrivals_of t u (λ x. refl) like) same in
    record {
      player = player;
      state = state_is t t.running task one.sound.part alone ∙ ap₂ (λ k o. state_by k o task.due (machine_end task.end)) like.kernel owed
          ∙ ap₂ (λ d e. state_by u.kernel (owed_of task'.owed u.stub) d (machine_end e)) (ap (λ (p : Player). p.moment.due) player) (one.going ∙ sym other.going)
          ∙ sym (state_is u u.running task' other.sound.part alone');
      numbers = numbers_is t t.running task alone ∙ ap₂ (λ (x : Task) others. numbers_by x t.pages others t.kernel.mote.flash.ops) same others
          ∙ ap₂ (λ pages (k : Kernel). numbers_by task' pages (others_of u task') k.mote.flash.ops) like.pages like.kernel ∙ sym (numbers_is u u.running task' alone');
    }

-- The moves of a try. -------------------------------------------------------------------------------------

is_step : (at : ℕ) (moves : List Move) → AreAStep at moves → IsStep moves
is_step at moves made = subst IsStep (sym made.parts) (step_is at made.arrival made.own made.arrives made.makes)

no_moves : (y m : State) (moves : List Move) → moves ≡ [] → Walk y moves m → y ≡ m
no_moves y m moves none walk = subst (λ l. Walk y l m) none walk

same_try : (image : List ℕ) (quantum : ℕ) (start m n : Machine) (at at' : ℕ) (ms ns : List Move) (comes : Played) → IsRight (layout_of (length image)) → Holds image quantum (state_of start)
    → Walk (state_of start) ms (state_of m) → Walk (state_of start) ns (state_of n) → AreOfTry at ms m comes → AreOfTry at' ns n comes → AreSame ms ns m n
same_try image quantum start m n at at' ms ns (Over Spent) right holds walk walk' none none' =
    (none ∙ sym none', sym (no_moves (state_of start) (state_of m) ms none walk) ∙ no_moves (state_of start) (state_of n) ns none' walk')
same_try image quantum start m n at at' ms ns (Over (Wild pc)) right holds walk walk' none none' =
    (none ∙ sym none', sym (no_moves (state_of start) (state_of m) ms none walk) ∙ no_moves (state_of start) (state_of n) ns none' walk')
same_try image quantum start m n at at' ms ns (Over _) right holds walk walk' made made' =
    both_ended image quantum start m n ms ns right holds walk walk' (ended m _ made.stops) (ended n _ made'.stops)
same_try image quantum start m n at at' ms ns (Gone line checkpoint next) right holds walk walk' made made' =
    same_step image quantum m n ms ns (follow image quantum (state_of start) ms (state_of m) walk holds).holds (follow image quantum (state_of start) ns (state_of n) walk' holds).holds
    made.ready made'.ready (is_step at ms made.step) (is_step at' ns made'.step) (compare (state_of start) (state_of m) (state_of n) ms ns (subst IsRight (sym holds.laid) right) walk walk')

-- both tries make the same moves, and come to the same
tried_alike : (n : ℕ) (t new u new' : Tasks) (play play' : Play) → (one : IsPlay n t play new) → (other : IsPlay n u play' new') → BeginAlike n t u one.task other.task
    → AreSame play.moves play'.moves (machine_of one.mid t.running one.next) (machine_of other.mid u.running other.next)
tried_alike n t new u new' play play' one other begin =
    let start = machine_of t t.running one.task in
    let m = machine_of one.mid t.running one.next in
    let m' = machine_of other.mid u.running other.next in
    let image = image_held start.kernel in
    let sound = (one.sound.each t.running one.task one.here).sound in
    let laid = layout_same image start sound refl in
    same_try image start.kernel.quantum start m m' one.task.at other.task.at play.moves play'.moves (played (player_of n t t.running one.task)) (subst IsRight laid sound.order.right)
    (record { laid = laid; held = ap (λ (l : Layout). image_of l start.kernel.mote.flash.words) (sym laid); counts = refl })
    one.tried.goes.walk (subst (λ (s : State). Walk s play'.moves (state_of m')) (sym begin.state) other.tried.goes.walk)
    one.of_try (subst (AreOfTry other.task.at play'.moves m') (sym (ap played begin.player)) other.of_try)

-- Behind a try. -------------------------------------------------------------------------------------------

abbrev unawaited : Option Awaited → Option Owed
unawaited None = None
unawaited (Some owed) = Some (record { target = owed.target; stub = owed.stub })

unawaited_is : (owed : Option Owed) (due : Bool) → unawaited (awaited owed due) ≡ owed
unawaited_is None due = refl
unawaited_is (Some owed) due = refl

target_is : (owed stub : Option ℕ) → target_of (owed_of owed stub) ≡ owed
target_is None stub = refl
target_is (Some target) stub = refl

-- a task by what its machine's numbers tell
abbrev task_by : Option Parked → Option ℕ → Numbers → Task
task_by parked owed k = record {
  parked = parked;
  at = 0;
  owed = owed;
  due = false;
  end = None;
  steps = k.steps;
  crossings = 0;
  natural = k.natural;
  entries = k.entries;
  since = k.since;
  longest = k.longest;
}

mid_alike : (n : ℕ) (t new u new' : Tasks) (play play' : Play) → StandAlike n t u → (one : IsPlay n t play new) → (other : IsPlay n u play' new') → BeginAlike n t u one.task other.task
    → AreAlike one.mid other.mid
mid_alike n t new u new' play play' alike one other begin =
    let like = alike.like in
    let mid = one.mid in
    let mid' = other.mid in
    let next = one.next in
    let next' = other.next in
    let alone = next_unparked n t new play one in
    let alone' = next_unparked n u new' play' other in
    let moved = tried_alike n t new u new' play play' one other begin in
    let state =
    sym (state_is mid t.running next (one.tried.sound.part ∙ ap quarter_part one.tried.running) alone) ∙ moved.1
    ∙ state_is mid' u.running next' (other.tried.sound.part ∙ ap quarter_part other.tried.running) alone' in
    let numbers : numbers_of (machine_of mid t.running next) ≡ numbers_of (machine_of mid' u.running next') =
    one.tried.goes.numbers ∙ ap₂ numbered moved.0 begin.numbers ∙ sym other.tried.goes.numbers in
    let owed : owed_of next.owed mid.stub ≡ owed_of next'.owed mid'.stub =
    sym (unawaited_is (owed_of next.owed mid.stub) next.due) ∙ ap (λ (s : State). unawaited s.owed) state ∙ unawaited_is (owed_of next'.owed mid'.stub) next'.due in
    let target : next.owed ≡ next'.owed = sym (target_is next.owed mid.stub) ∙ ap target_of owed ∙ target_is next'.owed mid'.stub in
    let same : bare next ≡ bare next' = ap₂ (λ p o. task_by p o (numbers_of (machine_of mid t.running next))) (alone ∙ sym alone') target ∙ ap (task_by next'.parked next'.owed) numbers in
    let here : slice_get mid.tasks mid.running ≡ Some next = ap (slice_get mid.tasks) one.tried.running ∙ next_there n t new play one in
    let here' : slice_get mid'.tasks mid'.running ≡ Some next' = ap (slice_get mid'.tasks) other.tried.running ∙ next_there n u new' play' other in
    record {
      running = one.tried.running ∙ like.running ∙ sym other.tried.running;
      kernel = ap (λ (s : State). s.kernel) state;
      pages = ap (λ (k : Numbers). k.pages) numbers;
      tasks = ap (map bare) one.tried.tasks ∙ map-set bare t.tasks t.running next ∙ ap (slice_set (map bare t.tasks) t.running) same
          ∙ ap₂ (λ l r. slice_set l r (bare next')) like.tasks like.running ∙ sym (ap (map bare) other.tried.tasks ∙ map-set bare u.tasks u.running next');
      owed = ap (owed_at mid.stub) here ∙ owed ∙ sym (ap (owed_at mid'.stub) here');
    }

-- The change of the task. ---------------------------------------------------------------------------------

bare_parking : (tasks : List Task) (i : ℕ) (parked : Option Parked) (found : Option Task) → map bare (parking tasks i parked found) ≡ parking (map bare tasks) i parked (option_map bare found)
bare_parking tasks i parked None = refl
bare_parking tasks i parked (Some task) = map-set bare tasks i (record task { parked = parked })

bare_with : (tasks : List Task) (i : ℕ) (parked : Option Parked) → map bare (with_parked tasks i parked) ≡ with_parked (map bare tasks) i parked
bare_with tasks i parked = bare_parking tasks i parked (slice_get tasks i) ∙ ap (parking (map bare tasks) i parked) (sym (slice_get-map bare tasks i))

bare_handed : (tasks : List Task) (running next : ℕ) (m : Mote) → map bare (handed_over tasks running next m) ≡ handed_over (map bare tasks) running next m
bare_handed tasks running next m = bare_with (with_parked tasks next None) running (Some (parked_of m)) ∙ ap (λ l. with_parked l running (Some (parked_of m))) (bare_with tasks next None)

parked_found : (found : Option Task) → parked_by (option_map bare found) ≡ parked_by found
parked_found None = refl
parked_found (Some task) = refl

parked_bare : (tasks : List Task) (i : ℕ) → parked_by (slice_get (map bare tasks) i) ≡ parked_by (slice_get tasks i)
parked_bare tasks i = ap parked_by (slice_get-map bare tasks i) ∙ parked_found (slice_get tasks i)

owed_found : (stub : Option ℕ) (found : Option Task) → owed_at stub (option_map bare found) ≡ owed_at stub found
owed_found stub None = refl
owed_found stub (Some task) = refl

owed_bare : (stub : Option ℕ) (tasks : List Task) (i : ℕ) → owed_at stub (slice_get (map bare tasks) i) ≡ owed_at stub (slice_get tasks i)
owed_bare stub tasks i = ap (owed_at stub) (slice_get-map bare tasks i) ∙ owed_found stub (slice_get tasks i)

given_alike : (t u : Tasks) (next next' : ℕ) (parked parked' : Parked) → AreAlike t u → next ≡ next' → parked_by (slice_get t.tasks next) ≡ Some parked
    → parked_by (slice_get u.tasks next') ≡ Some parked' → AreAlike (given_by t next (Some parked)) (given_by u next' (Some parked'))
given_alike t u next next' parked parked' like same waits waits' =
    let gets : parked ≡ parked' = same_Some _ _ (sym waits ∙ sym (parked_bare t.tasks next) ∙ ap₂ (λ l i. parked_by (slice_get l i)) like.tasks same ∙ parked_bare u.tasks next' ∙ waits') in
    let m = t.kernel.mote in
    let m' = u.kernel.mote in
    let hand = handed_over t.tasks t.running next m in
    let hand' = handed_over u.tasks u.running next' m' in
    let tasks : map bare hand ≡ map bare hand' =
    bare_handed t.tasks t.running next m ∙ ap₂ (λ l r. handed_over l r next m) like.tasks like.running ∙ ap₂ (λ i (k : Kernel). handed_over (map bare u.tasks) u.running i k.mote) same like.kernel
    ∙ sym (bare_handed u.tasks u.running next' m') in
    record {
      running = same;
      kernel = ap₂ (λ k i. given_to_task k i parked) like.kernel same ∙ ap (given_to_task u.kernel next') gets;
      pages = like.pages;
      tasks = tasks;
      owed = sym (owed_bare None hand next) ∙ ap₂ (λ l i. owed_at None (slice_get l i)) tasks same ∙ owed_bare None hand' next';
    }

-- the same task goes on, or another is given the mote
data Leaves (mid new : Tasks) : Type 0 where
  Same : new ≡ mid → Leaves mid new
  Other : (next : ℕ) → (parked : Parked) → parked_by (slice_get mid.tasks next) ≡ Some parked → new ≡ given_by mid next (Some parked) → Leaves mid new

leaves_by : (mid : Tasks) (next : ℕ) (parked : Option Parked) → parked_by (slice_get mid.tasks next) ≡ parked → Leaves mid (given_by mid next parked)
leaves_by mid next None waits = Same refl
leaves_by mid next (Some parked) waits = Other next parked waits refl

leaves_to : (mid : Tasks) (found : Option ℕ) → Leaves mid (given_to mid found)
leaves_to mid None = Same refl
leaves_to mid (Some next) = leaves_by mid next (parked_by (slice_get mid.tasks next)) refl

leaves_on : (changes : Bool) (mid new : Tasks) → GoesOn changes mid new → Leaves mid new
leaves_on false mid new is = Same is
leaves_on true mid new is = subst (Leaves mid) (sym is) (leaves_to mid (next_task mid))

-- .. as the count of changes tells
new_alike : (mid mid' new new' : Tasks) → AreAlike mid mid' → mid.switches ≡ mid'.switches → new.running ≡ new'.running → new.switches ≡ new'.switches
    → Leaves mid new → Leaves mid' new' → AreAlike new new'
new_alike mid mid' new new' like same running switches (Same is) (Same is') = subst (AreAlike new) (sym is') (subst (λ (z : Tasks). AreAlike z mid') (sym is) like)
new_alike mid mid' new new' like same running switches (Same is) (Other next parked waits is') =
    absurd (omega (arith, same, switches, ap (λ (z : Tasks). z.switches) is, ap (λ (z : Tasks). z.switches) is'))
new_alike mid mid' new new' like same running switches (Other next parked waits is) (Same is') =
    absurd (omega (arith, same, switches, ap (λ (z : Tasks). z.switches) is, ap (λ (z : Tasks). z.switches) is'))
new_alike mid mid' new new' like same running switches (Other next parked waits is) (Other next' parked' waits' is') =
    let to : next ≡ next' = sym (ap (λ (z : Tasks). z.running) is) ∙ running ∙ ap (λ (z : Tasks). z.running) is' in
    subst (AreAlike new) (sym is') (subst (λ (z : Tasks). AreAlike z (given_by mid' next' (Some parked'))) (sym is) (given_alike mid mid' next next' parked parked' like to waits waits'))

-- Tries one after another. --------------------------------------------------------------------------------

play_alike : (n : ℕ) (t new u new' : Tasks) (play play' : Play) → StandAlike n t u → IsPlay n t play new → IsPlay n u play' new' → StandAlike n new new'
play_alike n t new u new' play play' alike one other =
    let begin = begin_alike n t new u new' play play' alike one other in
    let turns : turns_of n new ≡ turns_of n new' = one.in_turn ∙ ap₂ (λ (s : Turns) p. (once s p).turns) alike.turns begin.player ∙ sym other.in_turn in
    let switches : one.mid.switches ≡ other.mid.switches = one.tried.switches ∙ ap (λ (s : Turns). s.switches) alike.turns ∙ sym other.tried.switches in
    record {
      turns = turns;
      like = new_alike one.mid other.mid new new' (mid_alike n t new u new' play play' alike one other begin) switches (ap (λ (s : Turns). s.running) turns) (ap (λ (s : Turns). s.switches) turns)
          (leaves_on play.changes one.mid new one.behind) (leaves_on play'.changes other.mid new' other.behind);
    }

-- where all have ended, none is tried
none_tried : (n : ℕ) (t new : Tasks) (play : Play) → HaveEnded (turns_of n t) → IsPlay n t play new → ⊥
none_tried n t new play ended one =
    let over : is_some (flat_end_of one.task.end) ≡ true = ended t.running (player_of n t t.running one.task) (player_here n t t.running one.task one.here) in
    let going : is_some (flat_end_of one.task.end) ≡ false = ap (λ e. is_some (flat_end_of e)) one.going in
    let e : ◌≡◌ {A = Bool} true false = sym over ∙ going in
    absurd (cc)

-- so both make as many, and all have ended alike
same_end : (n : ℕ) (t u last last' : Tasks) (plays plays' : List Play) → StandAlike n t u → TaskPath n t plays last → TaskPath n u plays' last'
    → HaveEnded (turns_of n last) → HaveEnded (turns_of n last') → StandAlike n last last'
same_end n t u last last' [] [] alike is is' ended ended' = subst (StandAlike n last) is' (subst (λ (z : Tasks). StandAlike n z u) is alike)
same_end n t u last last' [] (play ∷ plays) alike is (mid, one, rest) ended ended' =
    absurd (none_tried n u mid play (subst HaveEnded (ap (turns_of n) (sym is) ∙ alike.turns) ended) one)
same_end n t u last last' (play ∷ plays) [] alike (mid, one, rest) is ended ended' =
    absurd (none_tried n t mid play (subst HaveEnded (ap (turns_of n) (sym is) ∙ sym alike.turns) ended') one)
same_end n t u last last' (play ∷ plays) (play' ∷ plays') alike (mid, one, rest) (mid', other, rest') ended ended' =
    same_end n mid mid' last last' plays plays' (play_alike n t mid u mid' play play' alike one other) rest rest' ended ended'

-- What is told of two runs to the end. --------------------------------------------------------------------

-- the status by the ends of the programs
status_by : Option FlatEnd → Status
status_by None = statuses.Done
status_by (Some end) = status_of_end end

status_is : (end : Option TaskEnd) → status_of_task end ≡ status_by (flat_end_of end)
unfolding status_by
status_is None = refl
status_is (Some end) = refl

same_cons : {A : Type 0} → (x y : A) (xs ys : List A) → x ∷ xs ≡ y ∷ ys → (x ≡ y) × (xs ≡ ys)
same_cons x y xs ys same = (cc, cc)

same_worst : (n : ℕ) (t u : Tasks) (k : ℕ) (own : Status) (tasks tasks' : List Task) → players_from n t k tasks ≡ players_from n u k tasks' → worst own tasks ≡ worst own tasks'
same_worst n t u k own [] [] same = refl
same_worst n t u k own [] (task ∷ tasks) same = absurd (cc)
same_worst n t u k own (task ∷ tasks) [] same = absurd (cc)
same_worst n t u k own (task ∷ tasks) (task' ∷ tasks') same =
    let parts = same_cons (player_of n t k task) (player_of n u k task') (players_from n t (k + 1) tasks) (players_from n u (k + 1) tasks') same in
    let status = status_is task.end ∙ ap (λ (p : Player). status_by p.end) parts.0 ∙ sym (status_is task'.end) in
    same_worst n t u (k + 1) (worse own (status_of_task task.end)) tasks tasks' parts.1 ∙ ap (λ other. worst (worse own other) tasks') status

-- what the programs tell in turn, and the last line
abbrev pub turns_text : TaskRequest → Tasks → List ℕ
turns_text request t = told_text request.options.quantum (all_told request) ++ tasks_count_text t.natural t.entries t.pages t.switches

-- the other's are the same
pub record TellAlike (request : TaskRequest) (t u : Tasks) : Type 0 where
  pub text : turns_text request u ≡ turns_text request t
  pub status : worst statuses.Done u.tasks ≡ worst statuses.Done t.tasks

tell_alike : (request : TaskRequest) (n : ℕ) (t u : Tasks) → StandAlike n u t → TellAlike request (counted t false) (counted u false)
tell_alike request n t u alike =
    let text : ℕ → ℕ → ℕ → ℕ → List ℕ = λ natural entries pages switches. told_text request.options.quantum (all_told request) ++ tasks_count_text natural entries pages switches in
    let natural = sum_like (λ (task : Task). task.natural) u t (λ x. refl) alike.like in
    let entries = sum_like (λ (task : Task). task.entries) u t (λ x. refl) alike.like in
    record {
      text = ap₂ (λ a b. text a b u.pages u.switches) natural entries ∙ ap₂ (text (counted t false).natural (counted t false).entries) alike.like.pages (ap (λ (s : Turns). s.switches) alike.turns);
      status = same_worst n u t 0 statuses.Done u.tasks t.tasks (ap (λ (s : Turns). s.players) alike.turns);
    }

pub to_their_ends : {before now before' now' : Stream} {told told' : Status} (request : TaskRequest) (t u : Tasks)
    → RunsTasksToTheEnd request before now told t → RunsTasksToTheEnd request before' now' told' u → TellAlike request t u
to_their_ends request t u run run' =
    let n = request.options.steps in
    let start = start_of request in
    let alike = same_end n start start run'.last run.last run'.plays run.plays
    (record { turns = refl; like = record { running = refl; kernel = refl; pages = refl; tasks = refl; owed = refl } }) run'.path run.path run'.ended run.ended in
    subst (TellAlike request t) (sym run'.is) (subst (λ (z : Tasks). TellAlike request z (counted run'.last false)) (sym run.is) (tell_alike request n run.last run'.last alike))
