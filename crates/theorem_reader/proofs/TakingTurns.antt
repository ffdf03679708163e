-- What several programs did on one mote, stint after stint.
use Rattle.std.proofs.Common.{◌≡◌, ◌≢◌, ℕ, zero, suc, ◌+◌, ◌-◌, ◌*◌, ◌≤◌, min, eqb, cond, Bool, true, false, List, [], ◌∷◌, ◌++◌, length, Option, Some, None, refl, sym, ap, ◌∙◌, subst, arith}
use Rattle.std.proofs.Common.{zero-add, inl, inr}
use Rattle.std.specs.Prelude.{slice_get, slice_set, slice_index_or, sum_by, nat_le, ◌==◌, ◌||◌}
use Rattle.std.specs.List.{list_any}
use Rattle.std.proofs.Math.Nat.{min-le_left}
use Rattle.std.proofs.lemmas.Bool.Decides.{nat_tests}
use Rattle.std.proofs.lemmas.Option.{same_Some}
pub use Rattle.std.proofs.lemmas.List.{length-set as length_set}
use Rattle.std.proofs.lemmas.List.FromFn.{length-map-range_with_len}
use Rattle.std.proofs.lemmas.List.Sums.{sum_by-cons}
use Rattle.sram_layout.specs.Bytes.{byte_count, byte_at}
use Rattle.sram_layout.proofs.PartLaws.{part_byte}
use Rattle.flash_words.specs.Memory.{Memory, new_flash}
use Rattle.flash_words.proofs.LoadedLaws.{loaded_image}
use Rattle.flash_words.specs.Layouts.{layout_of, image_of, IsRight}
use Rattle.nat_page.specs.Faithful.{IsFaithful}
use Rattle.nat_page.specs.Used.{used_pages}
use Rattle.input_script.specs.Script.{Schedule}
use Rattle.avr_isa.specs.Image.{word}
use Rattle.heap_frames.specs.Paged.{IsPaged}
use Rattle.heap_frames.proofs.SamePagingLaws.{paged_same}
use Rattle.flat_machine.specs.FlatMachine.{FlatState, Spent, Wild}
use Rattle.avr_exec.specs.declared.cpu.Cpu.{Cpu}
use Rattle.mote_core.specs.declared.mote.Mote.{Mote}
use Rattle.step_laws.specs.Moves.{Move}
use Rattle.step_laws.specs.Numbers.{Numbers}
use Rattle.step_laws.specs.States.{State, mote_of}
use Rattle.step_laws.specs.Walks.{Walk}
use Rattle.program_steps.specs.Machines.{Machine, state_of, numbers_of, flat_of}
use Rattle.program_steps.proofs.Bounds.{most_owed}
use Rattle.tk_run.specs.Running.{StandsAfter}
use Rattle.preempt_count.specs.Counting.{bound_per_crossing}
use Rattle.std.specs.Option.{option_map}
use Rattle.parked_tasks.specs.declared.task.Task.{Task}
use Rattle.parked_tasks.specs.declared.task.TaskEnd.{TaskEnd}
use Rattle.parked_tasks.specs.declared.task.TaskEnd.TheVariants as task_ends
use Rattle.parked_tasks.specs.AtBoot.{parked_at_boot, at_start, waiting_from}
use Rattle.task_input.specs.Images.{task_words}
use Rattle.parked_tasks.specs.Parking.{low_count, high_count, parked_of, Shares, IsBack}
use Rattle.parked_tasks.specs.declared.parked.Parked.{Parked}
use Rattle.parked_tasks.specs.Handing.{parked_by}
use Rattle.tk_tasks.specs.Changes.{given_by, given_to, next_task}
use Rattle.tk_tasks.specs.Plays.{Play, AreAStep, lines_told, IsPlay, GoesOn, TaskPath, counted}
use Rattle.tk_tasks.specs.Plays as playing
use Rattle.tk_tasks.specs.States.{Tasks, owed_of, mote_for, arrivals_of, machine_of, AreSound, player_of, turns_of, players_from}
use Rattle.parked_tasks.specs.Ends.{flat_end_of}
use Rattle.task_turns.specs.Turns.{Player, Turns, Played, Over, Gone, played}
use Rattle.task_turns.proofs.Isolation.{once_follows}
use Rattle.parked_tasks.proofs.Waiting.{waiting_length}
use Rattle.parked_tasks.proofs.Sums.{sum_has}
use Rattle.tk_tasks.proofs.Changing.{players_length, running_task}
use Rattle.tk_tasks.proofs.Paths.{player_here}
use Rattle.tk_tasks.proofs.Stints.{IsHeld, AreLeft, first_motes, waiting_motes, left_at_boot, mote_before, mote_behind, is_here, left_behind, sum_play, pages_play, turned_play, has_back, left_counted}
use Rattle.cli_words.specs.declared.request.TaskRequest.{TaskRequest}
use Rattle.tkernel_cli.specs.TasksRuns.{start_by}
use Rattle.theorem_reader.specs.Acts.{Follow, IsNew, IsBoot, steps_in, services_in, made_in}
use Rattle.theorem_reader.specs.Memory.{HasState}
use Rattle.theorem_reader.specs.Pools.{AreFaithful}
use Rattle.theorem_reader.specs.Steps.{AreOfStep, is_with_kernel, IsBetween}
use Rattle.theorem_reader.specs.Stints.{Stint, ComesBack, IsParked, HasPart, Here, Away, AreOfTry, TakeTurns, changes_from, task_end}
use Rattle.theorem_reader.specs.Tasks.{AskedTasks, tasks_options_of, words_of, events_of, reset_of, LeadThere}
use Rattle.theorem_reader.specs.Wear.{IsSpared}
use Rattle.theorem_reader.proofs.Acting.{acts_of, Holds, follow}
use Rattle.theorem_reader.proofs.Booting.{is_new, is_boot}
use Rattle.theorem_reader.proofs.Bounding.{natural_of, entries_of, pages_of, lines_of_acts}
use Rattle.theorem_reader.proofs.Motes.{one_mote}
use Rattle.theorem_reader.proofs.Holding.{has_state}
use Rattle.theorem_reader.proofs.Pooling.{faithful_is}
use Rattle.theorem_reader.proofs.Stepwise.{acts_as, HasCome, step_acts, between_held}
use Rattle.theorem_reader.proofs.Pacing.{stint_of, stints_of, counts_from_boot, few_from_boot}
use Rattle.theorem_reader.proofs.Asking.{AllAsked, asked_before, asked_behind}
use Rattle.theorem_reader.proofs.Stopping.{Asked, no_stop, stop_last}
use Rattle.theorem_reader.proofs.Wearing.{spares_self, spares_on}
use Rattle.theorem_reader.proofs.Sparing.{walk_spares}

-- How many tasks there are. -------------------------------------------------------------------------------

pub path_long : (n : ℕ) (t : Tasks) (plays : List Play) (new : Tasks) → TaskPath n t plays new → length new.tasks ≡ length t.tasks
path_long n t [] new is = ap (λ (z : Tasks). length z.tasks) (sym is)
path_long n t (play ∷ plays) new (mid, one, rest) =
    let step = once_follows (turns_of n t) (player_of n t t.running one.task) (ap flat_end_of one.going) in
    path_long n mid plays new rest ∙ sym (players_length n mid 0 mid.tasks) ∙ ap (λ (z : Turns). length z.players) one.in_turn ∙ ap (λ (l : List Player). length l) step.players
    ∙ length_set (turns_of n t).players t.running step.q ∙ players_length n t 0 t.tasks

-- Stints. -------------------------------------------------------------------------------------------------

abbrev motes_behind : (n : ℕ) (t : Tasks) (plays : List Play) (new : Tasks) → TaskPath n t plays new → List Mote → List Mote
motes_behind n t [] new is motes = motes
motes_behind n t (play ∷ plays) new (mid, one, rest) motes = motes_behind n mid plays new rest (slice_set motes t.running one.mid.kernel.mote)

comes_back : (left own now : Mote) → Shares left now → IsBack own now → ComesBack left own now
unfolding byte_at
comes_back left own now shares back = record {
  stays = one_mote now (record own { flash = left.flash; sram = now.sram }) back.core refl shares.flash back.devices back.swap;
  shared = λ a from to. shares.tables a from (omega arith);
  low = λ a from to. back.low a from (omega arith);
  high = λ a from to. back.high a from (omega arith);
}

record FollowsPlay (words : List ℕ) (quantum n : ℕ) (t new : Tasks) (play : Play) (one : IsPlay n t play new) : Type 0 where
  follow : Follow words quantum t.kernel.mote (stint_of n t play new one).acts one.mid.kernel.mote
  held : image_of (layout_of (length words)) one.mid.kernel.mote.flash.words ≡ words
  counts : one.mid.kernel.quantum ≡ quantum

follow_play : (words : List ℕ) (quantum n : ℕ) (t new : Tasks) (play : Play) → (one : IsPlay n t play new) → Holds words quantum (state_of (machine_of t t.running one.task))
    → FollowsPlay words quantum n t new play one
follow_play words quantum n t new play one holds =
    let acts = (stint_of n t play new one).acts in
    let done = follow words quantum (state_of (machine_of t t.running one.task)) play.moves (state_of (machine_of one.mid t.running one.next)) one.tried.goes.walk holds in
    record {
      follow = subst (λ (b : Mote). Follow words quantum b acts one.mid.kernel.mote) (mote_before n t new play one)
          (subst (λ (b : Mote). Follow words quantum (machine_of t t.running one.task).kernel.mote acts b) (mote_behind n t new play one) done.follow);
      held = subst (λ (b : Mote). image_of (layout_of (length words)) b.flash.words ≡ words) (mote_behind n t new play one) done.holds.held;
      counts = done.holds.counts;
    }

-- the quantum stays where the mote is given to another
given_quantum : (t : Tasks) (next : ℕ) (parked : Option Parked) → (given_by t next parked).kernel.quantum ≡ t.kernel.quantum
given_quantum t next None = refl
given_quantum t next (Some parked) = refl

to_quantum : (t : Tasks) (next : Option ℕ) → (given_to t next).kernel.quantum ≡ t.kernel.quantum
to_quantum t None = refl
to_quantum t (Some next) = given_quantum t next (parked_by (slice_get t.tasks next))

on_quantum : (changes : Bool) (mid new : Tasks) → GoesOn changes mid new → new.kernel.quantum ≡ mid.kernel.quantum
on_quantum true mid new is = ap (λ (z : Tasks). z.kernel.quantum) is ∙ to_quantum mid (next_task mid)
on_quantum false mid new is = ap (λ (z : Tasks). z.kernel.quantum) is

-- where a task stands, and so the mote before it is stepped
stands_before : (n : ℕ) (t new : Tasks) (play : Play) → (one : IsPlay n t play new) → HasState (player_of n t t.running one.task).moment.now t.kernel.mote
stands_before n t new play one =
    let m = machine_of t t.running one.task in
    subst (HasState (flat_of m).now) (mote_before n t new play one)
    (has_state m.kernel m.kernel.mote m.at m.steps m.crossings (flat_of m).now (one.sound.each t.running one.task one.here).sound.order.paged refl)

stands_here : (n : ℕ) (t new : Tasks) (play : Play) → (one : IsPlay n t play new) → StandsAfter (λ k. flat_of (machine_of t t.running one.task)) 0 (machine_of t t.running one.task)
stands_here n t new play one =
    let its = one.sound.each t.running one.task one.here in
    record { ready = its.going one.whole one.going; quiet = its.quiet one.whole one.going; stands = refl }

-- the moves of a try as acts
step_tried : (image : List ℕ) (quantum : ℕ) (y : Machine) (z : State) (moves : List Move) → HasCome image quantum (λ k. flat_of y) 0 y → AreAStep y.at moves → (walk : Walk (state_of y) moves z)
    → AreOfStep image (flat_of y) (mote_of (state_of y)) (acts_of (state_of y) moves z walk)
step_tried image quantum y z moves (holds, stands, asked) made =
    acts_as (state_of y) z (AreOfStep image (flat_of y) (mote_of (state_of y))) moves (made.arrival ++ made.own) made.parts
    (step_acts image quantum (λ k. flat_of y) 0 y z made.arrival made.own (holds, stands, asked) made.arrives made.makes)

try_acts : (image : List ℕ) (quantum : ℕ) (y z : Machine) (moves : List Move) → HasCome image quantum (λ k. flat_of y) 0 y → (comes : Played) → playing.AreOfTry y.at moves z comes
    → (walk : Walk (state_of y) moves (state_of z)) → AreOfTry image (flat_of y) (mote_of (state_of y)) (acts_of (state_of y) moves (state_of z) walk) comes
try_acts image quantum y z moves (holds, stands, asked) (Over Spent) none = acts_as (state_of y) (state_of z) (λ acts. acts ≡ []) moves [] none (λ walk. refl)
try_acts image quantum y z moves (holds, stands, asked) (Over (Wild pc)) none = acts_as (state_of y) (state_of z) (λ acts. acts ≡ []) moves [] none (λ walk. refl)
try_acts image quantum y z moves (holds, stands, asked) (Over _) made = λ walk. (
  step_tried image quantum y (state_of z) moves (holds, stands, asked) made.step walk,
  stop_last (state_of y) moves (state_of z) walk stands.ready.going (made.stop, made.stops),
)
try_acts image quantum y z moves (holds, stands, asked) (Gone line checkpoint next) made =
    λ walk. (step_tried image quantum y (state_of z) moves (holds, stands, asked) made.step walk, no_stop (state_of y) moves (state_of z) walk made.ready.going)

tried_acts : (words : List ℕ) (quantum n : ℕ) (t new : Tasks) (play : Play) → (one : IsPlay n t play new) → Holds words quantum (state_of (machine_of t t.running one.task))
    → Asked (state_of (machine_of t t.running one.task))
    → AreOfTry words (player_of n t t.running one.task).moment t.kernel.mote (stint_of n t play new one).acts (played (player_of n t t.running one.task))
tried_acts words quantum n t new play one holds asked =
    let z = machine_of one.mid t.running one.next in
    let p = player_of n t t.running one.task in
    subst (λ (b : Mote). AreOfTry words p.moment b (stint_of n t play new one).acts (played p)) (mote_before n t new play one)
    (try_acts words quantum (machine_of t t.running one.task) z play.moves (holds, stands_here n t new play one, asked) (played p) one.of_try one.tried.goes.walk)

-- the mote that is left behind the last of them
abbrev pub left_at_end : (n : ℕ) (t : Tasks) (plays : List Play) (new : Tasks) → TaskPath n t plays new → Mote → Mote
left_at_end n t [] new is left = left
left_at_end n t (play ∷ plays) new (mid, one, rest) left = left_at_end n mid plays new rest one.mid.kernel.mote

-- What they count. ----------------------------------------------------------------------------------------

-- a number of the tasks that the running one's moves raise
record IsCounted (f : Task → ℕ) (g : Stint → ℕ) : Type 0 where
  unparked : (task : Task) → (parked : Option Parked) → f (record task { parked = parked }) ≡ f task
  play : (n : ℕ) → (t new : Tasks) → (play : Play) → (one : IsPlay n t play new) → f one.next ≡ f one.task + g (stint_of n t play new one)

sum_path : (f : Task → ℕ) (g : Stint → ℕ) (n : ℕ) (t : Tasks) (plays : List Play) (new : Tasks) → IsCounted f g → (path : TaskPath n t plays new)
    → sum_by f new.tasks ≡ sum_by f t.tasks + sum_by g (stints_of n t plays new path)
sum_path f g n t [] new counts is = let same : sum_by f new.tasks ≡ sum_by f t.tasks = ap (λ (u : Tasks). sum_by f u.tasks) (sym is) in omega (arith, same)
sum_path f g n t (play ∷ plays) new counts (mid, one, rest) =
    omega (
      arith,
      sum_path f g n mid plays new counts rest,
      sum_play f n t mid play counts.unparked one,
      counts.play n t mid play one,
      sum_by-cons g (stint_of n t play mid one) (stints_of n mid plays new rest),
    )

natural_counts : IsCounted (λ task. task.natural) (λ stint. steps_in stint.acts)
natural_counts = record {
  unparked = λ task parked. refl;
  play = λ n t new play one. ap (λ (k : Numbers). k.natural) one.tried.goes.numbers ∙ natural_of (state_of (machine_of t t.running one.task)) play.moves
      (state_of (machine_of one.mid t.running one.next)) one.tried.goes.walk (numbers_of (machine_of t t.running one.task));
}

entries_counts : IsCounted (λ task. task.entries) (λ stint. services_in stint.acts)
entries_counts = record {
  unparked = λ task parked. refl;
  play = λ n t new play one. ap (λ (k : Numbers). k.entries) one.tried.goes.numbers ∙ entries_of (state_of (machine_of t t.running one.task)) play.moves
      (state_of (machine_of one.mid t.running one.next)) one.tried.goes.walk (numbers_of (machine_of t t.running one.task));
}

pages_tried : (n : ℕ) (t new : Tasks) (play : Play) → (one : IsPlay n t play new) → one.mid.pages ≡ t.pages + made_in (stint_of n t play new one).acts
pages_tried n t new play one =
    ap (λ (k : Numbers). k.pages) one.tried.goes.numbers ∙ pages_of (state_of (machine_of t t.running one.task)) play.moves (state_of (machine_of one.mid t.running one.next)) one.tried.goes.walk
    (numbers_of (machine_of t t.running one.task))

pages_path : (n : ℕ) (t : Tasks) (plays : List Play) (new : Tasks) → (path : TaskPath n t plays new)
    → new.pages ≡ t.pages + sum_by (λ (stint : Stint). made_in stint.acts) (stints_of n t plays new path)
pages_path n t [] new is = let same : new.pages ≡ t.pages = ap (λ (u : Tasks). u.pages) (sym is) in omega (arith, same)
pages_path n t (play ∷ plays) new (mid, one, rest) =
    omega (
      arith,
      pages_path n mid plays new rest,
      pages_play n t mid play one,
      pages_tried n t mid play one,
      sum_by-cons (λ (stint : Stint). made_in stint.acts) (stint_of n t play mid one) (stints_of n mid plays new rest),
    )

abbrev one_unless : Bool → ℕ
one_unless test = cond test 0 1

same_one : (a b : ℕ) → a ≡ b → one_unless (eqb a b) ≡ 0
same_one a b is = let test : eqb a b ≡ true = grind (arith, nat_tests, is) in ap one_unless test

other_one : (a b : ℕ) → a ≢ b → one_unless (eqb a b) ≡ 1
other_one a b apart = let test : eqb a b ≡ false = grind (arith, nat_tests, apart) in ap one_unless test

-- the next stint is of the task that runs behind this one, or none follows
changes_on : (n : ℕ) (t : Tasks) (plays : List Play) (new : Tasks) (before : ℕ) → (path : TaskPath n t plays new)
    → changes_from before (stints_of n t plays new path) new.running ≡ one_unless (eqb t.running before) + changes_from t.running (stints_of n t plays new path) new.running
changes_on n t [] new before is =
    let same : new.running ≡ t.running = ap (λ (u : Tasks). u.running) (sym is) in
    omega (arith, same_one new.running t.running same, ap (λ r. one_unless (eqb r before)) same)
changes_on n t (play ∷ plays) new before (mid, one, rest) = omega (arith, same_one t.running t.running refl)

changes_path : (n : ℕ) (t : Tasks) (plays : List Play) (new : Tasks) → (path : TaskPath n t plays new) → new.switches ≡ t.switches + changes_from t.running (stints_of n t plays new path) new.running
changes_path n t [] new is =
    let same : new.switches ≡ t.switches = ap (λ (u : Tasks). u.switches) (sym is) in
    omega (arith, same, same_one new.running t.running (ap (λ (u : Tasks). u.running) (sym is)))
changes_path n t (play ∷ plays) new (mid, one, rest) =
    let behind = changes_path n mid plays new rest in
    let on = changes_on n mid plays new t.running rest in
    elim (turned_play n t mid play one) [
      | inl same ↦ omega (arith, behind, on, same.1, same_one t.running t.running refl, same_one mid.running t.running same.0)
      | inr apart ↦ omega (arith, behind, on, apart.1, same_one t.running t.running refl, other_one mid.running t.running apart.0)
    ]

-- How often pages are erased. -----------------------------------------------------------------------------

-- by a play behind which the pool holds all pages that were made
play_spares : (words : List ℕ) (quantum n : ℕ) (t new : Tasks) (play : Play) → (one : IsPlay n t play new) → Holds words quantum (state_of (machine_of t t.running one.task))
    → one.mid.pages ≤ (layout_of (length words)).pool_pages → IsSpared t.kernel.mote.flash one.mid.kernel.mote.flash
play_spares words quantum n t new play one holds fits =
    let y = machine_of t t.running one.task in
    let z = machine_of one.mid t.running one.next in
    let flash = y.kernel.mote.flash in
    let l = layout_of (length words) in
    let before : flash ≡ t.kernel.mote.flash = ap (λ (m : Mote). m.flash) (mote_before n t new play one) in
    let behind : z.kernel.mote.flash ≡ one.mid.kernel.mote.flash = ap (λ (m : Mote). m.flash) (mote_behind n t new play one) in
    let used : used_pages l flash.words ≡ min t.pages l.pool_pages = rw holds.laid at (one.sound.each t.running one.task one.here).sound.order.pages in
    let none : flash.failing ≡ [] = ap (λ (f : Memory). f.failing) before ∙ one.sound.unfailing in
    subst (λ (f : Memory). IsSpared f one.mid.kernel.mote.flash) before (subst (IsSpared flash) behind (walk_spares words quantum (state_of y) play.moves (state_of z) one.tried.goes.walk holds
    (omega (arith, used, min-le_left t.pages l.pool_pages, pages_tried n t new play one, fits), λ op low high. ap (list_any (λ k. k == op)) none)))

-- What a path leads to. ---------------------------------------------------------------------------------

-- The programs take turns by its stints; the image stays in flash, and the quantum; the change of the task leaves flash.
record HaveTurned (words : List ℕ) (quantum n : ℕ) (t : Tasks) (plays : List Play) (new : Tasks) (motes : List Mote) (left : Mote) (path : TaskPath n t plays new) : Type 0 where
  turns : TakeTurns words quantum (turns_of n t) left motes (stints_of n t plays new path) (turns_of n new) (left_at_end n t plays new path left) (motes_behind n t plays new path motes)
  held : image_of (layout_of (length words)) new.kernel.mote.flash.words ≡ words
  counts : new.kernel.quantum ≡ quantum
  spares : new.pages ≤ (layout_of (length words)).pool_pages → IsSpared t.kernel.mote.flash new.kernel.mote.flash
  are : AreLeft new (motes_behind n t plays new path motes) (left_at_end n t plays new path left)

have_turned : (words : List ℕ) (quantum count n : ℕ) (t : Tasks) (plays : List Play) (new : Tasks) (motes : List Mote) (left : Mote) → length words ≡ 4096 * count → length t.tasks ≡ count
    → (path : TaskPath n t plays new) → AreLeft t motes left → AllAsked t motes → image_of (layout_of (length words)) left.flash.words ≡ words → t.kernel.quantum ≡ quantum
    → HaveTurned words quantum n t plays new motes left path
have_turned words quantum count n t [] new motes left size long is are asked held counts =
    let image : Memory → List ℕ = λ f. image_of (layout_of (length words)) f.words in
    record {
      turns = (ap (turns_of n) is, refl, refl);
      held = ap (λ (u : Tasks). image u.kernel.mote.flash) (sym is) ∙ ap image are.shares.flash ∙ held;
      counts = ap (λ (u : Tasks). u.kernel.quantum) (sym is) ∙ counts;
      spares = λ fits. subst (λ (u : Tasks). IsSpared t.kernel.mote.flash u.kernel.mote.flash) is (spares_self t.kernel.mote.flash);
      are = subst (λ u. AreLeft u motes left) is are;
    }
have_turned words quantum count n t (play ∷ plays) new motes left size long (mid, one, rest) are asked held counts =
    let had = are.each t.running one.task one.here in
    let laid = one.sound.layout ∙ ap (λ k. layout_of (4096 * k)) long ∙ ap layout_of (sym size) in
    let image : Memory → List ℕ = λ f. image_of (layout_of (length words)) f.words in
    let holds : Holds words quantum (state_of (machine_of t t.running one.task)) =
    record { laid = laid; held = ap (λ (m : Mote). image m.flash) (mote_before n t mid play one) ∙ ap image are.shares.flash ∙ held; counts = counts } in
    let before = asked_before n t mid play motes left one are asked in
    let done = follow_play words quantum n t mid play one holds in
    let y = machine_of t t.running one.task in
    let m = one.mid.kernel.mote in
    let next = left_behind n t mid play motes left one are in
    let later = have_turned words quantum count n mid plays new (slice_set motes t.running m) m size (path_long n t (play ∷ []) mid (mid, one, refl) ∙ long) rest next
    (asked_behind n t mid play motes left one are asked) done.held (on_quantum play.changes one.mid mid one.behind ∙ done.counts) in
    record {
      turns = (
        player_of n t t.running one.task,
        had.own,
        t.kernel.mote,
        m,
        player_here n t t.running one.task one.here,
        ap flat_end_of one.going,
        refl,
        had.there,
        comes_back left had.own t.kernel.mote are.shares (is_here t one.task had.own had.held),
        stands_before n t mid play one,
        subst (IsBetween quantum (flat_of y)) (mote_before n t mid play one) (between_held words quantum (λ k. flat_of y) 0 y (holds, stands_here n t mid play one, before)),
        tried_acts words quantum n t mid play one holds before,
        sym (lines_of_acts (state_of y) play.moves (state_of (machine_of one.mid t.running one.next)) one.tried.goes.walk) ∙ one.tried.goes.told ∙ ap lines_told one.told,
        done.follow,
        subst (λ (u : Turns). TakeTurns words quantum u m (slice_set motes t.running m) (stints_of n mid plays new rest) (turns_of n new) (left_at_end n mid plays new rest m)
            (motes_behind n mid plays new rest (slice_set motes t.running m))) one.in_turn later.turns,
      );
      held = later.held;
      counts = later.counts;
      spares = λ fits. spares_on t.kernel.mote.flash m.flash new.kernel.mote.flash
          (play_spares words quantum n t mid play one holds (omega (arith, fits, pages_path n mid plays new rest, pages_play n t mid play one)))
          (subst (λ (f : Memory). IsSpared f new.kernel.mote.flash) next.shares.flash (later.spares fits));
      are = later.are;
    }

-- What stands in flash. -----------------------------------------------------------------------------------

faithful_left : (words : List ℕ) (t : Tasks) → AreSound t → t.kernel.layout ≡ layout_of (length words) → image_of (layout_of (length words)) t.kernel.mote.flash.words ≡ words
    → AreFaithful words t.kernel.mote.flash.words
faithful_left words t sound laid held =
    let runs = running_task t (slice_get t.tasks t.running) sound.one_runs refl in
    let its = sound.each t.running runs.0 runs.1 in
    let order = its.sound.order in
    let l = layout_of (length words) in
    let flash = t.kernel.mote.flash.words in
    let same : (machine_of t t.running runs.0).kernel.mote.flash.words ≡ flash = ap (λ o. (mote_for t.kernel.mote o).flash.words) (its.running refl) in
    let here : IsFaithful t.kernel.layout (image_of t.kernel.layout flash) flash = subst (λ w. IsFaithful t.kernel.layout (image_of t.kernel.layout w) w) same order.faithful in
    faithful_is words flash (subst IsRight laid order.right).image_fits (subst (λ i. IsFaithful l i flash) held (subst (λ k. IsFaithful k (image_of k flash) flash) laid here))

-- How far the numbers go. ---------------------------------------------------------------------------------

-- each task has arrived at most once for each of its steps, and once more
all_arrived : (tasks : List Task) → sum_by arrivals_of tasks ≤ sum_by (λ (task : Task). task.steps) tasks + length tasks
all_arrived [] = omega arith
all_arrived (task ∷ tasks) = omega (arith, all_arrived tasks, most_owed (owed_of task.owed None) task.steps, sum_by-cons arrivals_of task tasks, sum_by-cons (λ (x : Task). x.steps) task tasks)

-- .. and the others than one
others_arrived : (tasks : List Task) (i : ℕ) (task : Task) → slice_get tasks i ≡ Some task
    → sum_by arrivals_of tasks + task.steps + 1 ≤ sum_by (λ (x : Task). x.steps) tasks + length tasks + arrivals_of task
others_arrived [] i task there = absurd (cc)
others_arrived (x ∷ tasks) zero task there =
    let same : x ≡ task = same_Some x task there in
    omega (arith, all_arrived tasks, ap arrivals_of same, ap (λ (y : Task). y.steps) same, sum_by-cons arrivals_of x tasks, sum_by-cons (λ (y : Task). y.steps) x tasks)
others_arrived (x ∷ tasks) (suc i) task there =
    omega (arith, others_arrived tasks i task there, most_owed (owed_of x.owed None) x.steps, sum_by-cons arrivals_of x tasks, sum_by-cons (λ (y : Task). y.steps) x tasks)

-- the pages that were made, and the operations that were tried
record AreWithin (t : Tasks) (most : ℕ) : Type 0 where
  pages : t.pages ≤ most
  ops : t.kernel.mote.flash.ops ≤ 1000 * most

are_within : (t : Tasks) → AreSound t → AreWithin t (sum_by (λ (task : Task). task.steps) t.tasks + length t.tasks)
are_within t sound =
    let runs = running_task t (slice_get t.tasks t.running) sound.one_runs refl in
    let its = sound.each t.running runs.0 runs.1 in
    let bounded = its.sound.bounded in
    let same : (machine_of t t.running runs.0).kernel.mote.flash.ops ≡ t.kernel.mote.flash.ops = ap (λ o. (mote_for t.kernel.mote o).flash.ops) (its.running refl) in
    let others = others_arrived t.tasks t.running runs.0 runs.1 in
    let own = sum_has arrivals_of t.tasks t.running runs.0 runs.1 in
    record { pages = omega (arith, bounded.pages, others, own); ops = omega (arith, bounded.ops, same, others, own) }

-- Where a program stands. ---------------------------------------------------------------------------------

paged_back : (own n : Mote) → IsBack own n → length own.sram ≡ byte_count → IsPaged n.sram n.swap → IsPaged own.sram own.swap
paged_back own n back size paged =
    subst (λ w. IsPaged own.sram w) back.swap (paged_same n.sram own.sram n.swap
    (record { size = size ∙ sym paged.sized.sram; cells = λ b from to. sym (back.low b (omega arith) (omega arith)); tables = λ b from to. sym (back.high b (omega arith) (omega arith)) }) paged)

-- the part of the mote that a task has
is_parked : (own : Mote) → IsParked own (parked_of own)
unfolding byte_at
is_parked own = record {
  stays = refl;
  low = λ a from to. let at : 0x0100 + (a - 0x0100) ≡ a = omega arith in part_byte own.sram 0x0100 low_count (a - 0x0100) (omega arith) (omega arith) ∙ ap (byte_at own.sram) at;
  high = λ a from to. let at : 0x0400 + (a - 0x0400) ≡ a = omega arith in part_byte own.sram 0x0400 high_count (a - 0x0400) (omega arith) (omega arith) ∙ ap (byte_at own.sram) at;
}

has_part : (t : Tasks) (left : Mote) (i : ℕ) (task : Task) (own : Mote) → AreSound t → Shares left t.kernel.mote → slice_get t.tasks i ≡ Some task → IsHeld t i task own
    → HasPart left own t.kernel.mote (eqb i t.running) task
has_part t left i task own sound shares there (IsHeld.Here same back) =
    let runs : eqb i t.running ≡ true = grind (arith, nat_tests, same) in
    Here runs ((sound.each i task there).running same) (comes_back left own t.kernel.mote shares back)
has_part t left i task own sound shares there (IsHeld.Away apart parked) =
    let waits : eqb i t.running ≡ false = grind (arith, nat_tests, apart) in
    Away waits (parked_of own) parked (is_parked own)

-- the mote that a task left is where its program stands
stands_left : (t : Tasks) (motes : List Mote) (left : Mote) (i : ℕ) (task : Task) (s : FlatState) → AreSound t → (are : AreLeft t motes left) → (there : slice_get t.tasks i ≡ Some task)
    → (flat_of (machine_of t i task)).now ≡ s → HasState s (are.each i task there).own
stands_left t motes left i task s sound are there same =
    let m = machine_of t i task in
    let has = are.each i task there in
    let back = has_back t motes i task sound there has in
    let paged = paged_back has.own m.kernel.mote back has.size (sound.each i task there).sound.order.paged in
    has_state m.kernel has.own m.at m.steps m.crossings s paged (sym (back.program m.kernel m.at m.steps m.crossings) ∙ same)

-- .. and has as many slots
slots_left : (n : ℕ) (t : Tasks) (motes : List Mote) (left : Mote) (i : ℕ) (task : Task) (p : Player) → AreSound t → (are : AreLeft t motes left) → (there : slice_get t.tasks i ≡ Some task)
    → player_of n t i task ≡ p → length (are.each i task there).own.swap ≡ p.program.page_limit
slots_left n t motes left i task p sound are there is =
    ap (λ (l : List (List ℕ)). length l) (sym (has_back t motes i task sound there (are.each i task there)).swap) ∙ ap (λ (q : Player). q.program.page_limit) is

-- From boot. ----------------------------------------------------------------------------------------------

waiting_none : (f : Task → ℕ) (task : ℕ) (scripts : List Schedule) (quantum slots : ℕ) → ((k : ℕ) (parked : Option Parked) → f (at_start k parked) ≡ 0)
    → sum_by f (waiting_from task scripts quantum slots) ≡ 0
waiting_none f task [] quantum slots none = refl
waiting_none f task (script ∷ scripts) quantum slots none =
    omega (
      arith,
      waiting_none f (task + 1) scripts quantum slots none,
      none task (Some (parked_at_boot script quantum slots)),
      sum_by-cons f (at_start task (Some (parked_at_boot script quantum slots))) (waiting_from (task + 1) scripts quantum slots),
    )

-- what the words and the text ask to run
abbrev pub tasks_request_of : AskedTasks → TaskRequest
tasks_request_of asked = record { image = asked.image; scripts = asked.scripts; options = tasks_options_of asked }

abbrev tasks_at_boot : AskedTasks → List Schedule → Tasks
tasks_at_boot asked scripts = start_by (tasks_request_of asked) scripts

boots : (asked : AskedTasks) (first : Schedule) (others : List Schedule) → length others + 1 ≡ asked.count → events_of asked 0 ≡ first.events
    → IsBoot (words_of asked) [] (events_of asked 0) asked.quantum asked.slots (tasks_at_boot asked (first ∷ others)).kernel.mote
boots asked first others long events = rw (← long, events) (is_boot (task_words (length others + 1) asked.image) [] first.events asked.quantum asked.slots)

boots_image : (asked : AskedTasks) (first : Schedule) (others : List Schedule) → length others + 1 ≡ asked.count
    → image_of (layout_of (length (words_of asked))) (tasks_at_boot asked (first ∷ others)).kernel.mote.flash.words ≡ words_of asked
boots_image asked first others long = rw (← long) (loaded_image (task_words (length others + 1) asked.image))

-- each task's own mote there
own_waiting : (scripts : List Schedule) (quantum slots k : ℕ) (m : Mote) → slice_get (waiting_motes scripts quantum slots) k ≡ Some m
    → IsNew (slice_index_or {A = Schedule} scripts k (record { events = []; failing = [] })).events quantum slots m
own_waiting [] quantum slots k m there = absurd (cc)
own_waiting (script ∷ scripts) quantum slots zero m there = subst (IsNew script.events quantum slots) (same_Some _ m there) (is_new (new_flash [] []) script.events quantum slots refl refl)
own_waiting (script ∷ scripts) quantum slots (suc k) m there = own_waiting scripts quantum slots k m there

own_at_boot : (image : List ℕ) (first : Schedule) (others : List Schedule) (quantum slots task : ℕ) (m : Mote) → slice_get (first_motes image first others quantum slots) task ≡ Some m
    → IsNew (slice_index_or {A = Schedule} (first ∷ others) task (record { events = []; failing = [] })).events quantum slots m
own_at_boot image first others quantum slots zero m there = subst (IsNew first.events quantum slots) (same_Some _ m there)
    (is_new (new_flash (task_words (length others + 1) image) []) first.events quantum slots refl refl)
own_at_boot image first others quantum slots (suc k) m there = own_waiting others quantum slots k m there

-- nothing was done by it
at_rest : (m : Mote) → m.cpu.pc ≡ 0 → is_with_kernel m ≡ true
at_rest m zero_pc = ap (λ pc. (pc == 0) || nat_le 0xF000 pc) zero_pc

-- how a task ended, in the reader's words
same_end : (end : Option TaskEnd) → option_map task_end end ≡ flat_end_of end
same_end (Some task_ends.Spent) = refl
same_end (Some end) = refl
same_end None = refl

-- Each player is a task. ----------------------------------------------------------------------------------

record IsPlayed (n : ℕ) (t : Tasks) (i : ℕ) (p : Player) : Type 0 where
  its : Task
  there : slice_get t.tasks i ≡ Some its
  is : player_of n t i its ≡ p

played_from : (n : ℕ) (t : Tasks) (k : ℕ) (tasks : List Task) (i : ℕ) (p : Player) → slice_get (players_from n t k tasks) i ≡ Some p
    → (task : Task) × (slice_get tasks i ≡ Some task) × (player_of n t (k + i) task ≡ p)
played_from n t k [] i p there = absurd (cc)
played_from n t k (task ∷ tasks) zero p there =
    let at : k + 0 ≡ k = omega arith in
    (task, refl, ap (λ j. player_of n t j task) at ∙ same_Some _ p there)
played_from n t k (task ∷ tasks) (suc i) p there =
    let more = played_from n t (k + 1) tasks i p there in
    let at : k + suc i ≡ k + 1 + i = omega arith in
    (more.0, more.1, ap (λ j. player_of n t j more.0) at ∙ more.2)

is_played : (n : ℕ) (t : Tasks) (turns : Turns) (i : ℕ) (p : Player) → turns_of n t ≡ turns → slice_get turns.players i ≡ Some p → IsPlayed n t i p
is_played n t turns i p same there =
    let one = played_from n t 0 t.tasks i p (ap (λ (s : Turns). slice_get s.players i) same ∙ there) in
    let at : i ≡ 0 + i = omega arith in
    record { its = one.0; there = one.1; is = ap (λ j. player_of n t j one.0) at ∙ one.2 }

-- what is counted of all is no part of a task's mote
held_counted : (t : Tasks) (broken : Bool) (i : ℕ) (task : Task) (own : Mote) → IsHeld t i task own → IsHeld (counted t broken) i task own
held_counted t broken i task own (IsHeld.Here same back) = IsHeld.Here same back
held_counted t broken i task own (IsHeld.Away apart parked) = IsHeld.Away apart parked

left_if : (t : Tasks) (broken : Bool) (motes : List Mote) (left : Mote) → AreLeft (counted t false) motes left → AreLeft (counted t broken) motes left
left_if t broken motes left are = record {
  shares = are.shares;
  each = λ i task there. (let has = are.each i task there in record { own = has.own; there = has.there; size = has.size; held = held_counted (counted t false) broken i task has.own has.held });
}

-- All of it. ----------------------------------------------------------------------------------------------

pub have_stints : (asked : AskedTasks) (scripts : List Schedule) (t last : Tasks) (plays : List Play) (broken : Bool) (to : Turns) → asked.scripts ≡ scripts → length asked.scripts ≡ asked.count
    → 1 ≤ asked.count → AreSound (tasks_at_boot asked asked.scripts) → turns_of asked.steps (tasks_at_boot asked asked.scripts) ≡ reset_of asked
    → TaskPath asked.steps (tasks_at_boot asked asked.scripts) plays last → t ≡ counted last broken → turns_of asked.steps last ≡ to → AreSound t → LeadThere asked to t
have_stints asked [] t last plays broken to is long some sound_boot reset path counts leads sound = absurd (omega (arith, ap length is, long, some))
have_stints asked (first ∷ others) t last plays broken to is long some sound_boot reset path counts leads sound =
    let n = asked.steps in
    let booted = tasks_at_boot asked (first ∷ others) in
    let same : tasks_at_boot asked asked.scripts ≡ booted = ap (tasks_at_boot asked) is in
    let way = subst (λ u. TaskPath n u plays last) same path in
    let at_reset : turns_of n booted ≡ reset_of asked = ap (turns_of n) (sym same) ∙ reset in
    let motes = first_motes asked.image first others asked.quantum asked.slots in
    let are = left_at_boot asked.image first others asked.quantum asked.slots in
    let asked_first : AllAsked booted motes = λ i task own there mote going owes. at_rest own
    (ap (λ (c : Cpu). c.pc) (own_at_boot asked.image first others asked.quantum asked.slots i own mote).core) in
    let left = left_at_end n booted plays last way booted.kernel.mote in
    let behind = motes_behind n booted plays last way motes in
    let u = counted last broken in
    let sound_last : AreSound u = subst AreSound counts sound in
    let size : length asked.scripts ≡ length (first ∷ others) = ap length is in
    let count : length others + 1 ≡ asked.count = omega (arith, size, long) in
    let tasks_long : length booted.tasks ≡ asked.count = omega (arith, waiting_length 1 others asked.quantum asked.slots, count) in
    let none : (f : Task → ℕ) → ((k : ℕ) (parked : Option Parked) → f (at_start k parked) ≡ 0) → sum_by f booted.tasks ≡ 0 =
    λ f zero_at. omega (arith, sum_by-cons f (at_start 0 None) (waiting_from 1 others asked.quantum asked.slots), zero_at 0 None, waiting_none f 1 others asked.quantum asked.slots zero_at) in
    let words_long : length (words_of asked) ≡ 4096 * asked.count = length-map-range_with_len (word asked.image) 0 (4096 * asked.count) in
    let laid_last : last.kernel.layout ≡ layout_of (length (words_of asked)) =
    sound_last.layout ∙ ap (λ k. layout_of (4096 * k)) (path_long n booted plays last way ∙ tasks_long) ∙ ap layout_of (sym words_long) in
    let turned = have_turned (words_of asked) asked.quantum asked.count n booted plays last motes booted.kernel.mote words_long tasks_long way are asked_first
    (boots_image asked first others count) refl in
    let are_last : AreLeft u behind left = left_if last broken behind left (left_counted last behind left turned.are) in
    subst (LeadThere asked to) (sym counts) (record {
      stints = stints_of n booted plays last way;
      first = booted.kernel.mote;
      begins = boots asked first others count (ap (λ (s : List Schedule). (slice_index_or {A = Schedule} s 0 (record { events = []; failing = [] })).events) is);
      motes = motes;
      first_is = refl;
      own = λ task m there. rw is (own_at_boot asked.image first others asked.quantum asked.slots task m there);
      starts = λ task p there.
          let one = is_played n booted (reset_of asked) task p at_reset there in
          let has = are.each task one.its one.there in
          (has.own, has.there, stands_left booted motes booted.kernel.mote task one.its p.moment.now (subst AreSound same sound_boot) are one.there (ap (λ (q : Player). q.moment.now) one.is));
      last = behind;
      left = left;
      turns = subst (λ (to : Turns). TakeTurns (words_of asked) asked.quantum (reset_of asked) booted.kernel.mote motes (stints_of n booted plays last way) to left behind) leads
          (subst (λ (from : Turns). TakeTurns (words_of asked) asked.quantum from booted.kernel.mote motes (stints_of n booted plays last way) (turns_of n last) left behind) at_reset turned.turns);
      ends = λ task p there.
          let one = is_played n last to task p leads there in
          let its = one.its in
          let has = are_last.each task its one.there in
          let counts_own = counts_from_boot asked.image first others asked.quantum asked.slots n plays last task its way one.there in
          record {
            own = has.own;
            its = its;
            own_is = has.there;
            its_is = one.there;
            state = stands_left u behind left task its p.moment.now sound_last are_last one.there (ap (λ (q : Player). q.moment.now) one.is);
            slots = slots_left n u behind left task its p sound_last are_last one.there one.is;
            part = has_part u left task its has.own sound_last are_last.shares one.there has.held;
            end = same_end its.end ∙ ap (λ (q : Player). q.end) one.is;
            due = ap (λ (q : Player). q.moment.due) one.is;
            pc = ap (λ (q : Player). q.moment.now.cpu.pc) one.is;
            steps = ap (λ (q : Player). q.moment.now.steps) one.is;
            crossings = ap (λ (q : Player). q.moment.now.crossings) one.is;
            natural = counts_own.natural;
            entries = counts_own.entries;
          };
      runs = ap (λ (s : Turns). s.running) leads;
      many = sym (players_length n last 0 last.tasks) ∙ ap (λ (s : Turns). length s.players) leads;
      layout = laid_last;
      quantum_is = turned.counts;
      switched = ap (λ (s : Turns). s.switches) leads;
      switches = changes_path n booted plays last way ∙ zero-add (_) ∙ ap (changes_from 0 (stints_of n booted plays last way)) (ap (λ (s : Turns). s.running) leads);
      natural_is = sum_path (λ task. task.natural) (λ stint. steps_in stint.acts) n booted plays last natural_counts way
          ∙ ap (λ k. k + sum_by (λ (stint : Stint). steps_in stint.acts) (stints_of n booted plays last way)) (none (λ task. task.natural) (λ k parked. refl)) ∙ zero-add (_);
      entries_is = sum_path (λ task. task.entries) (λ stint. services_in stint.acts) n booted plays last entries_counts way
          ∙ ap (λ k. k + sum_by (λ (stint : Stint). services_in stint.acts) (stints_of n booted plays last way)) (none (λ task. task.entries) (λ k parked. refl)) ∙ zero-add (_);
      pages_is = pages_path n booted plays last way ∙ zero-add (_);
      few = λ task front between back is none.
          let bound : steps_in between ≤ bound_per_crossing * last.kernel.quantum =
          few_from_boot asked.image first others asked.quantum asked.slots n plays last task (bound_per_crossing * last.kernel.quantum) way
          (λ its there. (sound_last.each task its there).sound.bounded.moves.most) front between back is none in
          subst (λ q. steps_in between ≤ 5120 * q) turned.counts bound;
      most_pages = (are_within u sound_last).pages;
      most_operations = (are_within u sound_last).ops;
      flash = record {
        wear = turned.spares;
        faithful = faithful_left (words_of asked) u sound_last laid_last turned.held;
      };
    })
