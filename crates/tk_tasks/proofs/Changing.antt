-- The change of the task that runs leaves what each task stands for.
use Rattle.std.proofs.Common.{◌≡◌, ℕ, zero, suc, ◌+◌, ◌-◌, ◌<◌, ◌⊎◌, List, [], ◌∷◌, length, get_or, refl, sym, ap, ap₂, ◌∙◌, arith, subst, inl, inr}
use Rattle.std.specs.Prelude.{◌≢◌, ◌*◌, map, slice_get, sum_by, Option, Some, None, IfSome}
use Rattle.std.proofs.lemmas.Bool.{cases_eq}
use Rattle.std.proofs.lemmas.Option.{slice_get-get_or, same_Some}
use Rattle.sram_layout.specs.Bytes.{byte_count}
use Rattle.flash_words.specs.Layouts.{layout_of}
use Rattle.mote_core.specs.declared.mote.Mote.{Mote}
use Rattle.kernel_entry.specs.Seen.{program as program_of}
use Rattle.kernel_entry.specs.declared.kernel.Owed.{Owed}
use Rattle.program_steps.specs.Machines.{Machine, flat_of}
use Rattle.program_steps.specs.Ready.{IsQuiet}
use Rattle.parked_tasks.specs.declared.parked.Parked.{Parked}
use Rattle.parked_tasks.specs.declared.task.Task.{Task}
use Rattle.task_input.specs.Images.{quarter}
use Rattle.task_turns.specs.Quarters.{quarter_part}
use Rattle.parked_tasks.specs.Parking.{IsSized, parked_of, taken_up}
use Rattle.task_turns.specs.Turns.{Player, others, next_in, changed, changed_to}
use Rattle.tk_tasks.specs.States.{Tasks, owed_of, stub_of, arrivals_of, machine_of, mote_for, IsTask, AreSound, player_of, players_from, turns_of}
use Rattle.parked_tasks.specs.Ends.{flat_end_of}
use Rattle.parked_tasks.specs.Handing.{with_parked, parked_by, given_to_task, handed_over}
use Rattle.tk_tasks.specs.Changes.{given_by, given_to, next_task, changed_tasks, IsFree}
use Rattle.parked_tasks.proofs.Parkings.{taken_twice, taken_back, sized_of}
use Rattle.parked_tasks.proofs.TaskLists.{parking_here, parking_elsewhere, parking_length, IsUnparked, parking_sum}
use Rattle.parked_tasks.proofs.NextTasks.{is_next}
use Rattle.kernel_entry.specs.declared.kernel.Kernel.{Kernel}

-- Each task. ----------------------------------------------------------------------------------------------

-- A task behind the change: but for what is parked of it, it is what it was, and so is the machine that it is with the mote;
-- a task that gives up the mote keeps no stub.
pub record IsKept (t u : Tasks) (i : ℕ) (task' : Task) : Type 0 where
  pub task : Task
  pub was : slice_get t.tasks i ≡ Some task
  pub is : task' ≡ record task { parked = task'.parked }
  pub runs : i ≡ u.running → task'.parked ≡ None
  pub waits : i ≢ u.running → task'.parked ≢ None
  pub sized : IfSome task'.parked IsSized
  pub machine : machine_of u i task' ≡ record (machine_of t i task) { owed = owed_of task.owed None }
  pub alone : (i ≢ t.running) ⊎ (t.stub ≡ None) → machine_of u i task' ≡ machine_of t i task

-- the machine by its mote, the arrivals of others, and the arrival that it owes
abbrev machine_by : Tasks → ℕ → Task → Mote → (others : ℕ) → Option Owed → Machine
machine_by t i task mote others owed = record (machine_of t i task) { kernel = record t.kernel { mote = mote; part = quarter_part i }; others = others; owed = owed }

-- the tasks behind the change to one of which this is parked
abbrev change_of : Tasks → ℕ → Parked → Tasks
change_of t next parked = given_by t next (Some parked)

-- what was given to a task, and what it had
pub record IsGiven (t : Tasks) (next : ℕ) (parked : Parked) : Type 0 where
  pub last : Task
  pub had : slice_get t.tasks t.running ≡ Some last
  pub holds : last.parked ≡ None
  pub first : Task
  pub waits : slice_get t.tasks next ≡ Some first
  pub gets : first.parked ≡ Some parked
  pub apart : next ≢ t.running
  pub size : length t.kernel.mote.sram ≡ byte_count
  pub sized : IsSized parked

pub here_is : (tasks : List Task) (k : ℕ) (task task' : Task) → slice_get tasks k ≡ Some task → slice_get tasks k ≡ Some task' → task ≡ task'
here_is tasks k task task' is is' = same_Some task task' (sym is ∙ is')

-- the tasks behind the change
pub first_of : (t : Tasks) (next : ℕ) (parked : Parked) → (given : IsGiven t next parked) → slice_get (given_by t next (Some parked)).tasks next ≡ Some (record given.first { parked = None })
first_of t next parked given =
    let tasks = with_parked t.tasks next None in
    parking_elsewhere tasks t.running next (Some (parked_of t.kernel.mote)) (slice_get tasks t.running) given.apart ∙ parking_here t.tasks next None given.first given.waits

pub last_of : (t : Tasks) (next : ℕ) (parked : Parked) → (given : IsGiven t next parked)
    → slice_get (given_by t next (Some parked)).tasks t.running ≡ Some (record given.last { parked = Some (parked_of t.kernel.mote) })
last_of t next parked given =
    let tasks = with_parked t.tasks next None in
    parking_here tasks t.running (Some (parked_of t.kernel.mote)) given.last (parking_elsewhere t.tasks next t.running None (slice_get t.tasks next) (λ e. given.apart (sym e)) ∙ given.had)

pub other_of : (t : Tasks) (next k : ℕ) (parked : Parked) → k ≢ next → k ≢ t.running → slice_get (given_by t next (Some parked)).tasks k ≡ slice_get t.tasks k
other_of t next k parked apart apart' =
    let tasks = with_parked t.tasks next None in
    parking_elsewhere tasks t.running k (Some (parked_of t.kernel.mote)) (slice_get tasks t.running) apart' ∙ parking_elsewhere t.tasks next k None (slice_get t.tasks next) apart

pub same_sum_of : {f : Task → ℕ} (t : Tasks) (next : ℕ) (parked : Parked) → IsUnparked f → sum_by f (change_of t next parked).tasks ≡ sum_by f t.tasks
same_sum_of {f} t next parked same =
    let tasks = with_parked t.tasks next None in
    parking_sum f tasks t.running (Some (parked_of t.kernel.mote)) (slice_get tasks t.running) same refl ∙ parking_sum f t.tasks next None (slice_get t.tasks next) same refl

same_sum : (t : Tasks) (next : ℕ) (parked : Parked) → sum_by arrivals_of (change_of t next parked).tasks ≡ sum_by arrivals_of t.tasks
same_sum t next parked = same_sum_of t next parked (λ task p. refl)

same_length : (t : Tasks) (next : ℕ) (parked : Parked) → length (change_of t next parked).tasks ≡ length t.tasks
same_length t next parked =
    let tasks = with_parked t.tasks next None in
    parking_length tasks t.running (Some (parked_of t.kernel.mote)) (slice_get tasks t.running) ∙ parking_length t.tasks next None (slice_get t.tasks next)

-- the machine of each, by the mote that it would have and the sum of arrivals
machine_at : (t : Tasks) (i : ℕ) (task : Task) (mote : Mote) (sum : ℕ) → mote ≡ mote_for t.kernel.mote task.parked → sum ≡ sum_by arrivals_of t.tasks
    → machine_by t i task mote (sum - arrivals_of task) (owed_of task.owed None) ≡ record (machine_of t i task) { owed = owed_of task.owed None }
machine_at t i task mote sum same all = rw (same, all)

alone_by : (t : Tasks) (i : ℕ) (task : Task) (m : Machine) → m ≡ record (machine_of t i task) { owed = owed_of task.owed None } → stub_of t task.parked ≡ None → m ≡ machine_of t i task
alone_by t i task m is none = is ∙ ap (λ s. record (machine_of t i task) { owed = owed_of task.owed s }) (sym none)

kept_first : {t : Tasks} (next : ℕ) (parked : Parked) → (given : IsGiven t next parked) → IsKept t (change_of t next parked) next (record given.first { parked = None })
kept_first {t} next parked given =
    let u = change_of t next parked in
    let same : machine_of u next (record given.first { parked = None }) ≡ record (machine_of t next given.first) { owed = owed_of given.first.owed None } =
    machine_at t next given.first (taken_up t.kernel.mote parked) (sum_by arrivals_of u.tasks) (sym (ap (mote_for t.kernel.mote) given.gets)) (same_sum t next parked) in
    record {
      task = given.first;
      was = given.waits;
      is = refl;
      runs = λ e. refl;
      waits = λ apart. absurd (apart refl);
      sized = tt;
      machine = same;
      alone = λ free. alone_by t next given.first _ same (ap (stub_of t) given.gets);
    }

not_running : {P : Type 0} → (t : Tasks) → (t.running ≢ t.running) ⊎ P → P
not_running t (inl apart) = absurd (apart refl)
not_running t (inr none) = none

kept_last : {t : Tasks} (next : ℕ) (parked : Parked) → (given : IsGiven t next parked) → IsKept t (change_of t next parked) t.running (record given.last { parked = Some (parked_of t.kernel.mote) })
kept_last {t} next parked given =
    let u = change_of t next parked in
    let m = t.kernel.mote in
    let same : machine_of u t.running (record given.last { parked = Some (parked_of m) }) ≡ record (machine_of t t.running given.last) { owed = owed_of given.last.owed None } =
    machine_at t t.running given.last (taken_up (taken_up m parked) (parked_of m)) (sum_by arrivals_of u.tasks) (taken_back m parked given.size given.sized ∙ sym (ap (mote_for m) given.holds))
    (same_sum t next parked) in
    record {
      task = given.last;
      was = given.had;
      is = refl;
      runs = λ e. absurd (given.apart (sym e));
      waits = λ apart none. (let e : Some (parked_of m) ≡ None = none in cc);
      sized = sized_of m given.size;
      machine = same;
      alone = λ free. alone_by t t.running given.last _ same (ap (stub_of t) given.holds ∙ not_running t free);
    }

kept_other : {t : Tasks} (next : ℕ) {i : ℕ} (parked : Parked) {task : Task} (has : Option Parked) → (given : IsGiven t next parked) → task.parked ≡ has → slice_get t.tasks i ≡ Some task → i ≢ next
    → i ≢ t.running → IsTask t i task → IsKept t (change_of t next parked) i task
kept_other next parked None given is there apart apart' stands = absurd (stands.waiting apart' is)
kept_other {t} next {i} parked {task} (Some q) given is there apart apart' stands =
    let u = change_of t next parked in
    let m = t.kernel.mote in
    let sized : IsSized q = rw is at stands.sized in
    let same : machine_of u i task ≡ record (machine_of t i task) { owed = owed_of task.owed None } =
    ap (λ s. record (machine_of u i task) { owed = owed_of task.owed s }) (ap (stub_of u) is)
    ∙ machine_at t i task (mote_for (taken_up m parked) task.parked) (sum_by arrivals_of u.tasks)
    (ap (mote_for (taken_up m parked)) is ∙ taken_twice m parked q given.size given.sized sized ∙ sym (ap (mote_for m) is)) (same_sum t next parked) in
    record {
      task = task;
      was = there;
      is = refl;
      runs = λ e. absurd (apart e);
      waits = λ e. stands.waiting apart';
      sized = stands.sized;
      machine = same;
      alone = λ free. alone_by t i task _ same (ap (stub_of t) is);
    }

kept_as : {t u : Tasks} (i : ℕ) {k : ℕ} {task : Task} (task' : Task) → i ≡ k → slice_get u.tasks k ≡ Some task → slice_get u.tasks i ≡ Some task' → IsKept t u k task → IsKept t u i task'
kept_as {t} {u} i {k} {task} task' same is there kept =
    let one : task ≡ task' = here_is u.tasks k task task' is (ap (slice_get u.tasks) (sym same) ∙ there) in
    subst (IsKept t u i) one (subst (λ j. IsKept t u j task) (sym same) kept)

kept_given : {t : Tasks} {next : ℕ} {parked : Parked} → AreSound t → IsGiven t next parked → (i : ℕ) (task : Task) → slice_get (change_of t next parked).tasks i ≡ Some task
    → IsKept t (change_of t next parked) i task
kept_given {t} {next} {parked} sound given i task there =
    elim (cases_eq i next) [
      | inl same ↦ kept_as i task same (first_of t next parked given) there (kept_first next parked given)
      | inr apart ↦ elim (cases_eq i t.running) [
        | inl same ↦ kept_as i task same (last_of t next parked given) there (kept_last next parked given)
        | inr apart' ↦
            let was : slice_get t.tasks i ≡ Some task = sym (other_of t next i parked apart apart') ∙ there in
            kept_other next parked task.parked given refl was apart apart' (sound.each i task was)
      ]
    ]

-- The tasks behind it. ------------------------------------------------------------------------------------

-- what the change of sound tasks gives
pub record HasChanged (t : Tasks) (next : ℕ) : Type 0 where
  pub parked : Parked
  pub given : IsGiven t next parked
  pub is : changed_tasks t ≡ change_of t next parked

pub running_size : {t : Tasks} (task : Task) → AreSound t → slice_get t.tasks t.running ≡ Some task → task.parked ≡ None → length t.kernel.mote.sram ≡ byte_count
running_size {t} task sound there holds =
    let stands = sound.each t.running task there in
    rw holds at stands.sound.order.paged.sized.sram

given_at : {t : Tasks} (next : ℕ) (first last : Task) (has : Option Parked) → AreSound t → next_task t ≡ Some next → next ≢ t.running → slice_get t.tasks next ≡ Some first
    → slice_get t.tasks t.running ≡ Some last → first.parked ≡ has → HasChanged t next
given_at next first last None sound is apart there runs holds = absurd ((sound.each next first there).waiting apart holds)
given_at {t} next first last (Some parked) sound is apart there runs holds =
    let stands = sound.each next first there in
    let has : last.parked ≡ None = (sound.each t.running last runs).running refl in
    record {
      parked = parked;
      given = record { last = last; had = runs; holds = has; first = first; waits = there; gets = holds; apart = apart; size = running_size last sound runs has; sized = rw holds at stands.sized };
      is = ap (given_to t) is ∙ ap (λ o. given_by t next (parked_by o)) there ∙ ap (given_by t next) holds;
    }

pub has_changed : (t : Tasks) (next : ℕ) (last : Task) → AreSound t → slice_get t.tasks t.running ≡ Some last → next_task t ≡ Some next → HasChanged t next
has_changed t next last sound runs is =
    let found = is_next t.running t.tasks next sound.one_runs is in
    let first = get_or t.tasks next last in
    let there : slice_get t.tasks next ≡ Some first = slice_get-get_or t.tasks next last found.below in
    given_at next first last first.parked sound is found.apart there runs refl

free_at : {t : Tasks} (u : Tasks) (i : ℕ) (task' : Task) → IsFree t → (kept : IsKept t u i task') → task'.end ≡ None → (i ≢ t.running) ⊎ (t.stub ≡ None)
free_at {t} u i task' free kept going = elim (cases_eq i t.running) [
  | inl same ↦ inr (free kept.task (ap (slice_get t.tasks) (sym same) ∙ kept.was) (sym (ap (λ (x : Task). x.end) kept.is) ∙ going)).0
  | inr apart ↦ inl apart
]

-- a task that waits owes its arrival
owes_on : {t : Tasks} (u : Tasks) (i : ℕ) (task' : Task) → AreSound t → IsFree t → (kept : IsKept t u i task') → task'.end ≡ None → task'.owed ≢ None
owes_on {t} u i task' sound free kept going none =
    let end : kept.task.end ≡ None = sym (ap (λ (x : Task). x.end) kept.is) ∙ going in
    let owed : kept.task.owed ≡ None = sym (ap (λ (x : Task). x.owed) kept.is) ∙ none in
    elim (cases_eq i t.running) [
      | inl same ↦ (free kept.task (ap (slice_get t.tasks) (sym same) ∙ kept.was) end).1 owed
      | inr apart ↦ (sound.each i kept.task kept.was).owes apart end owed
    ]

stands_on : {t u : Tasks} {i : ℕ} {task' : Task} → AreSound t → IsFree t → u.broken ≡ t.broken → IsKept t u i task' → IsTask u i task'
stands_on {t} {u} {i} {task'} sound free broken kept =
    let stands = sound.each i kept.task kept.was in
    let end : task'.end ≡ kept.task.end = ap (λ (x : Task). x.end) kept.is in
    record {
      running = kept.runs;
      waiting = kept.waits;
      owes = λ apart. owes_on u i task' sound free kept;
      sized = kept.sized;
      sound = rw kept.machine (record { order = stands.sound.order; bounded = stands.sound.bounded; steps = stands.sound.steps });
      going = λ whole going. rw (kept.alone (free_at u i task' free kept going)) (stands.going (sym broken ∙ whole) (sym end ∙ going));
      quiet = λ whole going. subst IsQuiet (sym (kept.alone (free_at u i task' free kept going))) (stands.quiet (sym broken ∙ whole) (sym end ∙ going));
    }

sound_given : {t : Tasks} {next : ℕ} {parked : Parked} → AreSound t → IsFree t → next < length t.tasks → IsGiven t next parked → AreSound (change_of t next parked)
sound_given {t} {next} {parked} sound free below given =
    let same = same_length t next parked in
    record {
      few = omega (arith, same, sound.few);
      one_runs = omega (arith, same, below);
      part = refl;
      layout = sound.layout ∙ ap (λ n. layout_of (quarter * n)) (sym same);
      unfailing = sound.unfailing;
      each = λ i task there. stands_on sound free refl (kept_given sound given i task there);
    }

sound_to : {t : Tasks} (last : Task) (found : Option ℕ) → AreSound t → IsFree t → slice_get t.tasks t.running ≡ Some last → next_task t ≡ found → AreSound (changed_tasks t)
sound_to {t} last None sound free runs is = rw (ap (given_to t) is) sound
sound_to {t} last (Some next) sound free runs is =
    let changed = has_changed t next last sound runs is in
    rw changed.is (sound_given sound free (is_next t.running t.tasks next sound.one_runs is).below changed.given)

-- In turn. ------------------------------------------------------------------------------------------------

pub players_length : (n : ℕ) (t : Tasks) (i : ℕ) (tasks : List Task) → length (players_from n t i tasks) ≡ length tasks
players_length n t i [] = refl
players_length n t i (task ∷ tasks) = ap (λ k. suc k) (players_length n t (i + 1) tasks)

players_ends : (n : ℕ) (t : Tasks) (i : ℕ) (tasks : List Task) → map (λ (p : Player). p.end) (players_from n t i tasks) ≡ map (λ (x : Task). flat_end_of x.end) tasks
players_ends n t i [] = refl
players_ends n t i (task ∷ tasks) = ap (λ l. flat_end_of task.end ∷ l) (players_ends n t (i + 1) tasks)

pub players_same : (n : ℕ) (t u : Tasks) (i : ℕ) (xs ys : List Task) → length ys ≡ length xs
    → ((k : ℕ) (x y : Task) → slice_get xs k ≡ Some x → slice_get ys k ≡ Some y → player_of n u (i + k) y ≡ player_of n t (i + k) x) → players_from n u i ys ≡ players_from n t i xs
players_same n t u i [] [] size same = refl
players_same n t u i [] (y ∷ ys) size same = absurd (omega arith)
players_same n t u i (x ∷ xs) [] size same = absurd (omega arith)
players_same n t u i (x ∷ xs) (y ∷ ys) size same =
    let zero_is : i + 0 ≡ i = omega arith in
    let head : player_of n u i y ≡ player_of n t i x = rw zero_is at (same 0 x y refl refl) in
    let rest = players_same n t u (i + 1) xs ys (omega arith) (λ k a b is is'.
    let at : i + suc k ≡ i + 1 + k = omega arith in
    rw at at (same (suc k) a b is is')) in
    ap₂ (λ p l. p ∷ l) head rest

player_on : (n : ℕ) (t u : Tasks) (i : ℕ) (task' : Task) → (kept : IsKept t u i task') → player_of n u i task' ≡ player_of n t i kept.task
player_on n t u i task' kept =
    ap (λ (m : Machine). record { program = program_of m.kernel; moment = flat_of m; left = n - task'.steps; end = flat_end_of task'.end }) kept.machine
    ∙ ap (λ (x : Task). record { program = program_of (machine_of t i kept.task).kernel; moment = flat_of (machine_of t i kept.task); left = n - x.steps; end = flat_end_of x.end }) kept.is

turns_given : (n : ℕ) {t : Tasks} {next : ℕ} {parked : Parked} → AreSound t → IsGiven t next parked → turns_of n (change_of t next parked) ≡ changed_to (turns_of n t) (Some next)
turns_given n {t} {next} {parked} sound given =
    let u = change_of t next parked in
    ap (λ l. record { players = l; running = next; switches = t.switches + 1 }) (players_same n t u 0 t.tasks u.tasks (same_length t next parked) (λ k x y is is'.
    let kept = kept_given sound given k y is' in
    let zero_is : k ≡ 0 + k = omega arith in
    rw zero_is at (player_on n t u k y kept ∙ ap (player_of n t k) (here_is t.tasks k kept.task x kept.was is))))

turns_to : (n : ℕ) {t : Tasks} (last : Task) (found : Option ℕ) → AreSound t → slice_get t.tasks t.running ≡ Some last → next_task t ≡ found
    → turns_of n (changed_tasks t) ≡ changed_to (turns_of n t) found
turns_to n {t} last None sound runs is = ap (λ o. turns_of n (given_to t o)) is
turns_to n {t} last (Some next) sound runs is =
    let changed = has_changed t next last sound runs is in
    ap (turns_of n) changed.is ∙ turns_given n sound changed.given

none_within : (tasks : List Task) (i : ℕ) → i < length tasks → slice_get tasks i ≡ None → ⊥
none_within [] i below none = omega arith
none_within (t ∷ tasks) zero below none = cc
none_within (t ∷ tasks) (suc i) below none = none_within tasks i (omega arith) none

pub running_task : (t : Tasks) (found : Option Task) → t.running < length t.tasks → slice_get t.tasks t.running ≡ found → (task : Task) × (slice_get t.tasks t.running ≡ Some task)
running_task t (Some task) one is = (task, is)
running_task t None one is = absurd (none_within t.tasks t.running one is)

-- The change keeps the tasks sound, ..
pub changed_sound : {t : Tasks} → AreSound t → IsFree t → AreSound (changed_tasks t)
changed_sound {t} sound free = (let last = running_task t (slice_get t.tasks t.running) sound.one_runs refl in sound_to last.0 (next_task t) sound free last.1 refl)

-- .. and is that of the tasks in turn
pub changed_turns : (n : ℕ) {t : Tasks} → AreSound t → turns_of n (changed_tasks t) ≡ changed (turns_of n t)
changed_turns n {t} sound =
    let last = running_task t (slice_get t.tasks t.running) sound.one_runs refl in
    turns_to n last.0 (next_task t) sound last.1 refl ∙ ap (changed_to (turns_of n t)) (sym (ap₂ (next_in t.running) (players_length n t 0 t.tasks) (players_ends n t 0 t.tasks)))

-- The call that gives the mote on makes the change. --------------------------------------------------------

-- what it tells, of tasks whose fields are these
pub record IsGivenOn (s : Tasks) (all tasks : List Task) (k : Kernel) (found : Option ℕ) : Type 0 where
  pub next : found ≡ next_in s.running (length all) (map (λ (x : Task). flat_end_of x.end) all)
  pub given : (next : ℕ) → (parked : Parked) → found ≡ Some next → parked_by (slice_get all next) ≡ Some parked
      → (k ≡ given_to_task s.kernel next parked) × (tasks ≡ handed_over all s.running next s.kernel.mote)

pub next_is : (t : Tasks) {s : Tasks} {all tasks : List Task} {k : Kernel} {found : Option ℕ} → s ≡ t → all ≡ s.tasks → IsGivenOn s all tasks k found → found ≡ next_task t
next_is t same listed on =
    on.next ∙ ap₂ (λ r (l : List Task). next_in r (length l) (map (λ (x : Task). flat_end_of x.end) l)) (ap (λ (u : Tasks). u.running) same) (listed ∙ ap (λ (u : Tasks). u.tasks) same)

pub given_is : {t s : Tasks} (next : ℕ) {all tasks : List Task} {k : Kernel} {found : Option ℕ} → s ≡ t → all ≡ s.tasks → AreSound t → IsGivenOn s all tasks k found → found ≡ Some next
    → record s { kernel = k; running = next; stub = None; tasks = tasks; switches = s.switches + 1 } ≡ changed_tasks t
given_is {t} {s} next {all} {tasks} {k} same listed sound on is =
    let last = running_task t (slice_get t.tasks t.running) sound.one_runs refl in
    let changed = has_changed t next last.0 sound last.1 (sym (next_is t same listed on) ∙ is) in
    let parked = changed.parked in
    let whole : all ≡ t.tasks = listed ∙ ap (λ (u : Tasks). u.tasks) same in
    let done = on.given next parked is (ap (λ l. parked_by (slice_get l next)) whole ∙ ap parked_by changed.given.waits ∙ changed.given.gets) in
    let F : Tasks → Kernel → List Task → Tasks = λ u k l. record u { kernel = k; running = next; stub = None; tasks = l; switches = u.switches + 1 } in
    ap (λ u. F u k tasks) same
    ∙ ap₂ (F t) (done.0 ∙ ap (λ (u : Tasks). given_to_task u.kernel next parked) same)
    (done.1 ∙ ap (λ l. handed_over l s.running next s.kernel.mote) whole ∙ ap (λ (u : Tasks). handed_over t.tasks u.running next u.kernel.mote) same)
    ∙ sym changed.is

-- where there is no next, none changes
pub kept_is : (t : Tasks) {s : Tasks} {all tasks : List Task} {k : Kernel} {found : Option ℕ} → s ≡ t → all ≡ s.tasks → IsGivenOn s all tasks k found → found ≡ None → (k ≡ s.kernel) × (tasks ≡ all)
    → record s { kernel = k; tasks = tasks } ≡ changed_tasks t
kept_is t {s} {all} {tasks} {k} same listed on none kept =
    ap₂ (λ k l. record s { kernel = k; tasks = l }) kept.0 (kept.1 ∙ listed) ∙ same ∙ ap (given_to t) (sym none ∙ next_is t same listed on)
