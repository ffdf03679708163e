-- The tasks behind a try of the running one: it is what its machine came to, and the others wait as before.
use Rattle.std.proofs.Common.{◌≡◌, ℕ, zero, suc, ◌+◌, ◌-◌, ◌*◌, ◌<◌, ◌≤◌, false, List, [], ◌∷◌, length, get_or, ◌⊎◌, refl, sym, ap, ap₂, ◌∙◌, arith, subst, inl, inr}
use Rattle.std.specs.Prelude.{◌≢◌, ◌^◌, slice_get, slice_set, sum_by, Option, Some, None}
use Rattle.std.proofs.lemmas.Bool.{cases_eq, cases_lt}
use Rattle.std.proofs.lemmas.List.Sums.{sum_by-cons}
use Rattle.std.proofs.lemmas.Nat.{mul-le}
use Rattle.flash_words.specs.Operations.{is_listed}
use Rattle.flash_words.specs.Layouts.{image_of, layout_of}
use Rattle.flash_words.specs.Memory.{Memory}
use Rattle.flash_words.specs.declared.layout.Layout.{Layout}
use Rattle.sram_layout.specs.Bytes.{byte_count, byte_at}
use Rattle.branch_bridge.specs.Arrivals.{KeepsOtherBytes}
use Rattle.mote_core.specs.declared.mote.Mote.{Mote}
use Rattle.flat_machine.specs.FlatMachine.{Program}
use Rattle.kernel_entry.specs.Seen.{program as program_of}
use Rattle.kernel_entry.specs.declared.kernel.Owed.{Owed}
use Rattle.program_steps.specs.Machines.{Machine, flat_of}
use Rattle.program_steps.specs.Ready.{most_arrivals, IsSound, IsGoing, IsQuiet}
use Rattle.program_steps.specs.Stepping.{Stays}
use Rattle.program_steps.specs.Waiting.{over, IsLeft, HasWaited}
use Rattle.program_steps.proofs.Waiting.{untorn_left, sound_waiting, going_waiting, flat_waiting, program_waiting}
use Rattle.parked_tasks.specs.declared.parked.Parked.{Parked}
use Rattle.parked_tasks.specs.declared.task.Task.{Task}
use Rattle.parked_tasks.specs.declared.task.TaskEnd.{TaskEnd}
use Rattle.task_input.specs.Images.{quarter}
use Rattle.task_turns.specs.Quarters.{quarter_part}
use Rattle.parked_tasks.specs.Parking.{IsSized, taken_up}
use Rattle.task_turns.specs.Turns.{Player, with_player}
use Rattle.tk_tasks.specs.States.{Tasks, owed_of, mote_for, machine_end, arrivals_of, others_of, machine_of, IsTask, AreSound, player_of, players_from, turns_of}
use Rattle.parked_tasks.specs.Ends.{flat_end_of}
use Rattle.tk_tasks.specs.Trying.{target_of, stub_in, kept_task, kept_tasks}
use Rattle.parked_tasks.proofs.Parkings.{both_size, both_in_low, both_in_high, both_between}
use Rattle.parked_tasks.proofs.Sums.{sum_set, sum_has}
use Rattle.tk_tasks.proofs.Changing.{here_is, players_same, running_size}
use Rattle.parked_tasks.proofs.TaskLists.{elsewhere_by, length_by}
use Rattle.program_steps.proofs.Bounds.{most_owed}

-- what the running task's machine came to, where it leaves the task with this end
pub record IsCome (t : Tasks) (task : Task) (m : Machine) (end : Option TaskEnd) : Type 0 where
  pub left : IsLeft m
  pub stays : Stays (machine_of t t.running task) m
  pub sound : IsSound m
  pub going : end ≡ None → IsGoing m
  pub quiet : end ≡ None → IsQuiet m
  pub ended : machine_end end ≡ m.end
  pub whole : m.broken ≡ false
  pub began : m.began ≡ 0
  pub others : m.others ≡ others_of t task

-- ---- lists

pub set_same : {T : Type 0} → (tasks : List T) (i : ℕ) (task x : T) → slice_get tasks i ≡ Some task → slice_get (slice_set tasks i x) i ≡ Some x
set_same [] i task x is = absurd (cc)
set_same (y ∷ tasks) zero task x is = refl
set_same (y ∷ tasks) (suc i) task x is = set_same tasks i task x is

pub sum_most : (tasks : List Task) (most : ℕ) → ((i : ℕ) (task : Task) → slice_get tasks i ≡ Some task → task.steps ≤ most) → sum_by arrivals_of tasks ≤ (most + 1) * length tasks
sum_most [] most few = omega arith
sum_most (y ∷ tasks) most few = omega (arith, sum_most tasks most (λ i task is. few (suc i) task is), sum_by-cons arrivals_of y tasks, few 0 y refl, most_owed (owed_of y.owed None) y.steps)

most_back : (owed : Option Owed) (steps : ℕ) → most_arrivals (owed_of (target_of owed) None) steps ≡ most_arrivals owed steps
most_back None steps = refl
most_back (Some owed) steps = refl

owed_back : (owed : Option Owed) → owed_of (target_of owed) (stub_in owed) ≡ owed
owed_back None = refl
owed_back (Some owed) = refl

-- ---- the running task

-- the sum of arrivals but its own is what it was
others_kept : (t : Tasks) (task : Task) (m : Machine) (end : Option TaskEnd) → slice_get t.tasks t.running ≡ Some task → others_of (kept_tasks t task m end) (kept_task task m end) ≡ others_of t task
others_kept t task m end here = omega (arith, sum_set arrivals_of t.tasks t.running task (kept_task task m end) here, sum_has arrivals_of t.tasks t.running task here)

-- its machine is just that one
pub machine_kept : {t : Tasks} {task : Task} {m : Machine} {end : Option TaskEnd} → slice_get t.tasks t.running ≡ Some task → task.parked ≡ None → t.kernel.part ≡ quarter_part t.running
    → IsCome t task m end
    → machine_of (kept_tasks t task m end) t.running (kept_task task m end) ≡ m
machine_kept {t} {task} {m} {end} here alone own come =
    let others : others_of (kept_tasks t task m end) (kept_task task m end) ≡ m.others = others_kept t task m end here ∙ sym come.others in
    let part : quarter_part t.running ≡ m.kernel.part = sym (ap (λ (p : Program). p.part) come.stays.program) in
    rw (others, alone, part, owed_back m.owed, come.ended, untorn_left m come.left, come.whole, come.began)

-- ---- a task that waits

-- of which this is parked
abbrev parked_as : Task → Parked → Task
parked_as u q = record u { parked = Some q }

abbrev sram_with : Mote → Parked → List ℕ
sram_with mote q = (taken_up mote q).sram

machine_other : (t : Tasks) (task : Task) (m : Machine) (end : Option TaskEnd) (i : ℕ) (u : Task) (q : Parked) → Stays (machine_of t t.running task) m
    → machine_of (kept_tasks t task m end) i (parked_as u q) ≡ over (machine_of t i (parked_as u q)) m (sram_with m.kernel.mote q) (others_of (kept_tasks t task m end) (parked_as u q))
machine_other t task m end i u q stays =
    let new = kept_tasks t task m end in
    let make : Layout → ℕ → Machine = λ l k. record (machine_of new i (parked_as u q)) { kernel = record { mote = taken_up m.kernel.mote q; layout = l; part = quarter_part i; quantum = k } } in
    ap₂ make stays.layout stays.quantum

size_of : (m : Mote) (q : Parked) → length m.sram ≡ byte_count → IsSized q → length (sram_with m q) ≡ byte_count
size_of m q size sized = both_size m.sram q.low q.high size sized.0 sized.1

past : (m : List ℕ) (i : ℕ) → length m ≤ i → get_or m i 0 ≡ 0
past [] i beyond = refl
past (x ∷ m) zero beyond = absurd (omega arith)
past (x ∷ m) (suc i) beyond = past m i (omega arith)

-- SRAM has no byte there
byte_past : (m : List ℕ) (a : ℕ) → length m ≡ byte_count → 0x1100 ≤ a → byte_at m a ≡ 0
unfolding byte_at
byte_past m a size beyond = past m (a - 256) (omega arith)

own_byte : (old new : Mote) (q : Parked) (a : ℕ) → length old.sram ≡ byte_count → length new.sram ≡ byte_count → IsSized q → 0x0100 ≤ a → (a < 0x0142) ⊎ (0x0400 ≤ a)
    → byte_at (sram_with new q) a ≡ byte_at (sram_with old q) a
own_byte old new q a size size' sized from (inl below) =
    both_in_low new.sram q.low q.high a size' sized.0 sized.1 from (omega arith) ∙ sym (both_in_low old.sram q.low q.high a size sized.0 sized.1 from (omega arith))
own_byte old new q a size size' sized from (inr above) = elim (cases_lt a 0x1100) [
  | inl inside ↦ both_in_high new.sram q.low q.high a size' sized.0 sized.1 above (omega arith) ∙ sym (both_in_high old.sram q.low q.high a size sized.0 sized.1 above (omega arith))
  | inr beyond ↦ byte_past (sram_with new q) a (size_of new q size' sized) beyond ∙ sym (byte_past (sram_with old q) a (size_of old q size sized) beyond)
]

own_kept : (old new : Mote) (q : Parked) → length old.sram ≡ byte_count → length new.sram ≡ byte_count → IsSized q → KeepsOtherBytes (sram_with old q) (sram_with new q)
own_kept old new q size size' sized = record {
  size = size_of new q size' sized ∙ sym (size_of old q size sized);
  rest = λ a from outside. own_byte old new q a size size' sized from outside;
}

-- what holds of the tasks before the try
pub record IsBefore (t : Tasks) (task : Task) : Type 0 where
  pub sound : AreSound t
  pub whole : t.broken ≡ false
  pub here : slice_get t.tasks t.running ≡ Some task

running_alone : {t : Tasks} {task : Task} → IsBefore t task → task.parked ≡ None
running_alone {t} {task} before = (before.sound.each t.running task before.here).running refl

failing_for : (m : Mote) (o : Option Parked) → (mote_for m o).flash ≡ m.flash
failing_for m None = refl
failing_for m (Some q) = refl

waits_unfailing : {t : Tasks} {task : Task} {m : Machine} {end : Option TaskEnd} → IsBefore t task → IsCome t task m end → m.kernel.mote.flash.failing ≡ []
waits_unfailing {t} {task} before come = come.stays.failing ∙ ap (λ (f : Memory). f.failing) (failing_for t.kernel.mote task.parked) ∙ before.sound.unfailing

few_others : {t : Tasks} {task : Task} {m : Machine} {end : Option TaskEnd} → IsBefore t task → IsCome t task m end → sum_by arrivals_of (kept_tasks t task m end).tasks ≤ 10 ^ 13
few_others {t} {task} {m} {end} before come =
    let steps : (i : ℕ) (x : Task) → slice_get t.tasks i ≡ Some x → x.steps ≤ 10 ^ 12 = λ i x is. (before.sound.each i x is).sound.steps in
    let bound : (10 ^ 12 + 1) * length t.tasks ≤ (10 ^ 12 + 1) * 4 = mul-le (10 ^ 12 + 1) (length t.tasks) (10 ^ 12 + 1) 4 (omega arith) before.sound.few in
    omega (
      arith,
      bound,
      sum_most t.tasks (10 ^ 12) steps,
      most_owed (owed_of (target_of m.owed) None) m.steps,
      come.sound.steps,
      sum_set arrivals_of t.tasks t.running task (kept_task task m end) before.here,
    )

waited : {t : Tasks} {task : Task} {m : Machine} {end : Option TaskEnd} (i : ℕ) (u : Task) {q : Parked} → IsBefore t task → IsCome t task m end → i ≢ t.running
    → slice_get t.tasks i ≡ Some (parked_as u q) → IsSized q
    → HasWaited (machine_of t i (parked_as u q)) m (sram_with m.kernel.mote q) (others_of (kept_tasks t task m end) (parked_as u q))
waited {t} {task} {m} {end} i u {q} before come apart there sized =
    let new = kept_tasks t task m end in
    let there' : slice_get new.tasks i ≡ Some (parked_as u q) = elsewhere_by t.tasks t.running i (kept_task task m end) apart ∙ there in
    let has = sum_has arrivals_of new.tasks i (parked_as u q) there' in
    let set = sum_set arrivals_of t.tasks t.running task (kept_task task m end) before.here in
    let own = sum_has arrivals_of t.tasks t.running task before.here in
    record {
      left = come.left;
      layout = come.stays.layout;
      image = ap (λ (p : Program). p.image) come.stays.program ∙ ap (λ (f : Memory). image_of t.kernel.layout f.words) (failing_for t.kernel.mote task.parked);
      shut = ap (λ (p : Program). p.part.shut) come.stays.program;
      unfailing = λ op. ap (λ l. is_listed l op) (waits_unfailing before come);
      own = own_kept t.kernel.mote m.kernel.mote q (running_size task before.sound before.here (running_alone before)) come.left.order.paged.sized.sram sized;
      tables = λ b from to. both_between m.kernel.mote.sram q.low q.high b come.left.order.paged.sized.sram sized.0 sized.1 (omega arith) (omega arith);
      began = come.began;
      sum = omega (arith, has, set, own, most_back m.owed m.steps, come.others);
      few = omega (arith, has, few_others before come, come.began);
    }

-- it stands as before, and is the same player
pub record Waits (t : Tasks) (task : Task) (m : Machine) (end : Option TaskEnd) (i : ℕ) (u : Task) : Type 0 where
  pub stands : IsTask (kept_tasks t task m end) i u
  pub program : program_of (machine_of (kept_tasks t task m end) i u).kernel ≡ program_of (machine_of t i u).kernel
  pub flat : flat_of (machine_of (kept_tasks t task m end) i u) ≡ flat_of (machine_of t i u)

some_owed : (owed : Option ℕ) → owed ≢ None → (a : ℕ) × (owed_of owed None ≡ Some (record { target = a; stub = None }))
some_owed None some = absurd (some refl)
some_owed (Some a) some = (a, refl)

waits_as : {t : Tasks} {task : Task} {m : Machine} {end : Option TaskEnd} (i : ℕ) (u : Task) (q : Parked) → IsBefore t task → IsCome t task m end → i ≢ t.running
    → slice_get t.tasks i ≡ Some (parked_as u q) → Waits t task m end i (parked_as u q)
waits_as {t} {task} {m} {end} i u q before come apart there =
    let new = kept_tasks t task m end in
    let stood = before.sound.each i (parked_as u q) there in
    let y = machine_of t i (parked_as u q) in
    let sram = sram_with m.kernel.mote q in
    let others = others_of new (parked_as u q) in
    let wait = waited i u before come apart there stood.sized in
    let same = machine_other t task m end i u q come.stays in
    record {
      stands = record {
        running = λ e. absurd (apart e);
        waiting = λ e none. (let bad : Some q ≡ None = none in cc);
        owes = λ e. stood.owes apart;
        sized = stood.sized;
        sound = rw same (sound_waiting y m sram others wait refl stood.sound);
        going = λ whole going. (
            let owed = some_owed u.owed (stood.owes apart going) in
            rw same (going_waiting y m sram others owed.0 wait owed.1 (stood.going before.whole going)));
        quiet = λ whole going none. (
            let owed = some_owed u.owed (stood.owes apart going) in
            absurd (let bad : Some (record { target = owed.0; stub = None }) ≡ None = sym owed.1 ∙ none in cc));
      };
      program = ap (λ (z : Machine). program_of z.kernel) same ∙ program_waiting y m sram others wait;
      flat = ap flat_of same ∙ flat_waiting y m sram others wait;
    }

waits_by : {t : Tasks} {task : Task} {m : Machine} {end : Option TaskEnd} (i : ℕ) (u : Task) (parked : Option Parked) → u.parked ≡ parked → IsBefore t task → IsCome t task m end → i ≢ t.running
    → slice_get t.tasks i ≡ Some u → Waits t task m end i u
waits_by i u None is before come apart there = absurd ((before.sound.each i u there).waiting apart is)
waits_by i u (Some q) is before come apart there =
    let same : u ≡ parked_as u q = ap (λ o. record u { parked = o }) is in
    rw same (waits_as i u q before come apart (there ∙ ap (λ z. Some z) same))

pub waits : (t : Tasks) (task : Task) (m : Machine) (end : Option TaskEnd) (i : ℕ) (u : Task) → IsBefore t task → IsCome t task m end → i ≢ t.running → slice_get t.tasks i ≡ Some u
    → Waits t task m end i u
waits t task m end i u before come apart there = waits_by i u u.parked refl before come apart there

-- ---- all of them

runs_on : {t : Tasks} {task : Task} {m : Machine} {end : Option TaskEnd} → IsBefore t task → IsCome t task m end → IsTask (kept_tasks t task m end) t.running (kept_task task m end)
runs_on {t} {task} before come =
    let alone = running_alone before in
    let same = machine_kept before.here alone before.sound.part come in
    record {
      running = λ e. alone;
      waiting = λ apart. absurd (apart refl);
      owes = λ apart. absurd (apart refl);
      sized = (before.sound.each t.running task before.here).sized;
      sound = rw same come.sound;
      going = λ whole going. rw same (come.going going);
      quiet = λ whole going. subst IsQuiet (sym same) (come.quiet going);
    }

each_on : {t : Tasks} {task : Task} {m : Machine} {end : Option TaskEnd} → IsBefore t task → IsCome t task m end → (i : ℕ) (u : Task) → slice_get (kept_tasks t task m end).tasks i ≡ Some u
    → IsTask (kept_tasks t task m end) i u
each_on {t} {task} {m} {end} before come i u there = elim (cases_eq i t.running) [
  | inl same ↦
      let new = kept_tasks t task m end in
      let here = set_same t.tasks t.running task (kept_task task m end) before.here in
      let its : kept_task task m end ≡ u = here_is new.tasks t.running (kept_task task m end) u here (ap (slice_get new.tasks) (sym same) ∙ there) in
      subst (IsTask new i) its (subst (λ k. IsTask new k (kept_task task m end)) (sym same) (runs_on before come))
  | inr apart ↦ (waits t task m end i u before come apart (sym (elsewhere_by t.tasks t.running i (kept_task task m end) apart) ∙ there)).stands
]

-- the tasks stay sound
pub sound_kept : {t : Tasks} {task : Task} {m : Machine} {end : Option TaskEnd} → IsBefore t task → IsCome t task m end → AreSound (kept_tasks t task m end)
sound_kept {t} {task} {m} {end} before come =
    let size = length_by t.tasks t.running (kept_task task m end) in
    let sound = before.sound in
    record {
      few = omega (arith, size, sound.few);
      one_runs = omega (arith, size, sound.one_runs);
      part = ap (λ (p : Program). p.part) come.stays.program;
      layout = come.stays.layout ∙ sound.layout ∙ ap (λ n. layout_of (quarter * n)) (sym size);
      unfailing = waits_unfailing before come;
      each = each_on before come;
    }

players_on : (n : ℕ) (t new : Tasks) (k : ℕ) (tasks : List Task) (r : ℕ) (task x : Task) → slice_get tasks r ≡ Some task
    → ((i : ℕ) (u : Task) → i ≢ r → slice_get tasks i ≡ Some u → player_of n new (k + i) u ≡ player_of n t (k + i) u)
    → players_from n new k (slice_set tasks r x) ≡ slice_set (players_from n t k tasks) r (player_of n new (k + r) x)
players_on n t new k [] r task x is same = absurd (cc)
players_on n t new k (y ∷ tasks) zero task x is same =
    let here : k ≡ k + 0 = omega arith in
    let rest = players_same n t new (k + 1) tasks tasks refl (λ i u y is is'.
    let at : k + suc i ≡ k + 1 + i = omega arith in
    ap (player_of n new (k + 1 + i)) (here_is tasks i y u is' is) ∙ rw at at (same (suc i) u (λ e. absurd (omega arith)) is)) in
    ap₂ (λ p l. p ∷ l) (ap (λ j. player_of n new j x) here) rest
players_on n t new k (y ∷ tasks) (suc r) task x is same =
    let here : k + 0 ≡ k = omega arith in
    let there : k + 1 + r ≡ k + suc r = omega arith in
    let head : player_of n new k y ≡ player_of n t k y = rw here at (same 0 y (λ e. absurd (omega arith)) refl) in
    let rest = players_on n t new (k + 1) tasks r task x is (λ i u apart is'.
    let at : k + suc i ≡ k + 1 + i = omega arith in
    rw at at (same (suc i) u (λ e. apart (omega arith)) is')) in
    ap₂ (λ p l. p ∷ l) head (rest ∙ ap (λ j. slice_set (players_from n t (k + 1) tasks) r (player_of n new j x)) there)

waits_player : (n : ℕ) {t : Tasks} {task : Task} {m : Machine} {end : Option TaskEnd} {i : ℕ} {u : Task} → Waits t task m end i u → player_of n (kept_tasks t task m end) i u ≡ player_of n t i u
waits_player n {t} {task} {m} {end} {i} {u} waits = ap₂ (λ p f. record { program = p; moment = f; left = n - u.steps; end = flat_end_of u.end }) waits.program waits.flat

-- the player that m is
abbrev pub player_by : ℕ → Machine → Option TaskEnd → Player
player_by n m end = record { program = program_of m.kernel; moment = flat_of m; left = n - m.steps; end = flat_end_of end }

pub turns_kept : (n : ℕ) {t : Tasks} {task : Task} {m : Machine} {end : Option TaskEnd} → IsBefore t task → IsCome t task m end
    → turns_of n (kept_tasks t task m end) ≡ with_player (turns_of n t) (player_by n m end)
turns_kept n {t} {task} {m} {end} before come =
    let new = kept_tasks t task m end in
    let none : (k : ℕ) → 0 + k ≡ k = λ k. omega arith in
    let same = machine_kept before.here (running_alone before) before.sound.part come in
    let its : player_of n new (0 + t.running) (kept_task task m end) ≡ player_by n m end =
    ap (λ j. player_of n new j (kept_task task m end)) (none t.running) ∙ ap (λ z. player_by n z end) same in
    let all = players_on n t new 0 t.tasks t.running task (kept_task task m end) before.here (λ i u apart there.
    rw (none i) (waits_player n (waits t task m end i u before come apart there))) in
    ap (λ l. record { players = l; running = t.running; switches = t.switches }) (all ∙ ap (slice_set (players_from n t 0 t.tasks) t.running) its)
