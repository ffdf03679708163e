-- The mote that each task left, along plays; and what plays count.
use Rattle.std.proofs.Common.{◌≡◌, ℕ, zero, suc, ◌+◌, Bool, true, false, List, [], ◌∷◌, ◌⊎◌, length, refl, sym, ap, ◌∙◌, arith, subst, inl, inr}
use Rattle.std.specs.Prelude.{◌≢◌, slice_get, slice_set, sum_by, Option, Some, None}
use Rattle.std.proofs.lemmas.Bool.{cases_eq}
use Rattle.std.proofs.lemmas.Option.{same_Some}
use Rattle.input_script.specs.Script.{Schedule}
use Rattle.sram_layout.specs.Bytes.{byte_count}
use Rattle.mote_core.specs.declared.mote.Mote.{Mote}
use Rattle.parked_tasks.specs.declared.parked.Parked.{Parked}
use Rattle.parked_tasks.specs.declared.task.Task.{Task}
use Rattle.parked_tasks.specs.Parking.{parked_of, Shares, IsBack}
use Rattle.tk_tasks.specs.States.{Tasks, mote_for, machine_of, AreSound}
use Rattle.parked_tasks.specs.AtBoot.{mote_at_boot, waiting_from}
use Rattle.tk_tasks.specs.Booted.{booted}
use Rattle.parked_tasks.specs.Handing.{parked_by}
use Rattle.tk_tasks.specs.Changes.{given_by, given_to, next_task, changed_tasks}
use Rattle.tk_tasks.specs.Plays.{Play, GoesOn, IsPlay, counted}
use Rattle.parked_tasks.proofs.Parkings.{shared, back}
use Rattle.parked_tasks.proofs.TaskLists.{IsUnparked, elsewhere_by}
use Rattle.tk_tasks.proofs.Changing.{IsGiven, here_is, last_of, other_of, same_sum_of, running_size, has_changed, running_task}
use Rattle.tk_tasks.proofs.Keeping.{set_same}
use Rattle.parked_tasks.proofs.Sums.{sum_set}
use Rattle.parked_tasks.proofs.Waiting.{size_at_boot}

-- A task that was left with this mote has it back, or waits, and that is parked.
pub data IsHeld (t : Tasks) (i : ℕ) (task : Task) (own : Mote) : Type 0 where
  Here : i ≡ t.running → IsBack own t.kernel.mote → IsHeld t i task own
  Away : i ≢ t.running → task.parked ≡ Some (parked_of own) → IsHeld t i task own

pub record HasMote (t : Tasks) (motes : List Mote) (i : ℕ) (task : Task) : Type 0 where
  pub own : Mote
  pub there : slice_get motes i ≡ Some own
  pub size : length own.sram ≡ byte_count
  pub held : IsHeld t i task own

-- the motes are those that the tasks left, and this one was left before
pub record AreLeft (t : Tasks) (motes : List Mote) (left : Mote) : Type 0 where
  pub shares : Shares left t.kernel.mote
  pub each : (i : ℕ) → (task : Task) → slice_get t.tasks i ≡ Some task → HasMote t motes i task

pub itself : {m : Mote} → IsBack m m
itself = record { core = refl; devices = refl; swap = refl; low = λ b from to. refl; high = λ b from to. refl; program = λ k pc steps crossings. refl; paged = λ paged. paged }

-- At boot. ------------------------------------------------------------------------------------------------

abbrev pub waiting_motes : List Schedule → (quantum slots : ℕ) → List Mote
waiting_motes [] quantum slots = []
waiting_motes (script ∷ scripts) quantum slots = mote_at_boot [] script quantum slots ∷ waiting_motes scripts quantum slots

abbrev pub first_motes : (image : List ℕ) (first : Schedule) (others : List Schedule) (quantum slots : ℕ) → List Mote
first_motes image first others quantum slots = (booted image first others quantum slots).kernel.mote ∷ waiting_motes others quantum slots

waiting_has : (task : ℕ) (scripts : List Schedule) (quantum slots k : ℕ) (its : Task) → slice_get (waiting_from task scripts quantum slots) k ≡ Some its
    → (own : Mote) × (slice_get (waiting_motes scripts quantum slots) k ≡ Some own) × (length own.sram ≡ byte_count) × (its.parked ≡ Some (parked_of own))
waiting_has task [] quantum slots k its is = absurd (cc)
waiting_has task (script ∷ scripts) quantum slots zero its is =
    (mote_at_boot [] script quantum slots, refl, size_at_boot quantum, ap (λ (x : Task). x.parked) (sym (same_Some _ its is)))
waiting_has task (script ∷ scripts) quantum slots (suc k) its is = waiting_has (task + 1) scripts quantum slots k its is

boot_has : (image : List ℕ) (first : Schedule) (others : List Schedule) (quantum slots i : ℕ) (task : Task) → slice_get (booted image first others quantum slots).tasks i ≡ Some task
    → HasMote (booted image first others quantum slots) (first_motes image first others quantum slots) i task
boot_has image first others quantum slots zero task there =
    let t = booted image first others quantum slots in
    record { own = t.kernel.mote; there = refl; size = size_at_boot quantum; held = Here refl (itself) }
boot_has image first others quantum slots (suc k) task there =
    let has = waiting_has 1 others quantum slots k task there in
    record { own = has.0; there = has.1; size = has.2; held = Away (λ e. absurd (omega arith)) has.3 }

shares_itself : {m : Mote} → Shares m m
shares_itself = record { flash = refl; size = refl; tables = λ b from to. refl }

pub left_at_boot : (image : List ℕ) (first : Schedule) (others : List Schedule) (quantum slots : ℕ)
    → AreLeft (booted image first others quantum slots) (first_motes image first others quantum slots) (booted image first others quantum slots).kernel.mote
left_at_boot image first others quantum slots = record { shares = shares_itself; each = boot_has image first others quantum slots }

-- By the change of the task. ------------------------------------------------------------------------------

away : {t : Tasks} {i : ℕ} {task : Task} {own : Mote} → i ≢ t.running → IsHeld t i task own → task.parked ≡ Some (parked_of own)
away apart (Here same back) = absurd (apart same)
away apart (Away other parked) = parked

parked_same : {p : Parked} (own : Mote) → Some p ≡ Some (parked_of own) → p ≡ parked_of own
parked_same own is = cc

has_given : {t : Tasks} {next : ℕ} {parked : Parked} {motes : List Mote} → IsGiven t next parked → AreLeft t motes t.kernel.mote → slice_get motes t.running ≡ Some t.kernel.mote
    → (i : ℕ) (task : Task) → slice_get (given_by t next (Some parked)).tasks i ≡ Some task → HasMote (given_by t next (Some parked)) motes i task
has_given {t} {next} {parked} {motes} given are own i task there =
    let u = given_by t next (Some parked) in
    let m = t.kernel.mote in
    elim (cases_eq i next) [
      | inl same ↦
          let has = are.each next given.first given.waits in
          let is = parked_same has.own (sym given.gets ∙ away given.apart has.held) in
          record { own = has.own; there = ap (slice_get motes) same ∙ has.there; size = has.size; held = Here same (back has.own m parked has.size given.size is) }
      | inr apart ↦ elim (cases_eq i t.running) [
        | inl same ↦
            let is = here_is u.tasks t.running (record given.last { parked = Some (parked_of m) }) task (last_of t next parked given) (ap (slice_get u.tasks) (sym same) ∙ there) in
            record { own = m; there = ap (slice_get motes) same ∙ own; size = given.size; held = Away apart (ap (λ (x : Task). x.parked) (sym is)) }
        | inr apart' ↦
            let has = are.each i task (sym (other_of t next i parked apart apart') ∙ there) in
            record { own = has.own; there = has.there; size = has.size; held = Away apart (away apart' has.held) }
      ]
    ]

left_given : {t : Tasks} (last : Task) {motes : List Mote} (found : Option ℕ) → AreSound t → slice_get t.tasks t.running ≡ Some last → next_task t ≡ found → AreLeft t motes t.kernel.mote
    → slice_get motes t.running ≡ Some t.kernel.mote → AreLeft (changed_tasks t) motes t.kernel.mote
left_given {t} last None sound runs is are own = rw (ap (given_to t) is) are
left_given {t} last {motes} (Some next) sound runs is are own =
    let changed = has_changed t next last sound runs is in
    let given = changed.given in
    subst (λ (u : Tasks). AreLeft u motes t.kernel.mote) (sym changed.is)
    (record { shares = shared t.kernel.mote changed.parked given.size given.sized.0 given.sized.1; each = has_given given are own })

-- By a play. ----------------------------------------------------------------------------------------------

-- the running task's mote, before it and behind it
pub mote_before : (n : ℕ) (t new : Tasks) (play : Play) → (one : IsPlay n t play new) → (machine_of t t.running one.task).kernel.mote ≡ t.kernel.mote
mote_before n t new play one = ap (mote_for t.kernel.mote) ((one.sound.each t.running one.task one.here).running refl)

pub next_there : (n : ℕ) (t new : Tasks) (play : Play) → (one : IsPlay n t play new) → slice_get one.mid.tasks t.running ≡ Some one.next
next_there n t new play one = ap (λ l. slice_get l t.running) one.tried.tasks ∙ set_same t.tasks t.running one.task one.next one.here

pub next_unparked : (n : ℕ) (t new : Tasks) (play : Play) → (one : IsPlay n t play new) → one.next.parked ≡ None
next_unparked n t new play one = (one.tried.sound.each t.running one.next (next_there n t new play one)).running (sym one.tried.running)

pub mote_behind : (n : ℕ) (t new : Tasks) (play : Play) → (one : IsPlay n t play new) → (machine_of one.mid t.running one.next).kernel.mote ≡ one.mid.kernel.mote
mote_behind n t new play one = ap (mote_for one.mid.kernel.mote) (next_unparked n t new play one)

-- the running task has its mote back
pub is_here : (t : Tasks) (task : Task) (own : Mote) → IsHeld t t.running task own → IsBack own t.kernel.mote
is_here t task own (Here same back) = back
is_here t task own (Away apart parked) = absurd (apart refl)

left_tried : (n : ℕ) {t : Tasks} (new : Tasks) (play : Play) {motes : List Mote} {left : Mote} → (one : IsPlay n t play new) → AreLeft t motes left
    → AreLeft one.mid (slice_set motes t.running one.mid.kernel.mote) one.mid.kernel.mote
left_tried n {t} new play {motes} one are =
    let mid = one.mid in
    let m = mid.kernel.mote in
    let r = t.running in
    let tried = one.tried in
    record {
      shares = shares_itself;
      each = λ i task there. elim (cases_eq i r) [
        | inl same ↦
            let had = are.each r one.task one.here in
            let runs : slice_get mid.tasks mid.running ≡ Some one.next = ap (slice_get mid.tasks) tried.running ∙ next_there n t new play one in
            let size = running_size one.next tried.sound runs (next_unparked n t new play one) in
            record { own = m; there = ap (slice_get (slice_set motes r m)) same ∙ set_same motes r had.own m had.there; size = size; held = Here (same ∙ sym tried.running) (itself) }
        | inr apart ↦
            let has = are.each i task (sym (elsewhere_by t.tasks r i one.next apart) ∙ ap (λ l. slice_get l i) (sym tried.tasks) ∙ there) in
            record { own = has.own; there = elsewhere_by motes r i m apart ∙ has.there; size = has.size; held = Away (λ e. apart (e ∙ tried.running)) (away apart has.held) }
      ];
    }

left_on : (n : ℕ) {t new : Tasks} (play : Play) {motes : List Mote} {left : Mote} (changes : Bool) → (one : IsPlay n t play new) → AreLeft t motes left → GoesOn changes one.mid new
    → AreLeft new (slice_set motes t.running one.mid.kernel.mote) one.mid.kernel.mote
left_on n {t} {new} play false one are is = rw is (left_tried n new play one are)
left_on n {t} {new} play {motes} true one are is =
    let mid = one.mid in
    let m = mid.kernel.mote in
    let r = t.running in
    let had = are.each r one.task one.here in
    let runs : slice_get mid.tasks mid.running ≡ Some one.next = ap (slice_get mid.tasks) one.tried.running ∙ next_there n t new play one in
    let own : slice_get (slice_set motes r m) mid.running ≡ Some m = ap (slice_get (slice_set motes r m)) one.tried.running ∙ set_same motes r had.own m had.there in
    rw is (left_given one.next (next_task mid) one.tried.sound runs refl (left_tried n new play one are) own)

pub left_behind : (n : ℕ) (t new : Tasks) (play : Play) (motes : List Mote) (left : Mote) → (one : IsPlay n t play new) → AreLeft t motes left
    → AreLeft new (slice_set motes t.running one.mid.kernel.mote) one.mid.kernel.mote
left_behind n t new play motes left one are = left_on n play play.changes one are one.behind

-- What is counted. ----------------------------------------------------------------------------------------

-- the change of the task counts for none of them, and no page
record IsUncounted (f : Task → ℕ) (t u : Tasks) : Type 0 where
  sum : sum_by f u.tasks ≡ sum_by f t.tasks
  pages : u.pages ≡ t.pages

uncounted_by : {f : Task → ℕ} (t : Tasks) (next : ℕ) (parked : Option Parked) → IsUnparked f → IsUncounted f t (given_by t next parked)
uncounted_by t next None same = record { sum = refl; pages = refl }
uncounted_by t next (Some parked) same = record { sum = same_sum_of t next parked same; pages = refl }

uncounted_to : {f : Task → ℕ} (t : Tasks) (next : Option ℕ) → IsUnparked f → IsUncounted f t (given_to t next)
uncounted_to t None same = record { sum = refl; pages = refl }
uncounted_to t (Some next) same = uncounted_by t next (parked_by (slice_get t.tasks next)) same

uncounted : (f : Task → ℕ) (changes : Bool) (mid new : Tasks) → IsUnparked f → GoesOn changes mid new → IsUncounted f mid new
uncounted f false mid new same is = record { sum = ap (λ (u : Tasks). sum_by f u.tasks) is; pages = ap (λ (u : Tasks). u.pages) is }
uncounted f true mid new same is = rw is (uncounted_to mid (next_task mid) same)

pub sum_play : (f : Task → ℕ) (n : ℕ) (t new : Tasks) (play : Play) → IsUnparked f → (one : IsPlay n t play new) → sum_by f new.tasks + f one.task ≡ sum_by f t.tasks + f one.next
sum_play f n t new play same one =
    omega (arith, (uncounted f play.changes one.mid new same one.behind).sum, ap (λ l. sum_by f l) one.tried.tasks, sum_set f t.tasks t.running one.task one.next one.here)

pub pages_play : (n : ℕ) (t new : Tasks) (play : Play) → (one : IsPlay n t play new) → new.pages ≡ one.mid.pages
pages_play n t new play one = (uncounted (λ task. 0) play.changes one.mid new (λ task parked. refl) one.behind).pages

-- Changes of the task. ------------------------------------------------------------------------------------

-- it was changed once, or not
abbrev pub IsTurned : Tasks → Tasks → Type 0
IsTurned t u = ((u.running ≡ t.running) × (u.switches ≡ t.switches)) ⊎ ((u.running ≢ t.running) × (u.switches ≡ t.switches + 1))

turned_to : {t : Tasks} (last : Task) (found : Option ℕ) → AreSound t → slice_get t.tasks t.running ≡ Some last → next_task t ≡ found → IsTurned t (changed_tasks t)
turned_to {t} last None sound runs is = rw (ap (given_to t) is) (inl (refl, refl))
turned_to {t} last (Some next) sound runs is =
    let changed = has_changed t next last sound runs is in
    rw changed.is (inr (changed.given.apart, refl))

turned_by : (n : ℕ) (t : Tasks) {new : Tasks} (play : Play) (changes : Bool) → (one : IsPlay n t play new) → GoesOn changes one.mid new → IsTurned one.mid new
turned_by n t play false one is = inl (ap (λ (u : Tasks). u.running) is, ap (λ (u : Tasks). u.switches) is)
turned_by n t {new} play true one is =
    let runs : slice_get one.mid.tasks one.mid.running ≡ Some one.next = ap (slice_get one.mid.tasks) one.tried.running ∙ next_there n t new play one in
    rw is (turned_to one.next (next_task one.mid) one.tried.sound runs refl)

pub turned_play : (n : ℕ) (t new : Tasks) (play : Play) → IsPlay n t play new → IsTurned t new
turned_play n t new play one =
    let tried = one.tried in
    elim (turned_by n t play play.changes one one.behind) [
      | inl same ↦ inl (same.0 ∙ tried.running, same.1 ∙ tried.switches)
      | inr other ↦ inr ((λ e. other.0 (e ∙ sym tried.running)), other.1 ∙ ap (λ k. k + 1) tried.switches)
    ]

-- What a task left is what its machine has. ---------------------------------------------------------------

back_by : {t : Tasks} {i : ℕ} {task : Task} {own : Mote} → AreSound t → slice_get t.tasks i ≡ Some task → length own.sram ≡ byte_count → IsHeld t i task own
    → IsBack own (machine_of t i task).kernel.mote
back_by {t} {i} {task} sound there size (Here same is) = rw ((sound.each i task there).running same) is
back_by {t} {i} {task} {own} sound there size (Away apart parked) =
    let last = running_task t (slice_get t.tasks t.running) sound.one_runs refl in
    let whole = running_size last.0 sound last.1 ((sound.each t.running last.0 last.1).running refl) in
    rw parked (back own t.kernel.mote (parked_of own) size whole refl)

pub has_back : (t : Tasks) (motes : List Mote) (i : ℕ) (task : Task) → AreSound t → slice_get t.tasks i ≡ Some task → (has : HasMote t motes i task) → IsBack has.own (machine_of t i task).kernel.mote
has_back t motes i task sound there has = back_by sound there has.size has.held

held_as : {t : Tasks} (u : Tasks) {i : ℕ} {task : Task} {own : Mote} → u.running ≡ t.running → u.kernel ≡ t.kernel → IsHeld t i task own → IsHeld u i task own
held_as u runs kernel (Here same is) = Here (same ∙ sym runs) (rw kernel is)
held_as u runs kernel (Away apart parked) = Away (λ e. apart (e ∙ runs)) parked

-- what is counted of all is no part of it
pub left_counted : (t : Tasks) (motes : List Mote) (left : Mote) → AreLeft t motes left → AreLeft (counted t false) motes left
left_counted t motes left are = record {
  shares = are.shares;
  each = λ i task there. (let has = are.each i task there in record { own = has.own; there = has.there; size = has.size; held = held_as (counted t false) refl refl has.held });
}
