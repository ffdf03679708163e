-- Where a task owes an arrival, the kernel had control when it was left.
use Rattle.std.proofs.Common.{◌≡◌, ◌≢◌, ℕ, Bool, true, false, List, Option, Some, None, refl, sym, ap, ◌∙◌, subst, inl, inr}
use Rattle.std.specs.Prelude.{slice_get, slice_set}
use Rattle.std.proofs.lemmas.Bool.{cases_eq}
use Rattle.avr_exec.specs.declared.cpu.Cpu.{Cpu}
use Rattle.mote_core.specs.declared.mote.Mote.{Mote}
use Rattle.step_laws.specs.States.{Awaited}
use Rattle.program_steps.specs.Machines.{awaited, state_of}
use Rattle.parked_tasks.specs.declared.parked.Parked.{Parked}
use Rattle.parked_tasks.specs.declared.task.Task.{Task}
use Rattle.parked_tasks.proofs.TaskLists.{elsewhere_by}
use Rattle.tk_tasks.specs.Changes.{given_by, given_to, next_task}
use Rattle.tk_tasks.specs.Plays.{Play, IsPlay, GoesOn}
use Rattle.tk_tasks.specs.States.{Tasks, AreSound, owed_of, machine_of, machine_end}
use Rattle.tk_tasks.proofs.Changing.{IsGiven, here_is, first_of, last_of, other_of, has_changed}
use Rattle.tk_tasks.proofs.Keeping.{set_same}
use Rattle.tk_tasks.proofs.Stints.{AreLeft, mote_before, mote_behind, is_here}
use Rattle.theorem_reader.specs.Steps.{is_with_kernel}
use Rattle.theorem_reader.proofs.Stopping.{Asked, kernel_same, kernel_has}

-- so it is of each task that has not ended
abbrev pub AllAsked : Tasks → List Mote → Type 0
AllAsked t motes = (i : ℕ) → (task : Task) → (own : Mote) → slice_get t.tasks i ≡ Some task → slice_get motes i ≡ Some own → task.end ≡ None → task.owed ≢ None → is_with_kernel own ≡ true

owed_some : (owed : Option ℕ) (stub : Option ℕ) (due : Bool) (w : Awaited) → awaited (owed_of owed stub) due ≡ Some w → owed ≢ None
owed_some None stub due w owes none = let e : None ≡ Some w = owes in absurd (cc)
owed_some (Some target) stub due w owes none = let e : Some target ≡ None = none in absurd (cc)

some_owed : (owed : Option ℕ) (stub : Option ℕ) (due : Bool) → owed ≢ None → (w : Awaited) × (awaited (owed_of owed stub) due ≡ Some w)
some_owed None stub due some = absurd (some refl)
some_owed (Some target) stub due some = (record { target = target; stub = stub; due = due }, refl)

-- of the one that is stepped
pub asked_before : (n : ℕ) (t new : Tasks) (play : Play) (motes : List Mote) (left : Mote) → (one : IsPlay n t play new) → AreLeft t motes left → AllAsked t motes
    → Asked (state_of (machine_of t t.running one.task))
asked_before n t new play motes left one are all w owes =
    let y = machine_of t t.running one.task in
    let had = are.each t.running one.task one.here in
    let pc = ap (λ (m : Mote). m.cpu.pc) (mote_before n t new play one) ∙ ap (λ (c : Cpu). c.pc) (is_here t one.task had.own had.held).core in
    kernel_same had.own y.kernel.mote pc (all t.running one.task had.own one.here had.there one.going (owed_some one.task.owed _ one.task.due w owes))

-- behind its moves
asked_tried : (n : ℕ) (t new : Tasks) (play : Play) (motes : List Mote) (left : Mote) → (one : IsPlay n t play new) → AreLeft t motes left → AllAsked t motes
    → AllAsked one.mid (slice_set motes t.running one.mid.kernel.mote)
asked_tried n t new play motes left one are all i task own there mote going owes =
    let r = t.running in
    let m = one.mid.kernel.mote in
    let had = are.each r one.task one.here in
    elim (cases_eq i r) [
      | inl same ↦
          let z = machine_of one.mid r one.next in
          let next : slice_get one.mid.tasks r ≡ Some one.next = ap (λ l. slice_get l r) one.tried.tasks ∙ set_same t.tasks r one.task one.next one.here in
          let its : one.next ≡ task = here_is one.mid.tasks r one.next task next (ap (slice_get one.mid.tasks) (sym same) ∙ there) in
          let there' : slice_get (slice_set motes r m) r ≡ Some m = set_same motes r had.own m had.there in
          let left_is : m ≡ own = (let both : Some m ≡ Some own = sym there' ∙ ap (slice_get (slice_set motes r m)) (sym same) ∙ mote in cc) in
          let some = some_owed one.next.owed _ one.next.due (subst (λ (x : Task). x.owed ≢ None) (sym its) owes) in
          let unended : machine_end one.next.end ≡ None = ap machine_end (ap (λ (x : Task). x.end) its ∙ going) in
          let has = kernel_has (state_of (machine_of t r one.task)) play.moves (state_of z) one.tried.goes.walk (asked_before n t new play motes left one are all) unended some.0 some.1 in
          subst (λ (k : Mote). is_with_kernel k ≡ true) left_is (subst (λ (k : Mote). is_with_kernel k ≡ true) (mote_behind n t new play one) has)
      | inr apart ↦ all i task own (sym (elsewhere_by t.tasks r i one.next apart) ∙ ap (λ l. slice_get l i) (sym one.tried.tasks) ∙ there) (sym (elsewhere_by motes r i m apart) ∙ mote) going owes
    ]

-- and where the mote is given to another
asked_given : (t : Tasks) (next : ℕ) (parked : Parked) (motes : List Mote) → IsGiven t next parked → AllAsked t motes → AllAsked (given_by t next (Some parked)) motes
asked_given t next parked motes given all i task own there mote going owes =
    let u = given_by t next (Some parked) in
    elim (cases_eq i next) [
      | inl same ↦
          let its : record given.first { parked = None } ≡ task = here_is u.tasks next (record given.first { parked = None }) task (first_of t next parked given)
          (ap (slice_get u.tasks) (sym same) ∙ there) in
          all next given.first own given.waits (ap (slice_get motes) (sym same) ∙ mote) (ap (λ (x : Task). x.end) its ∙ going) (subst (λ (x : Task). x.owed ≢ None) (sym its) owes)
      | inr apart ↦ elim (cases_eq i t.running) [
        | inl same ↦
            let last : Task = record given.last { parked = Some _ } in
            let its : last ≡ task = here_is u.tasks t.running last task (last_of t next parked given) (ap (slice_get u.tasks) (sym same) ∙ there) in
            all t.running given.last own given.had (ap (slice_get motes) (sym same) ∙ mote) (ap (λ (x : Task). x.end) its ∙ going) (subst (λ (x : Task). x.owed ≢ None) (sym its) owes)
        | inr apart' ↦ all i task own (sym (other_of t next i parked apart apart') ∙ there) mote going owes
      ]
    ]

asked_to : (t : Tasks) (last : Task) (motes : List Mote) (found : Option ℕ) → AreSound t → slice_get t.tasks t.running ≡ Some last → next_task t ≡ found → AllAsked t motes
    → AllAsked (given_to t (next_task t)) motes
asked_to t last motes None sound runs is all = subst (λ (u : Tasks). AllAsked u motes) (sym (ap (given_to t) is)) all
asked_to t last motes (Some next) sound runs is all =
    let changed = has_changed t next last sound runs is in
    subst (λ (u : Tasks). AllAsked u motes) (sym changed.is) (asked_given t next changed.parked motes changed.given all)

asked_on : (n : ℕ) (t new : Tasks) (play : Play) (motes : List Mote) (left : Mote) (changes : Bool) → (one : IsPlay n t play new) → AreLeft t motes left → AllAsked t motes → GoesOn changes one.mid new
    → AllAsked new (slice_set motes t.running one.mid.kernel.mote)
asked_on n t new play motes left false one are all is = subst (λ (u : Tasks). AllAsked u (slice_set motes t.running one.mid.kernel.mote)) (sym is) (asked_tried n t new play motes left one are all)
asked_on n t new play motes left true one are all is =
    let mid = one.mid in
    let runs : slice_get mid.tasks mid.running ≡ Some one.next = ap (slice_get mid.tasks) one.tried.running ∙ ap (λ l. slice_get l t.running) one.tried.tasks
    ∙ set_same t.tasks t.running one.task one.next one.here in
    rw is (asked_to mid one.next (slice_set motes t.running mid.kernel.mote) (next_task mid) one.tried.sound runs refl (asked_tried n t new play motes left one are all))

pub asked_behind : (n : ℕ) (t new : Tasks) (play : Play) (motes : List Mote) (left : Mote) → (one : IsPlay n t play new) → AreLeft t motes left → AllAsked t motes
    → AllAsked new (slice_set motes t.running one.mid.kernel.mote)
asked_behind n t new play motes left one are all = asked_on n t new play motes left play.changes one are all one.behind
