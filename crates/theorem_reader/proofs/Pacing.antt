-- What each program counts is what its own acts have, and how far apart its services are.
use Rattle.std.proofs.Common.{◌≡◌, ℕ, zero, suc, ◌+◌, ◌≤◌, eqb, cond, Bool, true, false, List, [], ◌∷◌, ◌++◌, Option, Some, None, refl, sym, ap, ap₂, ◌∙◌, subst, arith, inl, inr}
use Rattle.std.specs.Prelude.{slice_get}
use Rattle.std.proofs.lemmas.Bool.{cases_eq}
use Rattle.std.proofs.lemmas.Bool.Decides.{nat_tests}
use Rattle.std.proofs.lemmas.List.{append-nil}
use Rattle.input_script.specs.Script.{Schedule}
use Rattle.step_laws.specs.Numbers.{Numbers}
use Rattle.program_steps.specs.Machines.{state_of, numbers_of}
use Rattle.parked_tasks.specs.declared.parked.Parked.{Parked}
use Rattle.parked_tasks.specs.declared.task.Task.{Task}
use Rattle.parked_tasks.specs.AtBoot.{waiting_from}
use Rattle.parked_tasks.proofs.TaskLists.{elsewhere_by}
use Rattle.tk_tasks.specs.Booted.{booted}
use Rattle.tk_tasks.specs.Changes.{given_by, given_to, next_task, changed_tasks}
use Rattle.tk_tasks.specs.Plays.{Play, IsPlay, GoesOn, TaskPath}
use Rattle.tk_tasks.specs.States.{Tasks, AreSound, machine_of}
use Rattle.tk_tasks.proofs.Changing.{IsGiven, first_of, last_of, other_of, has_changed}
use Rattle.tk_tasks.proofs.Keeping.{set_same}
use Rattle.theorem_reader.specs.Acts.{Act, steps_in, services_in}
use Rattle.theorem_reader.specs.Stints.{Stint, acts_of_task}
use Rattle.theorem_reader.proofs.Acting.{acts_of}
use Rattle.theorem_reader.proofs.Bounding.{steps_behind, services_behind, since_in, since_behind, longest_in, longest_behind, natural_of, entries_of, since_of, longest_of, no_longer}

-- Stints. -------------------------------------------------------------------------------------------------

abbrev pub stint_of : (n : ℕ) (t : Tasks) (play : Play) (new : Tasks) → IsPlay n t play new → Stint
stint_of n t play new one = record { task = t.running; acts = acts_of (state_of (machine_of t t.running one.task)) play.moves (state_of (machine_of one.mid t.running one.next)) one.tried.goes.walk }

abbrev pub stints_of : (n : ℕ) (t : Tasks) (plays : List Play) (new : Tasks) → TaskPath n t plays new → List Stint
stints_of n t [] new is = []
stints_of n t (play ∷ plays) new (mid, one, rest) = stint_of n t play mid one ∷ stints_of n mid plays new rest

-- What a task counts. -------------------------------------------------------------------------------------

-- a task has become this one, by these acts of its own
record HasActed (was its : Task) (acts : List Act) : Type 0 where
  natural : its.natural ≡ was.natural + steps_in acts
  entries : its.entries ≡ was.entries + services_in acts
  since : its.since ≡ since_in was.since acts
  longest : its.longest ≡ longest_in was.since was.longest acts

-- .. where there is one; and where there is none there are no acts
abbrev HaveActed : (was its : Option Task) → List Act → Type 0
HaveActed None None acts = acts ≡ []
HaveActed (Some was) (Some its) acts = HasActed was its acts
HaveActed _ _ acts = ⊥

-- what is parked of it counts for nothing
acted_unparked : (task : Task) (parked : Option Parked) → HasActed task (record task { parked = parked }) []
acted_unparked task parked = record { natural = omega arith; entries = omega arith; since = refl; longest = refl }

acted_nothing : (o : Option Task) → HaveActed o o []
acted_nothing None = refl
acted_nothing (Some task) = record { natural = omega arith; entries = omega arith; since = refl; longest = refl }

acted_both : (a b c : Option Task) (acts more : List Act) → HaveActed a b acts → HaveActed b c more → HaveActed a c (acts ++ more)
acted_both None None None acts more first later = ap₂ (λ x y. x ++ y) first later
acted_both None None (Some c) acts more first later = absurd later
acted_both None (Some b) c acts more first later = absurd first
acted_both (Some a) None c acts more first later = absurd first
acted_both (Some a) (Some b) None acts more first later = absurd later
acted_both (Some a) (Some b) (Some c) acts more first later = record {
  natural = omega (arith, first.natural, later.natural, steps_behind acts more);
  entries = omega (arith, first.entries, later.entries, services_behind acts more);
  since = later.since ∙ ap (λ n. since_in n more) first.since ∙ sym (since_behind a.since acts more);
  longest = later.longest ∙ ap₂ (λ n k. longest_in n k more) first.since first.longest ∙ sym (longest_behind a.since a.longest acts more);
}

-- Along plays. --------------------------------------------------------------------------------------------

-- by the moves of a play
acted_tried : (n : ℕ) (t new : Tasks) (play : Play) (i : ℕ) → (one : IsPlay n t play new)
    → HaveActed (slice_get t.tasks i) (slice_get one.mid.tasks i) (cond (eqb t.running i) (stint_of n t play new one).acts [])
acted_tried n t new play i one =
    let r = t.running in
    let x = state_of (machine_of t r one.task) in
    let z = state_of (machine_of one.mid r one.next) in
    let walk = one.tried.goes.walk in
    let counts = numbers_of (machine_of t r one.task) in
    let acts = (stint_of n t play new one).acts in
    let numbers = one.tried.goes.numbers in
    elim (cases_eq i r) [
      | inl same ↦
          let test : eqb r i ≡ true = grind (arith, nat_tests, same) in
          let next : slice_get one.mid.tasks r ≡ Some one.next = ap (λ l. slice_get l r) one.tried.tasks ∙ set_same t.tasks r one.task one.next one.here in
          rw (test, ap (slice_get t.tasks) same ∙ one.here, ap (slice_get one.mid.tasks) same ∙ next) (record {
            natural = ap (λ (k : Numbers). k.natural) numbers ∙ natural_of x play.moves z walk counts;
            entries = ap (λ (k : Numbers). k.entries) numbers ∙ entries_of x play.moves z walk counts;
            since = ap (λ (k : Numbers). k.since) numbers ∙ since_of x play.moves z walk counts;
            longest = ap (λ (k : Numbers). k.longest) numbers ∙ longest_of x play.moves z walk counts;
          })
      | inr apart ↦
          let test : eqb r i ≡ false = grind (arith, nat_tests, apart) in
          let same : slice_get one.mid.tasks i ≡ slice_get t.tasks i = ap (λ l. slice_get l i) one.tried.tasks ∙ elsewhere_by t.tasks r i one.next apart in
          rw (test, same) (acted_nothing (slice_get t.tasks i))
    ]

-- where the mote is given to another
acted_given : (t : Tasks) (next : ℕ) (parked : Parked) (i : ℕ) → IsGiven t next parked → HaveActed (slice_get t.tasks i) (slice_get (given_by t next (Some parked)).tasks i) []
acted_given t next parked i given =
    let u = given_by t next (Some parked) in
    elim (cases_eq i next) [
      | inl same ↦ rw (ap (slice_get t.tasks) same ∙ given.waits, ap (slice_get u.tasks) same ∙ first_of t next parked given) (acted_unparked given.first None)
      | inr apart ↦ elim (cases_eq i t.running) [
        | inl same ↦ rw (ap (slice_get t.tasks) same ∙ given.had, ap (slice_get u.tasks) same ∙ last_of t next parked given) (acted_unparked given.last (Some _))
        | inr apart' ↦ rw (other_of t next i parked apart apart') (acted_nothing (slice_get t.tasks i))
      ]
    ]

acted_to : (t : Tasks) (last : Task) (found : Option ℕ) (i : ℕ) → AreSound t → slice_get t.tasks t.running ≡ Some last → next_task t ≡ found
    → HaveActed (slice_get t.tasks i) (slice_get (changed_tasks t).tasks i) []
acted_to t last None i sound runs is = subst (λ (u : Tasks). HaveActed (slice_get t.tasks i) (slice_get u.tasks i) []) (sym (ap (given_to t) is)) (acted_nothing (slice_get t.tasks i))
acted_to t last (Some next) i sound runs is =
    let changed = has_changed t next last sound runs is in
    subst (λ (u : Tasks). HaveActed (slice_get t.tasks i) (slice_get u.tasks i) []) (sym changed.is) (acted_given t next changed.parked i changed.given)

acted_on : (n : ℕ) (t new : Tasks) (play : Play) (changes : Bool) (i : ℕ) → (one : IsPlay n t play new) → GoesOn changes one.mid new → HaveActed (slice_get one.mid.tasks i) (slice_get new.tasks i) []
acted_on n t new play false i one is = subst (λ (u : Tasks). HaveActed (slice_get one.mid.tasks i) (slice_get u.tasks i) []) (sym is) (acted_nothing (slice_get one.mid.tasks i))
acted_on n t new play true i one is =
    let runs : slice_get one.mid.tasks one.mid.running ≡ Some one.next = ap (slice_get one.mid.tasks) one.tried.running ∙ ap (λ l. slice_get l t.running) one.tried.tasks
    ∙ set_same t.tasks t.running one.task one.next one.here in
    subst (λ (u : Tasks). HaveActed (slice_get one.mid.tasks i) (slice_get u.tasks i) []) (sym is) (acted_to one.mid one.next (next_task one.mid) i one.tried.sound runs refl)

acted_play : (n : ℕ) (t new : Tasks) (play : Play) (i : ℕ) → (one : IsPlay n t play new)
    → HaveActed (slice_get t.tasks i) (slice_get new.tasks i) (cond (eqb t.running i) (stint_of n t play new one).acts [])
acted_play n t new play i one =
    let acts = cond (eqb t.running i) (stint_of n t play new one).acts [] in
    subst (HaveActed (slice_get t.tasks i) (slice_get new.tasks i)) (append-nil acts)
    (acted_both (slice_get t.tasks i) (slice_get one.mid.tasks i) (slice_get new.tasks i) acts [] (acted_tried n t new play i one) (acted_on n t new play play.changes i one one.behind))

acted_path : (n : ℕ) (t : Tasks) (plays : List Play) (new : Tasks) (i : ℕ) → (path : TaskPath n t plays new)
    → HaveActed (slice_get t.tasks i) (slice_get new.tasks i) (acts_of_task i (stints_of n t plays new path))
acted_path n t [] new i is = subst (λ (u : Tasks). HaveActed (slice_get t.tasks i) (slice_get u.tasks i) []) is (acted_nothing (slice_get t.tasks i))
acted_path n t (play ∷ plays) new i (mid, one, rest) =
    acted_both (slice_get t.tasks i) (slice_get mid.tasks i) (slice_get new.tasks i) (cond (eqb t.running i) (stint_of n t play mid one).acts []) (acts_of_task i (stints_of n mid plays new rest))
    (acted_play n t mid play i one) (acted_path n mid plays new i rest)

-- From boot. ----------------------------------------------------------------------------------------------

-- a task that has counted nothing, or none
abbrev HasNothing : Option Task → Type 0
HasNothing None = Unit {0}
HasNothing (Some was) = (was.natural ≡ 0) × (was.entries ≡ 0) × (was.since ≡ 0) × (was.longest ≡ 0)

waiting_nothing : (task : ℕ) (scripts : List Schedule) (quantum slots i : ℕ) → HasNothing (slice_get (waiting_from task scripts quantum slots) i)
waiting_nothing task [] quantum slots i = tt
waiting_nothing task (script ∷ scripts) quantum slots zero = (refl, refl, refl, refl)
waiting_nothing task (script ∷ scripts) quantum slots (suc i) = waiting_nothing (task + 1) scripts quantum slots i

boot_nothing : (image : List ℕ) (first : Schedule) (others : List Schedule) (quantum slots i : ℕ) → HasNothing (slice_get (booted image first others quantum slots).tasks i)
boot_nothing image first others quantum slots zero = (refl, refl, refl, refl)
boot_nothing image first others quantum slots (suc i) = waiting_nothing 1 others quantum slots i

-- what a task has counted from boot
pub record HasCounts (its : Task) (acts : List Act) : Type 0 where
  pub natural : its.natural ≡ steps_in acts
  pub entries : its.entries ≡ services_in acts
  pub longest : its.longest ≡ longest_in 0 0 acts

counts_by : (was : Option Task) (its : Task) (acts : List Act) → HasNothing was → HaveActed was (Some its) acts → HasCounts its acts
counts_by None its acts none acted = absurd acted
counts_by (Some was) its acts (natural, entries, since, longest) acted = record {
  natural = omega (arith, natural, acted.natural);
  entries = omega (arith, entries, acted.entries);
  longest = acted.longest ∙ ap₂ (λ n k. longest_in n k acts) since longest;
}

pub counts_from_boot : (image : List ℕ) (first : Schedule) (others : List Schedule) (quantum slots n : ℕ) (plays : List Play) (new : Tasks) (i : ℕ) (its : Task)
    → (path : TaskPath n (booted image first others quantum slots) plays new) → slice_get new.tasks i ≡ Some its
    → HasCounts its (acts_of_task i (stints_of n (booted image first others quantum slots) plays new path))
counts_from_boot image first others quantum slots n plays new i its path there =
    let t = booted image first others quantum slots in
    let acts = acts_of_task i (stints_of n t plays new path) in
    counts_by (slice_get t.tasks i) its acts (boot_nothing image first others quantum slots i) (subst (λ o. HaveActed (slice_get t.tasks i) o acts) there (acted_path n t plays new i path))

-- no program that isn't there has acts
none_acted : (was : Option Task) (acts : List Act) → HaveActed was None acts → acts ≡ []
none_acted None acts acted = acted
none_acted (Some was) acts acted = absurd acted

longest_by : (image : List ℕ) (first : Schedule) (others : List Schedule) (quantum slots n : ℕ) (plays : List Play) (new : Tasks) (i bound : ℕ) (found : Option Task)
    → (path : TaskPath n (booted image first others quantum slots) plays new) → slice_get new.tasks i ≡ found
    → ((its : Task) → slice_get new.tasks i ≡ Some its → its.longest ≤ bound) → longest_in 0 0 (acts_of_task i (stints_of n (booted image first others quantum slots) plays new path)) ≤ bound
longest_by image first others quantum slots n plays new i bound None path there most =
    let t = booted image first others quantum slots in
    let acts = acts_of_task i (stints_of n t plays new path) in
    let none : acts ≡ [] = none_acted (slice_get t.tasks i) acts (subst (λ o. HaveActed (slice_get t.tasks i) o acts) there (acted_path n t plays new i path)) in
    omega (arith, ap (longest_in 0 0) none)
longest_by image first others quantum slots n plays new i bound (Some its) path there most =
    omega (arith, most its there, (counts_from_boot image first others quantum slots n plays new i its path there).longest)

-- so between two services of one program there are no more steps than its task has counted
pub few_from_boot : (image : List ℕ) (first : Schedule) (others : List Schedule) (quantum slots n : ℕ) (plays : List Play) (new : Tasks) (i bound : ℕ)
    → (path : TaskPath n (booted image first others quantum slots) plays new) → ((its : Task) → slice_get new.tasks i ≡ Some its → its.longest ≤ bound) → (front between back : List Act)
    → acts_of_task i (stints_of n (booted image first others quantum slots) plays new path) ≡ front ++ (between ++ back) → services_in between ≡ 0 → steps_in between ≤ bound
few_from_boot image first others quantum slots n plays new i bound path most front between back is none =
    omega (arith, longest_by image first others quantum slots n plays new i bound (slice_get new.tasks i) path refl most, ap (longest_in 0 0) is, no_longer 0 0 front between back none)
