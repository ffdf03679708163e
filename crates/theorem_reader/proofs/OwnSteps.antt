-- Of several programs none does anything without a step of rewritten code of its own.
use Rattle.std.proofs.Common.{◌≡◌, ℕ, eqb, cond, true, false, List, [], ◌∷◌, ◌++◌, length, Some, None, refl, sym, ap, ap₂, ◌∙◌, subst, arith, inl, inr}
use Rattle.std.specs.Prelude.{slice_get, slice_set}
use Rattle.std.proofs.lemmas.Bool.{cases_eq}
use Rattle.std.proofs.lemmas.Bool.Decides.{nat_tests}
use Rattle.std.proofs.lemmas.Option.{slice_get_within}
use Rattle.flat_machine.specs.FlatMachine.{End, Spent, Wild}
use Rattle.mote_core.specs.declared.mote.Mote.{Mote}
use Rattle.task_input.specs.Images.{task_words}
use Rattle.task_turns.specs.Turns.{Player, Turns, Played, Over, Gone, played, with_player, once_by, once}
use Rattle.task_turns.proofs.Isolation.{by_change, once_follows, set_here, set_elsewhere}
use Rattle.task_turns.proofs.OwnPrograms.{player_at, reset_player, some_player}
use Rattle.theorem_reader.specs.Acts.{Act, steps_in}
use Rattle.theorem_reader.specs.ByCode.{AreDoneByCode}
use Rattle.theorem_reader.specs.Stints.{Stint, AreOfTry, TakeTurns, acts_of_task}
use Rattle.theorem_reader.specs.Tasks.{AskedTasks, words_of, reset_of}
use Rattle.theorem_reader.proofs.Bounding.{steps_behind}
use Rattle.theorem_reader.proofs.Sharing.{reset_long}
use Rattle.theorem_reader.proofs.WorkedActs.{steps_of_own}

-- One try. -----------------------------------------------------------------------------------------------

-- a try without acts, behind which the program stands where it stood
record IsIdle (t : Turns) (p : Player) (acts : List Act) (next : Turns) : Type 0 where
  none : acts ≡ []
  q : Player
  players : next.players ≡ slice_set t.players t.running q
  stands : q.moment ≡ p.moment

idle_over : (t : Turns) (p : Player) (acts : List Act) (end : End) → acts ≡ [] → IsIdle t p acts (once_by t p (Over end)).turns
idle_over t p acts end none = record { none = none; q = record p { end = Some end }; players = by_change (with_player t (record p { end = Some end })) _; stands = refl }

-- so it is where it has no step of rewritten code, and no interrupt is due
idle_try : (image : List ℕ) (t : Turns) (p : Player) (before : Mote) (acts : List Act) (comes : Played) → p.moment.due ≡ false → AreOfTry image p.moment before acts comes → steps_in acts ≡ 0
    → IsIdle t p acts (once_by t p comes).turns
idle_try image t p before acts (Over Spent) undue none few = idle_over t p acts Spent none
idle_try image t p before acts (Over (Wild pc)) undue none few = idle_over t p acts (Wild pc) none
idle_try image t p before acts (Over _) undue made few = absurd (omega (arith, few, steps_of_own image p.moment before acts undue made.0))
idle_try image t p before acts (Gone line checkpoint next) undue made few = absurd (omega (arith, few, steps_of_own image p.moment before acts undue made.0))

-- Several tries. -----------------------------------------------------------------------------------------

-- no interrupt is due of this program, if there is one, and it made no step
abbrev IsFresh : ℕ → Turns → Type 0
IsFresh task t = (p : Player) → slice_get t.players task ≡ Some p → (p.moment.due ≡ false) × (p.moment.now.steps ≡ 0)

-- what the acts of a stint are for this program
abbrev its_acts : ℕ → Stint → List Act
its_acts task stint = cond (eqb stint.task task) stint.acts []

idle_stint : (image : List ℕ) (task : ℕ) (t : Turns) (stint : Stint) (p : Player) (before : Mote) → slice_get t.players t.running ≡ Some p → p.end ≡ None → stint.task ≡ t.running
    → AreOfTry image p.moment before stint.acts (played p) → IsFresh task t → steps_in (its_acts task stint) ≡ 0 → IsFresh task (once t p).turns × (its_acts task stint ≡ [])
idle_stint image task t stint p before there going its tried fresh few = elim (cases_eq task t.running) [
  | inl same ↦
      let test : eqb stint.task task ≡ true = grind (arith, nat_tests, its, same) in
      let own : its_acts task stint ≡ stint.acts = ap (λ b. cond b stint.acts []) test in
      let was = fresh p (ap (slice_get t.players) same ∙ there) in
      let idle = idle_try image t p before stint.acts (played p) was.0 tried (ap steps_in (sym own) ∙ few) in
      let here : slice_get (once t p).turns.players task ≡ Some idle.q = ap (λ l. slice_get l task) idle.players ∙ ap (slice_get (slice_set t.players t.running idle.q)) same
      ∙ set_here t.players t.running p idle.q there in (
        λ q is. let stands : q.moment ≡ p.moment = ap (λ (z : Player). z.moment) (some_player q idle.q (sym is ∙ here)) ∙ idle.stands in
            (ap (λ m. m.due) stands ∙ was.0, ap (λ m. m.now.steps) stands ∙ was.1),
        own ∙ idle.none,
      )
  | inr apart ↦
      let test : eqb stint.task task ≡ false = grind (arith, nat_tests, its, apart) in
      let one = once_follows t p going in
      (λ q is. fresh q (sym (ap (λ l. slice_get l task) one.players ∙ set_elsewhere t.players task t.running one.q apart) ∙ is), ap (λ b. cond b stint.acts []) test)
]

idle_stints : (image : List ℕ) (quantum task : ℕ) (t : Turns) (left : Mote) (motes : List Mote) (stints : List Stint) (to : Turns) (end : Mote) (last : List Mote)
    → TakeTurns image quantum t left motes stints to end last → IsFresh task t → steps_in (acts_of_task task stints) ≡ 0 → IsFresh task to × (acts_of_task task stints ≡ [])
idle_stints image quantum task t left motes [] to end last (same, left_is, motes_are) fresh few = (subst (IsFresh task) same fresh, refl)
idle_stints image quantum task t left motes (stint ∷ stints) to end last (p, own, before, after, there, going, its, had, back, state, between, tried, lines, follow, rest) fresh few =
    let parts = steps_behind (its_acts task stint) (acts_of_task task stints) in
    let one = idle_stint image task t stint p before there going its tried fresh (omega (arith, few, parts)) in
    let more = idle_stints image quantum task (once t p).turns after (slice_set motes stint.task after) stints to end last rest one.0 (omega (arith, few, parts)) in
    (more.0, ap₂ (λ a b. a ++ b) one.1 more.1)

-- From reset. --------------------------------------------------------------------------------------------

fresh_at_reset : (asked : AskedTasks) (task : ℕ) → IsFresh task (reset_of asked)
fresh_at_reset asked task = λ p is.
    let words = task_words (length asked.scripts) asked.image in
    let few = reset_long words 0 asked.scripts asked.quantum asked.slots asked.steps in
    let there = reset_player asked.image asked.scripts asked.quantum asked.slots asked.steps task (omega (arith, few, slice_get_within (reset_of asked).players task p is)) in
    let its = some_player p (player_at words asked.scripts asked.quantum asked.slots asked.steps task) (sym is ∙ there) in
    (ap (λ (q : Player). q.moment.due) its, ap (λ (q : Player). q.moment.now.steps) its)

pub are_done_by_code : AreDoneByCode
are_done_by_code asked to t stints task p is none =
    let idle = idle_stints (words_of asked) asked.quantum task (reset_of asked) stints.first stints.motes stints.stints to stints.left stints.last stints.turns (fresh_at_reset asked task) none in
    ((idle.0 p is).1, idle.1)
