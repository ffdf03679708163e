-- Several steps, one behind the other.
use Rattle.std.proofs.Common.{◌≡◌, ℕ, suc, ◌+◌, ◌≤◌, true, false, sym, ap, ◌∙◌, arith, subst}
use Rattle.std.specs.Prelude.{◌≢◌, Option, Some, None}
use Rattle.mote_devices.specs.declared.line.Line.{Line}
use Rattle.kernel_entry.specs.declared.kernel.End.{End}
use Rattle.flat_machine.specs.FlatMachine.{is_own, is_taken, next_of}
use Rattle.flat_machine.specs.FlatMachine as flat_ends
use Rattle.kernel_entry.specs.Seen.{program as program_of}
use Rattle.program_steps.specs.Machines.{Machine, flat_of}
use Rattle.program_steps.specs.Ready.{IsGoing, IsQuiet}
use Rattle.program_steps.specs.Stepping.{HasStepped, StepWay, HasEntered, Entering}
use Rattle.program_steps.specs.Several.{HasFollowed, Silently}

-- a step behind which the program goes on
pub record GoesOn (old new : Machine) (line : Option Line) : Type 0 where
  pub ready : IsGoing new
  pub quiet : IsQuiet new
  pub steps : new.steps ≡ old.steps + 1
  pub next : next_of (program_of old.kernel) (flat_of old) ≡ flat_ends.On line (flat_of new)

pub goes_on_by : (old new : Machine) (line : Option Line) → StepWay old new line → new.end ≡ None → GoesOn old new line
goes_on_by old new line (StepWay.On ready quiet steps is) going = record { ready = ready; quiet = quiet; steps = steps; next = is }
goes_on_by old new line (StepWay.Stopped stop over kept none steps is left) going = absurd (let e : Some _ ≡ None = sym kept ∙ going in cc)

-- a step that stops the program isn't counted by it
pub steps_on : {old new : Machine} {line : Option Line} → StepWay old new line → (old.steps ≤ new.steps) × (new.steps ≤ old.steps + 1)
steps_on (StepWay.On ready quiet steps is) = (omega arith, omega arith)
steps_on (StepWay.Stopped stop over kept none steps is left) = (omega arith, omega arith)

pub counted_on : {old new : Machine} {line : Option Line} (begin count : ℕ) → StepWay old new line → (new.end ≡ None → begin + count ≡ new.steps) → (new.end ≢ None → begin + count ≡ new.steps + 1)
    → begin + count ≡ old.steps + 1
counted_on begin count (StepWay.On ready quiet steps is) going ended = going ready.going ∙ steps
counted_on begin count (StepWay.Stopped stop over kept none steps is left) going ended = ended over.ended ∙ ap (λ n. n + 1) steps

-- an arrival that was made leads to an entry of the program's part, where no interrupt is to be taken
pub record IsLetIn (w z : Machine) : Type 0 where
  pub ready : IsGoing z
  pub placed : z.owed ≡ None
  pub inside : is_own w.kernel.part w.at ≡ true
  pub untaken : is_taken (flat_of z) ≡ false

let_in_by : {w z : Machine} {result : Option End} → Entering w z result → result ≡ None → IsLetIn w z
let_in_by (Entering.In ready placed inside untaken) none = record { ready = ready; placed = placed; inside = inside; untaken = untaken }
let_in_by (Entering.Out over kept outside) none = absurd (cc)
let_in_by (Entering.Failed op over kept inside fault) none = absurd (cc)

pub let_in : (w z : Machine) (result : Option End) → HasEntered w z result → result ≡ None → IsLetIn w z
let_in w z result entered none = let_in_by entered.way none

pub silently_on : (i : ℕ) (old : Machine) {now w new : Machine} {line : Option Line} → Silently i old now → HasStepped now w line → line ≡ None → HasFollowed w new → Silently (i + 1) old new
silently_on i old {now} {w} {new} before step silent followed =
    let same : suc i ≡ i + 1 = omega arith in
    subst (λ n. Silently n old new) same (now, w, before, subst (HasStepped now w) silent step, followed)
