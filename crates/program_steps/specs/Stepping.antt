-- What one step of the program, and one arrival, leave of the machine.
use Rattle.std.specs.Prelude.{◌≡◌, ◌≢◌, ℕ, ◌+◌, ◌≤◌, ◌⊎◌, Bool, true, false, List, [], ◌∷◌, ◌++◌, Option, Some, None, map}
use Rattle.flash_words.specs.Operations.{is_listed}
use Rattle.mote_devices.specs.declared.line.Line.{Line}
use Rattle.flat_machine.specs.FlatMachine.{Ends, is_own, next_of, is_taken}
use Rattle.flat_machine.specs.FlatMachine as flat_ends
use Rattle.kernel_entry.specs.declared.kernel.Stop.{Stop}
use Rattle.kernel_entry.specs.declared.kernel.End.{End}
use Rattle.kernel_entry.specs.declared.kernel.End.TheVariants as ends
use Rattle.step_laws.specs.Moves.{Inner, Move, Begin, Within, Arrive, Take, line_before, count_plain, count_serve}
use Rattle.step_laws.specs.Joining.{Leads}
use Rattle.step_laws.specs.Links.{Links}
use Rattle.step_laws.specs.StepLaws.{Reaches, links_at, crossings_over}
use Rattle.kernel_entry.specs.Seen.{program as program_of, end_of}
use Rattle.program_steps.specs.Machines.{Machine, state_of, numbers_of, counted_of, flat_of, awaits}
use Rattle.program_steps.specs.Ready.{IsGoing, IsQuiet, IsEnded, AreArrivals, most_arrivals}

-- the links of the pool that the machine runs in
abbrev pub links_in : Machine → Links
links_in m = links_at (state_of m)

-- where the machine stands is told
abbrev pub IsTold : Machine → ℕ → Type 0
IsTold m result = (t : ℕ) → (due : Bool) → Reaches (links_in m) t due (state_of m) → result ≡ t

-- a step led to this address
abbrev pub settled : Machine → ℕ → Machine
settled m to = record m { at = to; crossings = crossings_over m.at to m.crossings; due = awaits m }

pub record HasSettled (old new : Machine) : Type 0 where
  pub on : (to : ℕ) → (due : Bool) → old.end ≡ None → Reaches (links_in old) to due (state_of old) → new ≡ settled old to
  pub over : old.end ≢ None → new ≡ old

-- whether the last move is an arrival
abbrev pub ends_in_arrive : List Move → Bool
ends_in_arrive [] = false
ends_in_arrive (Arrive target made ops ∷ []) = true
ends_in_arrive (m ∷ ms) = ends_in_arrive ms

-- these moves lead from one machine to the other
abbrev pub Goes : (old new : Machine) → List Move → List Line → Type 0
Goes old new moves lines = Leads (counted_of old) moves lines (counted_of new)

-- at most an arrival, at this address
pub data IsArrival (t : ℕ) (moves : List Move) : Type 0 where
  NoArrival : moves ≡ [] → IsArrival t moves
  OneArrival : (made : Bool) → (ops : ℕ) → moves ≡ Arrive t made ops ∷ [] → IsArrival t moves

-- The moves of a step itself: an interrupt that is taken; or a plain move that begins it, and behind it at most 39 more
-- and two services.
pub data AreOwn (moves : List Move) : Type 0 where
  Taking : (stops : Bool) → moves ≡ Take stops ∷ [] → AreOwn moves
  Making : (line : Option Line) → (rest : List Inner) → moves ≡ Begin line ∷ map Within rest → count_plain rest ≤ 39 → count_serve rest ≤ 2 → AreOwn moves

-- at most an arrival at this address, and behind it at most the moves of one step
pub record AreOfStep (t : ℕ) (moves : List Move) : Type 0 where
  pub arrival : List Move
  pub own : List Move
  pub parts : moves ≡ arrival ++ own
  pub arrives : IsArrival t arrival
  pub makes : (own ≡ []) ⊎ AreOwn own

-- the program, the layout, the quantum and the list of operations that are to fail stay
pub record Stays (old new : Machine) : Type 0 where
  pub program : program_of new.kernel ≡ program_of old.kernel
  pub layout : new.kernel.layout ≡ old.kernel.layout
  pub quantum : new.kernel.quantum ≡ old.kernel.quantum
  pub failing : new.kernel.mote.flash.failing ≡ old.kernel.mote.flash.failing

-- The step goes on as the original program's does; or it stops the program where the original stops, and
-- then nothing that the program sees has changed.
pub data StepWay (old new : Machine) (line : Option Line) : Type 0 where
  On : IsGoing new → IsQuiet new → new.steps ≡ old.steps + 1
      → next_of (program_of old.kernel) (flat_of old) ≡ flat_ends.On line (flat_of new) → StepWay old new line
  Stopped : (stop : Stop) → IsEnded new → new.end ≡ Some (ends.Stopped stop) → line ≡ None → new.steps ≡ old.steps
      → next_of (program_of old.kernel) (flat_of old) ≡ Ends (end_of stop) → flat_of new ≡ flat_of old → StepWay old new line

-- what one step leaves: moves, none of which is an arrival, and where they lead
pub record HasStepped (old new : Machine) (line : Option Line) : Type 0 where
  pub moves : List Move
  pub goes : Goes old new moves (line_before line [])
  pub last : ends_in_arrive moves ≡ false
  pub some : moves ≢ []
  pub own : AreOwn moves
  pub stays : Stays old new
  pub broken : new.broken ≡ old.broken
  pub flash : new.kernel.mote.flash ≡ old.kernel.mote.flash
  pub arrivals : AreArrivals (numbers_of new) (most_arrivals new.owed new.steps)
  pub way : StepWay old new line

-- the operation of this number is the last that was tried; it was to fail, and was refused
pub record IsFault (m : Machine) (op : ℕ) : Type 0 where
  pub last : op ≡ m.kernel.mote.flash.ops
  pub listed : is_listed m.kernel.mote.flash.failing op ≡ true
  pub refused : m.kernel.mote.flash.refused ≢ None

-- an arrival that is owed is made; or it is refused, outside the program's part or by flash
pub data Entering (old new : Machine) : Option End → Type 0 where
  In : IsGoing new → new.owed ≡ None → is_own old.kernel.part old.at ≡ true → is_taken (flat_of new) ≡ false → Entering old new None
  Out : IsEnded new → new.end ≡ Some (ends.Wild old.at) → is_own old.kernel.part old.at ≡ false → Entering old new (Some (ends.Wild old.at))
  Failed : (op : ℕ) → IsEnded new → new.end ≡ Some (ends.Flash op) → is_own old.kernel.part old.at ≡ true → IsFault new op → Entering old new (Some (ends.Flash op))

-- what that leaves: one move at most, and of what the program sees nothing has changed
pub record HasEntered (old new : Machine) (result : Option End) : Type 0 where
  pub moves : List Move
  pub goes : Goes old new moves []
  pub stays : Stays old new
  pub broken : new.broken ≡ old.broken
  pub steps : new.steps ≡ old.steps
  pub flat : flat_of new ≡ flat_of old
  pub arrives : IsArrival old.at moves
  pub way : Entering old new result

-- at the bound only an arrival outside the program's part is made, and refused
pub data HasBound (old new : Machine) : End → Type 0 where
  Waits : new ≡ old → is_own old.kernel.part old.at ≡ true → HasBound old new ends.Spent
  Leaves : HasEntered old new (Some (ends.Wild old.at)) → is_own old.kernel.part old.at ≡ false → HasBound old new (ends.Wild old.at)
