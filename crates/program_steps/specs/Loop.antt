-- Serves private functions: what the calls of the loop ask of the machine, and what they leave. A call
-- asks that some move may be made; and whichever may, it leaves what that one leads to. So it is told
-- nothing of the law of a step, and follows it all the same. The device line of a step stands where all its
-- moves put it: a call tells which stood there before, and which stands there after.
use Rattle.std.specs.Prelude.{◌≡◌, ◌≢◌, ℕ, ◌+◌, ◌<◌, ◌≤◌, ◌^◌, Bool, true, false, List, [], length, Option, Some, None, map}
use Rattle.std.specs.Option.{option_or}
use Rattle.mote_devices.specs.declared.line.Line.{Line}
use Rattle.page_index.specs.Entries.{IsEntry}
use Rattle.branch_bridge.specs.declared.arrival.Refused.{Refused}
use Rattle.branch_bridge.specs.declared.through.Arrival.{Arrival}
use Rattle.branch_bridge.specs.Arrivals.{KeptThrough, KeepsParts}
use Rattle.kernel_entry.specs.declared.kernel.Owed.{Owed}
use Rattle.program_steps.specs.declared.progress.Progress.{Progress}
use Rattle.program_steps.specs.Machines.{Machine, state_of, numbers_of}
use Rattle.program_steps.specs.Ready.{IsGoing}
use Rattle.program_steps.specs.Interrupts.{IsUntaken}
use Rattle.step_laws.specs.StepLaws.{StepLaw, moves_of, crossings_over, links_at}
use Rattle.step_laws.specs.Moves.{Inner, Plain, Serve, Within, Arrive, lines_of, line_before, line_within}
use Rattle.step_laws.specs.Numbers.{Numbers, moved, numbered, one_if}
use Rattle.step_laws.specs.States.{State, mote_of, store_of, end_by, admits}
use Rattle.step_laws.specs.Walks.{MakesPlain, MakesServe, MakesOf, MakesArrive, WalkWithin}
use Rattle.nat_page.specs.Entered.{IsPlace}

-- numbers that can be counted on
pub record AreSmall (n : Numbers) (top : ℕ) : Type 0 where
  pub natural : n.natural < top
  pub entries : n.entries < top
  pub since : n.since < top

-- some plain step may be made, and whichever may, it was made
pub record CanPlain (x : State) : Type 0 where
  pub begins : Bool
  pub line : Option Line
  pub next : State
  pub makes : MakesPlain x begins line next

-- What no move of a step changes: where the step began, the crossings, whether lines could be put; and whether an interrupt
-- is due, but where the move leaves an arrival to be made.
pub record IsAsBegun (old new : Machine) : Type 0 where
  pub at : new.at ≡ old.at
  pub broken : new.broken ≡ old.broken
  pub crossings : new.crossings ≡ old.crossings
  pub due : new.owed ≡ None → new.due ≡ old.due

-- The move of a step was made. It counts as one in the midst of the step: a step that it begins was counted before.
pub record Moved (old new : Machine) (before after : Option Line) (inner : Inner) (next : State) : Type 0 where
  pub state : state_of new ≡ next
  pub numbers : numbers_of new ≡ moved (Within inner) (numbers_of old)
  pub written : after ≡ option_or (line_within inner) before
  pub rest : IsAsBegun old new

abbrev pub HasPlain : Machine → Machine → (before after : Option Line) → Type 0
HasPlain old new before after = (begins : Bool) → (line : Option Line) → (next : State) → MakesPlain (state_of old) begins line next → Moved old new before after (Plain line) next

-- a service can be done, and what it leaves
pub record CanServeNow (x : State) : Type 0 where
  pub line : Option Line
  pub stops : Bool
  pub next : State
  pub makes : MakesServe x line stops next

abbrev pub HasServed : Machine → Machine → (before after : Option Line) → Type 0
HasServed old new before after = (line : Option Line) → (stops : Bool) → (next : State) → MakesServe (state_of old) line stops next → Moved old new before after (Serve line stops) next

-- a step of the program is over
pub data IsOver (x : State) : Type 0 where
  Owes : x.owed ≢ None → IsOver x
  Ended : x.end ≢ None → IsOver x
  Reached : IsPlace x.kernel.layout (mote_of x).flash.words (mote_of x).cpu.pc → IsOver x

-- flash, the layout and the page that is torn stay
pub record KeepsFlash (old new : Machine) : Type 0 where
  pub flash : new.kernel.mote.flash ≡ old.kernel.mote.flash
  pub layout : new.kernel.layout ≡ old.kernel.layout
  pub torn : new.torn ≡ old.torn

-- an arrival is owed, or the program has ended
pub data IsHalted (m : Machine) : Type 0 where
  Owes : m.owed ≢ None → m.end ≡ None → IsHalted m
  Ended : m.owed ≡ None → m.end ≢ None → IsHalted m

-- whether a move has brought control to the kernel, for an arrival or for good
abbrev pub Halts : Machine → Bool → Type 0
Halts m true = IsHalted m
Halts m false = (m.owed ≡ None) × (m.end ≡ None)

-- where control stands at the end of a step: at the code of this address, or with the kernel
abbrev pub HasReached : Machine → Option ℕ → Type 0
HasReached m (Some t) = (m.owed ≡ None) × (m.end ≡ None) × IsEntry m.kernel.layout m.kernel.mote.flash.words t m.kernel.mote.cpu.pc
HasReached m None = IsHalted m

-- some move of a step may be made, and whichever may, it was made
pub record CanMove (x : State) : Type 0 where
  pub begins : Bool
  pub inner : Inner
  pub next : State
  pub makes : MakesOf begins x inner next

abbrev pub HasMoved : Machine → Machine → (before after : Option Line) → Type 0
HasMoved old new before after = (begins : Bool) → (inner : Inner) → (next : State) → MakesOf begins (state_of old) inner next → Moved old new before after inner next

-- this arrival is owed, and may be made
pub record MayArrive (m : Machine) (next : Owed) : Type 0 where
  pub ready : IsGoing m
  pub steps : m.steps ≤ 10 ^ 12
  pub untaken : IsUntaken m
  pub admitted : admits m.kernel.part m.at ≡ true
  pub owed : m.owed ≡ Some next

-- an arrival was made, or refused, and left what arrivals leave
pub record HasArrived (old new : Machine) : Type 0 where
  pub target : ℕ
  pub made : Bool
  pub ops : ℕ
  pub makes : MakesArrive (state_of old) target made ops (state_of new)
  pub kept : KeptThrough old.kernel.layout (store_of (state_of old)) makes.store target makes.arrival
  pub parts : KeepsParts old.kernel.layout (store_of (state_of old)) makes.store target makes.owed.stub makes.arrival
  pub numbers : numbers_of new ≡ moved (Arrive target made ops) (numbers_of old)
  pub at : new.at ≡ old.at
  pub broken : new.broken ≡ old.broken
  pub crossings : new.crossings ≡ old.crossings
  pub due : new.due ≡ old.due

-- what is counted of an arrival, and how a refused one ends the program
abbrev pub noted_refusal : Option Refused → Progress → Progress
noted_refusal None p = record p { owed = None }
noted_refusal (Some refused) p = record p { end = Some (end_by refused.why); torn = refused.torn }

abbrev pub after_arrival : Arrival → Progress → Progress
after_arrival arrival p = noted_refusal arrival.refused (record p { pages = p.pages + one_if arrival.made })

-- the law of the step that begins here
abbrev pub LawOf : Machine → Type 0
LawOf m = StepLaw (links_at (state_of m)) (state_of m) m.at

-- how many moves of steps a machine has made
abbrev pub moves_made : Machine → ℕ
moves_made m = m.natural + m.entries

-- what is left of the moves of a step
pub record Rest (old now : Machine) (line : Option Line) (law : LawOf old) : Type 0 where
  pub rest : List Inner
  pub walk : WalkWithin (state_of now) rest law.end
  pub short : length rest + moves_made now ≤ moves_made old + 65
  pub numbers : numbered (map Within rest) (numbers_of now) ≡ numbered (moves_of law) (numbers_of old)
  pub begun : IsAsBegun old now
  pub lines : line_before line (lines_of (map Within rest)) ≡ line_before law.line []

-- A step was counted, and has not moved yet; or some of its moves were made, whichever the law gives, and it
-- isn't over.
pub data IsMidway (old now : Machine) (line : Option Line) : Type 0 where
  Begun : now ≡ record old { steps = old.steps + 1 } → line ≡ None → IsMidway old now line
  Going : ¬ IsOver (state_of now) → ((law : LawOf old) → Rest old now line law) → IsMidway old now line

-- .. and its law and its numbers are such that moves may follow
pub record IsUnderway (begun now : Machine) (line : Option Line) : Type 0 where
  pub law : LawOf begun
  pub few : AreSmall (numbers_of begun) (2 ^ 60)
  pub midway : IsMidway begun now line
  pub small : AreSmall (numbers_of now) (2 ^ 60 + moves_made now)

-- Some of its moves were made, whichever the law gives, and it may be over.
pub record IsFurther (begun now : Machine) (line : Option Line) : Type 0 where
  pub rest : (law : LawOf begun) → Rest begun now line law
  pub small : AreSmall (numbers_of now) (2 ^ 60 + moves_made now)

-- the walk of the law of a step was made
pub record Taken (old new : Machine) (law : LawOf old) : Type 0 where
  pub state : state_of new ≡ law.end
  pub numbers : numbers_of new ≡ numbered (moves_of law) (numbers_of old)

pub record Took (old new : Machine) (line : Option Line) (law : LawOf old) : Type 0 where
  pub taken : Taken old new law
  pub written : line ≡ law.line
  pub rest : IsAsBegun old new

abbrev pub HasTaken : Machine → Machine → Option Line → Type 0
HasTaken old new line = (law : LawOf old) → Took old new line law

-- the address at which the next step begins, unless the program has ended
abbrev pub target : Option ℕ → Option Owed → Option ℕ
target (Some t) owed = Some t
target None (Some owed) = Some owed.target
target None None = None

-- that address is taken down, and the step to it counted if it is a crossing
abbrev pub settled_at : Option ℕ → Progress → Progress
settled_at None p = p
settled_at (Some to) p = record p { at = to; crossings = crossings_over p.at to p.crossings }
