-- Which moves may be made, and walks of them (docs/RUN.md, "Moves").
use Rattle.std.specs.Prelude.{◌≡◌, ℕ, ◌+◌, ◌<◌, ◌^◌, Bool, true, false, List, [], ◌∷◌, Option, Some, None}
use Rattle.mote_devices.specs.declared.line.Line.{Line}
use Rattle.mote_core.specs.declared.mote.Mote.{Mote}
use Rattle.mote_core.specs.declared.mote.Plain.{Plain as Shown}
use Rattle.mote_core.specs.Conditions.{can_step}
use Rattle.mote_core.specs.Shown.{line_shown}
use Rattle.mote_core.specs.Step.{form_at, IsPlainStep}
use Rattle.mote_core.specs.QuietSteps.{KeepsKernel}
use Rattle.heap_frames.specs.Paged.{IsPaged}
use Rattle.branch_bridge.specs.declared.through.Arrival.{Arrival}
use Rattle.flash_words.specs.Layouts.{IsRight, image_of}
use Rattle.nat_page.specs.Faithful.{IsFaithful}
use Rattle.branch_bridge.specs.Arrivals.{Store, ArrivesFrom, CameThrough, KeptThrough, ring_of}
use Rattle.step_laws.specs.Moves.{Inner, Plain, Serve, Move, Begin, Within, Arrive, Take}
use Rattle.step_laws.specs.States.{State, mote_of, with_mote, Awaited, is_taken_at, admits, after_taking, stops_taking, Begins, InPool, line_served, is_stop, after_service, store_of, arrived}
use Rattle.kernel_entry.specs.Services.{served, is_due}
use Rattle.kernel_entry.specs.Interrupts.{taken}
use Rattle.kernel_entry.specs.Conditions.{CanServe}

-- A plain step: nothing is owed, and the program has not ended; the pc is in the code pool, and at an
-- entry's place exactly where the move says so; the mote's own step may be made, and leaves the kernel part.
pub record MakesPlain (x : State) (begins : Bool) (line : Option Line) (y : State) : Type 0 where
  pub free : x.owed ≡ None
  pub going : x.end ≡ None
  pub pool : InPool x.kernel.layout (mote_of x).cpu.pc
  pub starts : Begins x.kernel.layout (mote_of x).flash.words (mote_of x).cpu.pc begins
  pub can : can_step (form_at (mote_of x)) (mote_of x).cpu ≡ true
  pub room : (mote_of x).devices.polls < 2 ^ 63
  pub shown : Shown
  pub next : Mote
  pub step : IsPlainStep (mote_of x) shown next
  pub written : line_shown shown ≡ line
  pub kept : KeepsKernel (mote_of x).sram next.sram
  pub result : y ≡ with_mote x next

-- A service: nothing is owed, the program has not ended, and the pc is at an entry of the kernel that may
-- be served. It leaves what its answer says.
pub record MakesServe (x : State) (line : Option Line) (stops : Bool) (y : State) : Type 0 where
  pub free : x.owed ≡ None
  pub going : x.end ≡ None
  pub can : CanServe x.kernel
  pub written : line_served (served x.kernel).0 ≡ line
  pub halts : is_stop (served x.kernel).0 ≡ stops
  pub result : y ≡ after_service (is_due x.kernel) (served x.kernel)

-- An arrival may be made: the pool is faithful; the stub, if there is one, is a link to the target that isn't resolved; and
-- RING is a page of the pool.
pub record CanArrive (x : State) (stub : Option ℕ) (target : ℕ) : Type 0 where
  pub right : IsRight x.kernel.layout
  pub faithful : IsFaithful x.kernel.layout (image_of x.kernel.layout (mote_of x).flash.words) (mote_of x).flash.words
  pub came : CameThrough x.kernel.layout (mote_of x).flash.words stub target
  pub ring : ring_of (mote_of x).sram < x.kernel.layout.pool_pages

-- An arrival: it is the one that is owed, from the stub that asked for it, with no interrupt to be taken before it. A
-- program that is shut in its part makes none outside. It makes a page and tries so many operations on flash as the
-- move says, a refused one included.
pub record MakesArrive (x : State) (target : ℕ) (made : Bool) (ops : ℕ) (y : State) : Type 0 where
  pub owed : Awaited
  pub owes : x.owed ≡ Some owed
  pub going : x.end ≡ None
  pub untaken : is_taken_at x owed ≡ false
  pub at : target ≡ owed.target
  pub own : admits x.kernel.part target ≡ true
  pub can : CanArrive x owed.stub target
  pub store : Store
  pub arrival : Arrival
  pub arrives : ArrivesFrom x.kernel.layout (store_of x) store target owed.stub arrival
  pub makes : arrival.made ≡ made
  pub kept : KeptThrough x.kernel.layout (store_of x) store target arrival
  pub tried : store.flash.ops ≡ (store_of x).flash.ops + ops
  pub after : y ≡ arrived x store arrival

-- An interrupt in place of the arrival that is owed: it is to be taken, and pushes the arrival's address. It leaves what
-- its answer says.
pub record MakesTake (x : State) (stops : Bool) (y : State) : Type 0 where
  pub owed : Awaited
  pub owes : x.owed ≡ Some owed
  pub going : x.end ≡ None
  pub taken_now : is_taken_at x owed ≡ true
  pub room : (mote_of x).devices.polls < 2 ^ 63
  pub paged : IsPaged (mote_of x).sram (mote_of x).swap
  pub halts : stops_taking (taken x.kernel owed.target).0 ≡ stops
  pub result : y ≡ after_taking x (taken x.kernel owed.target)

-- A move of a step leads from one state to the next; a plain one stands at an entry's place where it begins the step.
abbrev pub MakesOf : (begins : Bool) → State → Inner → State → Type 0
MakesOf begins x (Plain line) y = MakesPlain x begins line y
MakesOf begins x (Serve line stops) y = MakesServe x line stops y

-- the move leads from one state to the next
abbrev pub Makes : State → Move → State → Type 0
Makes x (Begin line) y = MakesOf true x (Plain line) y
Makes x (Within inner) y = MakesOf false x inner y
Makes x (Arrive target made ops) y = MakesArrive x target made ops y
Makes x (Take stops) y = MakesTake x stops y

-- One after another: R says of a single one that it leads from one state to the next.
abbrev pub Walks : {S M : Type 0} → (S → M → S → Type 0) → S → List M → S → Type 0
Walks R x [] z = x ≡ z
Walks {S} R x (move ∷ moves) z = (y : S) × R x move y × Walks R y moves z

abbrev pub Walk : State → List Move → State → Type 0
Walk x moves z = Walks Makes x moves z

abbrev pub WalkWithin : State → List Inner → State → Type 0
WalkWithin x rest z = Walks (MakesOf false) x rest z

-- a plain step, which begins the program's step or not, and moves in the midst of it behind
abbrev pub WalkFrom : State → (begins : Bool) → Option Line → List Inner → State → Type 0
WalkFrom x begins first rest z = (y : State) × MakesPlain x begins first y × WalkWithin y rest z
