-- Each move has one outcome, and which one comes next is settled.
use Rattle.std.specs.Prelude.{◌≡◌, ◌≢◌, ℕ, Bool, List, [], Option, None}
use Rattle.flash_words.specs.Layouts.{IsRight}
use Rattle.mote_devices.specs.declared.line.Line.{Line}
use Rattle.step_laws.specs.Moves.{Move}
use Rattle.step_laws.specs.States.{State}
use Rattle.step_laws.specs.Walks.{MakesPlain, MakesServe, MakesArrive, MakesTake, Walk}

-- a plain step begins a step of the program or not, and has one line and one next state
abbrev pub PlainsAreOne : Type 0
PlainsAreOne = (x y z : State) (b c : Bool) (line line' : Option Line) → MakesPlain x b line y → MakesPlain x c line' z → (b ≡ c) × (line ≡ line') × (y ≡ z)

-- a service has one line, stops the program or not, and has one next state
abbrev pub ServicesAreOne : Type 0
ServicesAreOne = (x y z : State) (stops stops' : Bool) (line line' : Option Line) → MakesServe x line stops y → MakesServe x line' stops' z → (line ≡ line') × (stops ≡ stops') × (y ≡ z)

-- an arrival has one target, makes a page or not, tries so many operations on flash, and has one next state: so which page
-- it takes, and that it is RING's where all are used, is settled
abbrev pub ArrivalsAreOne : Type 0
ArrivalsAreOne = (x y z : State) (target target' ops ops' : ℕ) (made made' : Bool) → MakesArrive x target made ops y → MakesArrive x target' made' ops' z
    → (target ≡ target') × (made ≡ made') × (ops ≡ ops') × (y ≡ z)

-- an interrupt stops the program or not, and has one next state
abbrev pub InterruptsAreOne : Type 0
InterruptsAreOne = (x y z : State) (stops stops' : Bool) → MakesTake x stops y → MakesTake x stops' z → (stops ≡ stops') × (y ≡ z)

-- a plain step and a service exclude each other, and so do an arrival and an interrupt
pub record MovesAreApart : Type 0 where
  pub plain_or_service : (x y z : State) (begins stops : Bool) (line line' : Option Line) → IsRight x.kernel.layout → MakesPlain x begins line y → MakesServe x line' stops z → ⊥
  pub arrival_or_interrupt : (x y z : State) (target ops : ℕ) (made stops : Bool) → MakesArrive x target made ops y → MakesTake x stops z → ⊥

-- an ended program makes no move
abbrev pub EndsAreLast : Type 0
EndsAreLast = (x z : State) (moves : List Move) → x.end ≢ None → Walk x moves z → (moves ≡ []) × (x ≡ z)
