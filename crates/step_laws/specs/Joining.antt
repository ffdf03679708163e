-- Walks that follow one another (docs/RUN.md, "Numbers").
use Rattle.std.specs.Prelude.{◌≡◌, List, ◌++◌}
use Rattle.mote_devices.specs.declared.line.Line.{Line}
use Rattle.step_laws.specs.Moves.{Move, lines_of}
use Rattle.step_laws.specs.Numbers.{Numbers, numbered}
use Rattle.step_laws.specs.States.{State}
use Rattle.step_laws.specs.Walks.{Walk}

-- a state, with what was counted up to it
pub record Counted : Type 0 where
  pub state : State
  pub numbers : Numbers

-- these moves lead from one state to the other, write these lines, and are counted
pub record Leads (x : Counted) (moves : List Move) (lines : List Line) (y : Counted) : Type 0 where
  pub walk : Walk x.state moves y.state
  pub told : lines_of moves ≡ lines
  pub numbers : y.numbers ≡ numbered moves x.numbers

-- what leads on from where others led
abbrev pub Joins : Type 0
Joins = (x y z : Counted) → (ms ns : List Move) → (before after : List Line) → Leads x ms before y → Leads y ns after z → Leads x (ms ++ ns) (before ++ after) z
