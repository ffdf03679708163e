-- A space: plain data that stands for what a bus reaches. A call of the bus is a function of the space
-- and the arguments; it gives an answer and the next space, or a stop that leaves the space.
use Rattle.std.specs.Prelude.{ℕ, Result, Ok, Err}
use Rattle.avr_exec.specs.declared.stop.BusStop.{BusStop}

-- an answer and the next space, or a stop
pub data Outcome (S A : Type 0) : Type 0 where
  Went : A → S → Outcome S A
  Stopped : BusStop → Outcome S A

-- the ten calls of a bus, as functions of the space and their arguments
pub record Calls (S : Type 0) : Type 0 where
  pub load : S → ℕ → Outcome S ℕ
  pub store : S → ℕ → ℕ → Outcome S (Unit {0})
  pub modify : S → ℕ → ℕ → ℕ → Outcome S (Unit {0})
  pub push : S → ℕ → ℕ → Outcome S (Unit {0})
  pub pop : S → ℕ → Outcome S ℕ
  pub push_ret : S → ℕ → ℕ → Outcome S (Unit {0})
  pub pop_ret : S → ℕ → Outcome S ℕ
  pub rampz : S → ℕ
  pub set_rampz : S → ℕ → S
  pub flash_byte : S → ℕ → ℕ

-- what a call's result and the space after it tell
abbrev pub outcome_of : {S A : Type 0} → Result A BusStop → S → Outcome S A
outcome_of (Ok answer) next = Went answer next
outcome_of (Err stop) next = Stopped stop
