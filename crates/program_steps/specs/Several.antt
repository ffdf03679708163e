-- Serves private functions: several steps of the program, one behind the other.
use Rattle.std.specs.Prelude.{◌≡◌, ℕ, zero, suc, ◌+◌, false, Option, None}
use Rattle.mote_devices.specs.declared.line.Line.{Line}
use Rattle.program_steps.specs.Machines.{Machine}
use Rattle.program_steps.specs.Ready.{IsGoing}
use Rattle.program_steps.specs.Stepping.{HasStepped, HasEntered}

-- a step is over with no interrupt due, and the arrival that it led to, if any, was made: so the next may follow
pub record HasFollowed (old new : Machine) : Type 0 where
  pub ready : IsGoing old
  pub undue : old.due ≡ false
  pub entered : HasEntered old new None
  pub still : new.due ≡ false

-- so many steps that write no device line, with what makes the next one follow each of them
abbrev pub Silently : ℕ → Machine → Machine → Type 0
Silently zero x z = x ≡ z
Silently (suc n) x z = (y : Machine) × (w : Machine) × Silently n x y × HasStepped y w None × HasFollowed w z

-- so many steps, of which the last may write a device line, and may lead to the kernel
pub record HasDone (old new : Machine) (count : ℕ) (line : Option Line) : Type 0 where
  pub earlier : ℕ
  pub last : Machine
  pub counted : count ≡ earlier + 1
  pub silently : Silently earlier old last
  pub step : HasStepped last new line
