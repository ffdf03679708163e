-- One turn of the machine: what it does between two looks at it.
use Rattle.std.specs.Prelude.{◌≡◌, ℕ, true, Option, Some, None}
use Rattle.mote_devices.specs.declared.line.Line.{Line}
use Rattle.kernel_entry.specs.declared.kernel.End.{End}
use Rattle.program_steps.specs.Machines.{Machine}
use Rattle.program_steps.specs.Interrupts.{is_taken_now}
use Rattle.program_steps.specs.Stepping.{HasStepped, HasEntered}
use Rattle.program_steps.specs.Several.{HasDone}

-- An interrupt is taken, which is a step without a line; or the arrival that is owed is refused, and the program has ended; or
-- that arrival is made, and steps follow, of which the last alone may write a line, and may stop the program.
pub data HasTurned (old new : Machine) (count : ℕ) (line : Option Line) : Type 0 where
  Interrupted : is_taken_now old ≡ true → HasStepped old new None → count ≡ 1 → line ≡ None → HasTurned old new count line
  Refused : (end : End) → HasEntered old new (Some end) → count ≡ 0 → line ≡ None → HasTurned old new count line
  Stepped : (mid : Machine) → HasEntered old mid None → HasDone mid new count line → HasTurned old new count line
