-- Serves private functions and the contracts of `enter`, `must_take` and `take`: when an interrupt is taken instead of the arrival
-- that is owed (docs/MACHINE.md, "A run of n steps").
use Rattle.std.specs.Prelude.{◌≡◌, ◌&&◌, Bool, false, Option, Some, None}
use Rattle.kernel_entry.specs.declared.kernel.Kernel.{Kernel}
use Rattle.flat_machine.specs.FlatMachine.{is_own}
use Rattle.kernel_entry.specs.declared.kernel.Owed.{Owed}
use Rattle.kernel_entry.specs.Interrupts.{is_wanted}
use Rattle.step_laws.specs.States.{Awaited, is_taken_at}
use Rattle.program_steps.specs.Machines.{Machine, state_of}

-- An interrupt is wanted at the arrival that is owed: that is inside the program's part, and one is wanted at all.
abbrev pub is_wanted_at : Kernel → Option Owed → Bool
is_wanted_at k None = false
is_wanted_at k (Some owed) = is_own k.part owed.target && is_wanted k

-- One is taken now, instead of that arrival: it is wanted there, and due.
abbrev pub is_taken_now : Machine → Bool
is_taken_now m = m.due && is_wanted_at m.kernel m.owed

-- whatever arrival is owed, no interrupt is taken instead of it
abbrev pub IsUntaken : Machine → Type 0
IsUntaken m = (owed : Awaited) → (state_of m).owed ≡ Some owed → is_taken_at (state_of m) owed ≡ false
