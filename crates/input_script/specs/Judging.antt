-- Serves private functions: how one line is judged after others.
use Rattle.std.specs.Prelude.{◌≡◌, ℕ, ◌<◌, List, ◌++◌, length, Some, None}
use Rattle.input_script.specs.declared.fault.ScriptError.{ScriptError}
use Rattle.input_script.specs.declared.fault.ScriptError.TheVariants.{Bad, NoMemory}
use Rattle.text_lines.specs.Faults.{after_lines, first_fault}
use Rattle.input_script.specs.Script.{Schedule, nothing, size, after, fault_at}

-- what is scheduled before a line and behind it: the line has no fault
pub record Takes (line : List ℕ) (before behind : Schedule) : Type 0 where
  pub sound : fault_at before line ≡ None
  pub behind_is : behind ≡ after before line

-- the answer that a line with this number gets: its first fault, or want of memory for what it schedules
abbrev pub IsRefusal : ScriptError → ℕ → List ℕ → Schedule → Type 0
IsRefusal NoMemory number line before = (fault_at before line ≡ None) × (size before < size (after before line))
IsRefusal (Bad at fault) number line before = (at ≡ number) × (fault_at before line ≡ Some fault)

-- the first lines, as many as number, have no fault and schedule this, and these are the others
pub record IsDone (lines : List (List ℕ)) (number : ℕ) (schedule : Schedule) (rest : List (List ℕ)) : Type 0 where
  pub front : List (List ℕ)
  pub cut : lines ≡ front ++ rest
  pub number_is : number ≡ length front
  pub sound : first_fault fault_at after 1 nothing front ≡ None
  pub schedule_is : schedule ≡ after_lines after nothing front
