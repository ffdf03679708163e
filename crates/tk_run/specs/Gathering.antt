-- Serves private functions: a run whose last lines are still gathered.
use Rattle.std.specs.Prelude.{◌≡◌, ℕ, ◌+◌, ◌-◌, ◌≤◌, ◌^◌, true, false, List, [], Option, Some, None, Result, Ok, Err}
use Rattle.byte_streams.specs.Faults.{HasCause}
use Rattle.byte_streams.specs.Streams.{IsSent}
use Rattle.byte_streams.specs.declared.failure.Failed.{Failed}
use Rattle.kernel_entry.specs.declared.kernel.End.{End}
use Rattle.program_steps.specs.Machines.{Machine}
use Rattle.program_steps.specs.Ready.{IsGoing, IsQuiet}
use Rattle.tk_run.specs.InTurn.{GoOutInTurn}
use Rattle.tk_run.specs.Running.{HasAdvanced}

-- A machine without an end may run up to n steps.
pub record MayRun (m : Machine) (n : ℕ) : Type 0 where
  pub going : m.end ≡ None
  pub whole : m.broken ≡ false
  pub ready : IsGoing m
  pub quiet : IsQuiet m
  pub steps : m.steps + n ≤ 10 ^ 12
  pub unshut : m.kernel.part.shut ≡ false

-- what the run leaves once the machine is marked as broken
abbrev pub IsCut : (old new : Machine) → ℕ → (before after : Option (List ℕ)) → Failed → Type 0
IsCut old new n before after e = HasAdvanced old (record new { broken = true }) n before after (Err e)

-- The run's text, as if it were put to a sink of its own: some of it, from the front, went out, and the
-- rest is gathered.
pub record HasText (old new : Machine) (n : ℕ) (gathered : List ℕ) (before after : Option (List ℕ)) (end : End) : Type 0 where
  pub text : List ℕ
  pub advanced : HasAdvanced old new n (Some []) (Some text) (Ok end)
  pub sent : IsSent text gathered before after

-- a run of up to n steps, with text that is still gathered
abbrev pub HasGathered : (old new : Machine) → ℕ → List ℕ → (before after : Option (List ℕ)) → Result End Failed → Type 0
HasGathered old new n gathered before after (Ok end) = HasText old new n gathered before after end
HasGathered old new n gathered before after (Err e) = IsCut old new n before after e

-- .. what went out in turn, and why the sink failed, if it did
pub record HasMade {K : Type 0} (taken : K → Option (List ℕ)) (faults : K → ℕ) (old new : Machine) (n : ℕ) (gathered : List ℕ) (before after : K) (result : Result End Failed) : Type 0 where
  pub ran : HasGathered old new n gathered (taken before) (taken after) result
  pub turns : GoOutInTurn taken old before after (new.steps - old.steps)
  pub cause : HasCause (faults before) (faults after) result
