-- When lines go out: at each multiple of 65,536 steps all that were told by then have (docs/MACHINE.md, "A run of n steps").
use Rattle.std.specs.Prelude.{ℕ, ◌*◌, ◌<◌, List, Option}
use Rattle.std.specs.Io.KnownBytes.{Appends}
use Rattle.printed_text.specs.Gathering.{turn_steps}
use Rattle.printed_text.specs.DeviceLines.{lines_text}
use Rattle.program_steps.specs.Machines.{Machine}
use Rattle.tk_run.specs.Running.{original_from}

-- The sink was one that had taken all lines of the original program's first so many steps, behind what it had taken before; and
-- what it took later stands behind these.
pub record HadAll {K : Type 0} (taken : K → Option (List ℕ)) (old : Machine) (before after : K) (steps : ℕ) : Type 0 where
  pub sink : K
  pub put : Appends (taken before) (taken sink) (lines_text (original_from old steps).lines)
  pub later : (rest : List ℕ) × Appends (taken sink) (taken after) rest

-- .. at each turn in so many steps
abbrev pub GoOutInTurn : {K : Type 0} → (K → Option (List ℕ)) → Machine → (before after : K) → ℕ → Type 0
GoOutInTurn taken old before after steps = (turn : ℕ) → turn_steps * turn < steps → HadAll taken old before after (turn_steps * turn)
