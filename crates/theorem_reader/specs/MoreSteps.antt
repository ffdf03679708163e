-- What more steps add to a run. They take nothing back, so that a run without a bound has a meaning: its device lines are those
-- of ever more steps, up to its end, if it has one.
use Rattle.std.specs.Prelude.{◌≡◌, ◌≢◌, ℕ, ◌+◌, List, ◌++◌}
use Rattle.mote_devices.specs.declared.line.Line.{Line}
use Rattle.flat_machine.specs.FlatMachine.{Spent}
use Rattle.theorem_reader.specs.Runs.{Asked, original_of}

-- the device lines of n steps are a front part of those of n + k
abbrev pub LinesStay : Type 0
LinesStay = (asked : Asked) → (n k : ℕ) → (more : List Line) × ((original_of asked (n + k)).lines ≡ (original_of asked n).lines ++ more)

-- a run that ended in n steps is the same for n + k: its end, its lines, and where it stands
abbrev pub EndsStay : Type 0
EndsStay = (asked : Asked) → (n k : ℕ) → (original_of asked n).end ≢ Spent → original_of asked (n + k) ≡ original_of asked n
