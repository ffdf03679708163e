-- The device lines of a run, each with the number of the step that wrote it.
use Rattle.std.specs.Prelude.{◌≡◌, ℕ, suc, List, [], ◌∷◌, ◌++◌, length, drop, codes, decimal}
use Rattle.mote_devices.specs.declared.line.Line.{Line}
use Rattle.flat_machine.specs.FlatMachine.{Run}
use Rattle.printed_text.specs.DeviceLines.{device_line_text}

-- `runs n` is the run of the first n steps. The lines of the step behind the first k, of which there is one at most: what
-- the first k + 1 steps write, and the first k don't.
abbrev pub lines_behind : (runs : ℕ → Run) → ℕ → List Line
lines_behind runs k = drop (length (runs k).lines) (runs (suc k)).lines

-- a device line behind the number of the step that wrote it
unfoldable pub numbered_line : (step : ℕ) → Line → List ℕ
numbered_line step line = codes "step " ++ decimal step ++ codes " " ++ device_line_text line

-- a text tells just these lines, each behind some number
abbrev pub TellsNumbered : List Line → List ℕ → Type 0
TellsNumbered [] text = text ≡ []
TellsNumbered (line ∷ lines) text = (step : ℕ) × (rest : List ℕ) × (text ≡ numbered_line step line ++ rest) × TellsNumbered lines rest
