-- What one of several tasks tells at once, as it is printed: a device line, and its stop line.
use Rattle.std.specs.Prelude.{ℕ, List, [], ◌++◌, Option, Some, None}
use Rattle.mote_devices.specs.declared.line.Line.{Line}
use Rattle.printed_text.specs.DeviceLines.{device_line_text}
use Rattle.kernel_entry.specs.declared.kernel.End.{End}
use Rattle.text_lines.specs.Pieces.{task_text}
use Rattle.printed_text.specs.StopLines.{end_line}

abbrev pub device_told : ℕ → Option Line → List ℕ
device_told task None = []
device_told task (Some line) = task_text task ++ device_line_text line

abbrev pub stop_told : ℕ → Option End → (steps checkpoints : ℕ) → List ℕ
stop_told task None steps checkpoints = []
stop_told task (Some end) steps checkpoints = task_text task ++ end_line end steps checkpoints
