-- A task's part of the image.
use Rattle.std.specs.Prelude.{ℕ, ◌*◌, true}
use Rattle.flat_machine.specs.declared.part.Part.{Part}
use Rattle.task_input.specs.Images.{quarter}

-- a task's own words; it may read no others
abbrev pub quarter_part : ℕ → Part
quarter_part task = record { first = quarter * task; count = quarter; shut = true }
