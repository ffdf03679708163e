-- What a step shows outside.
use Rattle.std.specs.Prelude.{Option, Some, None}
use Rattle.mote_devices.specs.declared.line.Line.{Line}
use Rattle.mote_core.specs.declared.mote.Plain.{Plain}
use Rattle.mote_core.specs.declared.mote.Plain.TheVariants.{Went, Wrote}

-- the line, where there is one
abbrev pub line_shown : Plain → Option Line
line_shown Went = None
line_shown (Wrote line) = Some line
