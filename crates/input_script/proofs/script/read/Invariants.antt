use Rattle.std.proofs.Common.{◌+◌, ◌≤◌, length}
use Rattle.text_lines.specs.Lines.{lines_of}
use Rattle.input_script.specs.Judging.{IsDone}
use Rattle.input_script.proofs.script.read.Given as goal

-- the lines before `rest` have no fault, and schedule what is scheduled so far
abbrev pub invariant-loop-rest : goal.invariant-loop-rest
invariant-loop-rest l = record {
  done : IsDone (lines_of l.text) l.line l.script (lines_of l.rest);
  left : l.line + length l.rest ≤ length l.text;
}

abbrev pub decreases-loop-rest : goal.decreases-loop-rest
decreases-loop-rest l = length l.rest
