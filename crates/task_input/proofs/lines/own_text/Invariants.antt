use Rattle.std.proofs.Common.{◌≤◌, ◌+◌, length}
use Rattle.text_lines.specs.Lines.{lines_of}
use Rattle.task_input.proofs.OwnTexts.{IsWritten}
use Rattle.task_input.proofs.lines.own_text.Given as goal

-- the first lines are written
abbrev pub invariant-lines : goal.invariant-lines
invariant-lines l = record {
  written : IsWritten l.task (lines_of l.text) l.own.items (lines_of l.rest);
  short : length l.own.items + length l.rest ≤ length l.text;
}

abbrev pub decreases-lines : goal.decreases-lines
decreases-lines l = length l.rest
