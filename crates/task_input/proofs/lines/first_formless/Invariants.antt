use Rattle.std.proofs.Common.{◌≡◌, ◌≤◌, ◌+◌, length}
use Rattle.text_lines.specs.Lines.{lines_of}
use Rattle.text_lines.specs.Faults.{first_fault}
use Rattle.task_input.specs.Reading.{first_formless, form_fault}
use Rattle.task_input.proofs.lines.first_formless.Given as goal

-- the first line without a form stands in the rest
abbrev pub invariant-lines : goal.invariant-lines
invariant-lines l = record {
  forms : first_fault (form_fault l.count) (λ known line. known) (l.number + 1) tt (lines_of l.rest) ≡ first_formless l.count (lines_of l.text);
  left : l.number + length l.rest ≤ length l.text;
}

abbrev pub decreases-lines : goal.decreases-lines
decreases-lines l = length l.rest
