use Rattle.std.proofs.Common.{◌<◌, ℕ, List, ◌++◌}
use Rattle.std.specs.Prelude.{◌≢◌}
use Rattle.text_lines.specs.Pieces.{task_text}
use Rattle.task_input.specs.Scripts.{at_word}
use Rattle.task_input.proofs.lines.is_named.Given as goal

-- the line names none of the first tasks
abbrev pub invariant-tasks : goal.invariant-tasks
invariant-tasks l = (task : ℕ) → (rest : List ℕ) → task < l.task → l.line ≢ task_text task ++ at_word ++ rest
