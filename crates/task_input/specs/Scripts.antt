-- The script of several tasks (docs/TASKS.md, "The script"): each event names its task, as in `task 1 at 5 uart 0x41`.
use Rattle.std.specs.Prelude.{◌≡◌, ℕ, nat_lt, if◌then◌else◌, List, [], ◌++◌, length, codes, map, find, Option, Some, None, option_map, unwrap_or}
use Rattle.std.specs.List.{range_with_len}
use Rattle.input_script.specs.declared.fault.ScriptFault.{ScriptFault}
use Rattle.input_script.specs.declared.fault.ScriptFault.TheVariants.{Form}
use Rattle.input_script.specs.Grammar.{is_skipped}
use Rattle.input_script.specs.Script as script
use Rattle.input_script.specs.Script.{Schedule, nothing}
use Rattle.text_lines.specs.Lines.{lines_of}
use Rattle.text_lines.specs.Faults.{after_lines, first_fault}
use Rattle.text_lines.specs.Stripping.{stripped}
use Rattle.text_lines.specs.Pieces.{task_text}

-- what an event's line begins with
abbrev pub at_word : List ℕ
at_word = codes "at "

-- a line of a task's own text: what stands behind the task's name; a line that is not the task's event is empty
abbrev pub own_line : ℕ → List ℕ → List ℕ
own_line task line = unwrap_or (option_map (λ rest. at_word ++ rest) (stripped (task_text task ++ at_word) line)) []

-- the one of the first `count` tasks whose event a line is
abbrev pub task_of : (count : ℕ) → List ℕ → Option ℕ
task_of count line = find (λ task. nat_lt 0 (length (own_line task line))) (range_with_len 0 count)

-- what is scheduled for each task, behind one line more
abbrev pub after : (ℕ → Schedule) → List ℕ → ℕ → Schedule
after before line task = script.after (before task) (own_line task line)

-- The first fault of a line, behind what is scheduled before it: of a task's event that of its own line. Any other line is
-- skipped or has no form, so one of an operation that fails.
abbrev pub fault_of : (ℕ → Schedule) → List ℕ → Option ℕ → Option ScriptFault
fault_of before line None = if is_skipped line then None else Some Form
fault_of before line (Some task) = script.fault_at (before task) (own_line task line)

abbrev pub fault_at : (count : ℕ) → (ℕ → Schedule) → List ℕ → Option ScriptFault
fault_at count before line = fault_of before line (task_of count line)

-- the first line that has a fault, counted from 1, and the first of its faults
abbrev pub scripts_fault : (count : ℕ) → List ℕ → Option (ℕ × ScriptFault)
scripts_fault count text = first_fault (fault_at count) after 1 (λ task. nothing) (lines_of text)

-- an accepted text, and what it schedules for each task
pub record Schedules (count : ℕ) (text : List ℕ) (schedules : List Schedule) : Type 0 where
  pub sound : scripts_fault count text ≡ None
  pub schedules_are : schedules ≡ map (after_lines after (λ task. nothing) (lines_of text)) (range_with_len 0 count)
