-- Serves private functions: a task's own text as it is written, and how far the scripts are read.
use Rattle.std.specs.Prelude.{◌≡◌, ℕ, ◌||◌, nat_le, nat_lt, is_some, if◌then◌else◌, List, [], ◌∷◌, ◌++◌, flat_map, map, Option, Some, None, option_map}
use Rattle.std.specs.List.{range_with_len}
use Rattle.text_lines.specs.Lines.{lines_of}
use Rattle.text_lines.specs.Faults.{after_lines, first_fault}
use Rattle.input_script.specs.declared.fault.ScriptFault.{ScriptFault}
use Rattle.input_script.specs.declared.fault.ScriptFault.TheVariants.{Form}
use Rattle.input_script.specs.Grammar.{is_skipped}
use Rattle.input_script.specs.Script as script
use Rattle.input_script.specs.Script.{Schedule, nothing}
use Rattle.task_input.specs.declared.script.BadLine.{BadLine}
use Rattle.task_input.specs.Scripts.{after, own_line, task_of}

-- the lines of a task's own text, as many as the whole text has
abbrev pub own_lines : ℕ → List (List ℕ) → List (List ℕ)
own_lines task lines = map (own_line task) lines

-- a line with its end; a carriage return at the end of the line itself then stays
abbrev pub ended : List ℕ → List ℕ
ended [] = 10 ∷ []
ended (byte ∷ line) = byte ∷ line ++ 13 ∷ 10 ∷ []

abbrev pub text_of : List (List ℕ) → List ℕ
text_of lines = flat_map ended lines

-- the first fault of a task's own text, and what one without a fault schedules
abbrev pub own_fault : ℕ → List (List ℕ) → Option (ℕ × ScriptFault)
own_fault task lines = first_fault script.fault_at script.after 1 nothing (own_lines task lines)

pub record IsOwn (task : ℕ) (lines : List (List ℕ)) (schedule : Schedule) : Type 0 where
  pub sound : own_fault task lines ≡ None
  pub schedule_is : schedule ≡ after_lines script.after nothing (own_lines task lines)

-- the first line without a form
abbrev pub form_fault : (count : ℕ) → Unit {0} → List ℕ → Option ScriptFault
form_fault count known line = if is_skipped line || is_some (task_of count line) then None else Some Form

abbrev pub first_formless : (count : ℕ) → List (List ℕ) → Option (ℕ × ScriptFault)
first_formless count lines = first_fault (form_fault count) (λ known line. known) 1 tt lines

-- the first fault of a line, where only the events of the first tasks are judged
abbrev pub fault_among_by : (tasks : ℕ) → (ℕ → Schedule) → List ℕ → Option ℕ → Option ScriptFault
fault_among_by tasks before line None = if is_skipped line then None else Some Form
fault_among_by tasks before line (Some task) = if nat_lt task tasks then script.fault_at (before task) (own_line task line) else None

abbrev pub fault_among : (tasks count : ℕ) → (ℕ → Schedule) → List ℕ → Option ScriptFault
fault_among tasks count before line = fault_among_by tasks before line (task_of count line)

-- the earlier of two faulty lines
abbrev pub earlier : Option BadLine → BadLine → BadLine
earlier None other = other
earlier (Some first) other = if nat_le first.line other.line then first else other

-- the first tasks are read: the first faulty line so far, and where there is none the schedules
pub record IsFar (count : ℕ) (text : List ℕ) (tasks : ℕ) (first : Option BadLine) (schedules : List Schedule) : Type 0 where
  pub faults : option_map (λ bad. (bad.line, bad.fault)) first ≡ first_fault (fault_among tasks count) after 1 (λ task. nothing) (lines_of text)
  pub schedules_are : first ≡ None → schedules ≡ map (after_lines after (λ task. nothing) (lines_of text)) (range_with_len 0 tasks)
