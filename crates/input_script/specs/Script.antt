-- A whole script: the first fault of a text, and what a text without one schedules.
use Rattle.std.specs.Prelude.{◌≡◌, ℕ, ◌+◌, ◌≤◌, ◌&&◌, Bool, true, false, not, nat_lt, nat_le, if◌then◌else◌, List, [], ◌∷◌, ◌++◌, codes, length, All, AllPairs, Option, Some, None}
use Rattle.std.specs.List.{list_any}
use Rattle.input_script.specs.declared.input.Input.{Input}
use Rattle.input_script.specs.declared.input.Input.TheVariants.{Adc}
use Rattle.input_script.specs.declared.input.Event.{Event}
use Rattle.input_script.specs.declared.line.Statement.{Statement}
use Rattle.input_script.specs.declared.line.Statement.TheVariants.{Nothing, At, FailFlash}
use Rattle.input_script.specs.declared.fault.ScriptFault.{ScriptFault}
use Rattle.input_script.specs.declared.fault.ScriptFault.TheVariants.{Form, Order, Range, TooMany}
use Rattle.text_lines.specs.Lines.{lines_of}
use Rattle.text_lines.specs.Faults.{after_lines, first_fault}
use Rattle.input_script.specs.Grammar.{statement_of}

-- the inputs that come, and the numbers of the flash operations that fail
pub record Schedule : Type 0 where
  pub events : List Event
  pub failing : List ℕ

abbrev pub nothing : Schedule
nothing = record { events = []; failing = [] }

-- how many lines wrote it: events and fail lines together
abbrev pub size : Schedule → ℕ
size schedule = length schedule.events + length schedule.failing

-- how many events and fail lines a script may have
abbrev pub most_statements : ℕ
most_statements = 65536

-- what is scheduled behind a line that says this
abbrev pub with_said : Schedule → Option Statement → Schedule
with_said before (Some (At number input)) = record before { events = before.events ++ record { at = number; input = input } ∷ [] }
with_said before (Some (FailFlash number)) = record before { failing = before.failing ++ number ∷ [] }
with_said before said = before

abbrev pub after : Schedule → List ℕ → Schedule
after before line = with_said before (statement_of line)

-- an earlier statement of the same sort has a greater number
abbrev pub is_late : Schedule → Statement → Bool
is_late before Nothing = false
is_late before (At number input) = list_any (λ earlier. nat_lt number earlier.at) before.events
is_late before (FailFlash number) = list_any (λ earlier. nat_lt number earlier) before.failing

-- an adc value has 10 bits, as the converter's result has (ATmega128 datasheet, "Analog to Digital Converter")
abbrev pub is_input_in_range : Input → Bool
is_input_in_range (Adc value) = nat_le value 0x3FF
is_input_in_range _ = true

-- the number fits 32 bits, and the input its device; operations are counted from 1
abbrev pub is_in_range : Statement → Bool
is_in_range Nothing = true
is_in_range (At number input) = nat_le number 4294967295 && is_input_in_range input
is_in_range (FailFlash number) = nat_le 1 number && nat_le number 4294967295

-- the first fault of a line that says this, behind what the lines before it schedule
abbrev pub fault_of : Schedule → Option Statement → Option ScriptFault
fault_of before None = Some Form
fault_of before (Some statement) =
    if is_late before statement then Some Order
    else if not (is_in_range statement) then Some Range
    else if nat_lt most_statements (size (with_said before (Some statement))) then Some TooMany
    else None

abbrev pub fault_at : Schedule → List ℕ → Option ScriptFault
fault_at before line = fault_of before (statement_of line)

-- the first line that has a fault, counted from 1, and the first of its faults
abbrev pub script_fault : List ℕ → Option (ℕ × ScriptFault)
script_fault text = first_fault fault_at after 1 nothing (lines_of text)

-- an accepted text, and what its lines schedule
pub record IsScript (text : List ℕ) (schedule : Schedule) : Type 0 where
  pub sound : script_fault text ≡ None
  pub schedule_is : schedule ≡ after_lines after nothing (lines_of text)

-- Serves callers: the events are in order and in range, and so are the fail lines, and both together are not too many. By the
-- law `grammar` an accepted text schedules so.
pub record IsSchedule (schedule : Schedule) : Type 0 where
  pub ordered : AllPairs (λ earlier later. earlier.at ≤ later.at) schedule.events
  pub in_range : All (λ event. is_in_range (At event.at event.input) ≡ true) schedule.events
  pub failing_ordered : AllPairs (λ earlier later. earlier ≤ later) schedule.failing
  pub failing_in_range : All (λ number. is_in_range (FailFlash number) ≡ true) schedule.failing
  pub few : size schedule ≤ most_statements

-- the first lines have no fault, and write an event or a fail line
pub record NeedsMemory (text : List ℕ) : Type 0 where
  pub front : List (List ℕ)
  pub rest : List (List ℕ)
  pub cut : lines_of text ≡ front ++ rest
  pub sound : first_fault fault_at after 1 nothing front ≡ None
  pub some : 1 ≤ size (after_lines after nothing front)

-- the word by which a fault is told
abbrev pub script_word : ScriptFault → List ℕ
script_word Form = codes "form"
script_word Order = codes "order"
script_word Range = codes "range"
script_word TooMany = codes "events"
