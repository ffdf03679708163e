-- Serves the contract of `grammar`: the format of a script as relations, and that the functions of `Grammar` and `Script` say the
-- same.
use Rattle.std.specs.Prelude.{◌≡◌, ℕ, ◌+◌, ◌<◌, ◌≤◌, ◌⊎◌, ◌↔◌, true, false, List, [], ◌∷◌, ◌++◌, length, codes, Some}
use Rattle.std.specs.Str.Parse.{digits_value, AllDigits}
use Rattle.text_lines.specs.Lines.{lines_of}
use Rattle.input_script.specs.declared.input.Input.{Input}
use Rattle.input_script.specs.declared.input.Input.TheVariants.{Pin, Uart, Adc, Int}
use Rattle.input_script.specs.declared.line.Statement.{Statement}
use Rattle.input_script.specs.declared.line.Statement.TheVariants.{Nothing, At, FailFlash}
use Rattle.input_script.specs.declared.fault.ScriptFault.{ScriptFault}
use Rattle.input_script.specs.declared.fault.ScriptFault.TheVariants.{Form, Order, Range, TooMany}
use Rattle.input_script.specs.Grammar.{statement_of}
use Rattle.input_script.specs.Script.{Schedule, IsSchedule, IsScript, is_in_range, is_late, most_statements, nothing, script_fault, size, with_said}

-- a front, and behind it exactly so many digits of a base, of either case, that write this number
pub record IsWritten (front : List ℕ) (radix width : ℕ) (text : List ℕ) (n : ℕ) : Type 0 where
  pub digits : List ℕ
  pub written : text ≡ front ++ digits
  pub all : AllDigits radix digits
  pub size : length digits ≡ width
  pub value : n ≡ digits_value radix digits

-- 1 to 10 decimal digits that write n
abbrev pub IsNumber : List ℕ → ℕ → Type 0
IsNumber text n = (1 ≤ length text) × (length text ≤ 10) × IsWritten [] 10 (length text) text n

-- a kind's word and a value, with one space between; ports 0 to 3 are `pina` (97 is `a`) to `pind`
abbrev pub IsInput : List ℕ → Input → Type 0
IsInput text (Pin port value) = (port ≤ 3) × IsWritten (codes "pin" ++ (97 + port) ∷ codes " 0x") 16 2 text value
IsInput text (Uart value) = IsWritten (codes "uart 0x") 16 2 text value
IsInput text (Adc value) = IsWritten (codes "adc 0x") 16 3 text value
IsInput text (Int value) = IsWritten (codes "int ") 8 1 text value

-- what a line says: nothing, where it is empty or begins with `#`; an input behind `at` and a number; or `fail flash` and a number
abbrev pub IsStatement : List ℕ → Statement → Type 0
IsStatement line Nothing = (line ≡ []) ⊎ ((comment : List ℕ) × (line ≡ codes "#" ++ comment))
IsStatement line (At n input) = (number : List ℕ) × (rest : List ℕ) × (line ≡ codes "at " ++ number ++ codes " " ++ rest) × IsNumber number n × IsInput rest input
IsStatement line (FailFlash n) = (number : List ℕ) × (line ≡ codes "fail flash " ++ number) × IsNumber number n

-- what the lines' statements, one a line, make of a schedule
abbrev pub Spells : Schedule → List (List ℕ) → Schedule → Type 0
Spells before [] schedule = schedule ≡ before
Spells before (line ∷ lines) schedule = (statement : Statement) × IsStatement line statement × Spells (with_said before (Some statement)) lines schedule

-- lines that are accepted: what they schedule is in order and in range
abbrev pub Accepts : List (List ℕ) → Schedule → Type 0
Accepts lines schedule = Spells nothing lines schedule × IsSchedule schedule

-- the first thing that is wrong with a line, behind what is scheduled before it
abbrev pub IsWrong : ScriptFault → Schedule → List ℕ → Type 0
IsWrong Form before line = (statement : Statement) → ¬ IsStatement line statement
IsWrong Order before line = (statement : Statement) × IsStatement line statement × (is_late before statement ≡ true)
IsWrong Range before line = (statement : Statement) × IsStatement line statement × (is_late before statement ≡ false) × (is_in_range statement ≡ false)
IsWrong TooMany before line =
    (statement : Statement) × IsStatement line statement × (is_late before statement ≡ false) × (is_in_range statement ≡ true) × (most_statements < size (with_said before (Some statement)))

-- the lines before are accepted, and the line with this number, from 1, is wrong
pub record IsFaulty (lines : List (List ℕ)) (number : ℕ) (fault : ScriptFault) : Type 0 where
  pub front : List (List ℕ)
  pub line : List ℕ
  pub rest : List (List ℕ)
  pub cut : lines ≡ front ++ line ∷ rest
  pub number_is : number ≡ length front + 1
  pub before : Schedule
  pub accepted : Accepts front before
  pub wrong : IsWrong fault before line

-- both say the same of a line, of an accepted text, and of a faulty one
abbrev pub LinesAgree : Type 0
LinesAgree = (line : List ℕ) (statement : Statement) → (statement_of line ≡ Some statement) ↔ IsStatement line statement

abbrev pub TextsAgree : Type 0
TextsAgree = (text : List ℕ) (schedule : Schedule) → IsScript text schedule ↔ Accepts (lines_of text) schedule

abbrev pub FaultsAgree : Type 0
FaultsAgree = (text : List ℕ) (number : ℕ) (fault : ScriptFault) → (script_fault text ≡ Some (number, fault)) ↔ IsFaulty (lines_of text) number fault
