-- What a line of a source says: a label, a statement, both or nothing; a comment stands behind a semicolon. What is
-- wrong with a line by itself are the first three faults.
use Rattle.std.specs.Prelude.{◌≡◌, ℕ, IfSome, ◌==◌, Bool, false, if◌then◌else◌, List, [], ◌∷◌, Option, Some, None, Result, Ok, Err}
use Rattle.std.specs.List.{list_all, list_any}
use Rattle.std.specs.Char.{is_ascii_lowercase}
use Rattle.arrayvec.specs.ArrayVec.{ArrayVec}
use Rattle.avr_asm.specs.declared.fault.AsmFault.{AsmFault}
use Rattle.avr_asm.specs.declared.fault.AsmFault.TheVariants as faults
use Rattle.avr_asm.specs.declared.line.Line.{Line}
use Rattle.avr_asm.specs.declared.mnemonic.Operation.{Operation}
use Rattle.avr_asm.specs.declared.operand.Operands.{Operands}
use Rattle.avr_asm.specs.declared.statement.Statement.{Statement}
use Rattle.avr_asm.specs.Cuts.{before, behind, trimmed, front_word, behind_word}
use Rattle.avr_asm.specs.Mnemonics.{operation_of}
use Rattle.avr_asm.specs.Operands.{name_of, operands_of}
use Rattle.avr_asm.specs.Statements.{meaning_of}

abbrev pub small_word : List ℕ → Bool
small_word [] = false
small_word (b ∷ text) = list_all is_ascii_lowercase (b ∷ text)

-- lower-case letters, maybe behind a point (46)
abbrev pub is_mnemonic : List ℕ → Bool
is_mnemonic [] = false
is_mnemonic (b ∷ text) = if b == 46 then small_word text else list_all is_ascii_lowercase (b ∷ text)

-- what operands mean behind a mnemonic: where they aren't read, and where it isn't known, is a fault
abbrev pub by_operands : Option Operands → Option Operation → Result Statement AsmFault
by_operands None operation = Err faults.Form
by_operands (Some operands) None = Err faults.Mnemonic
by_operands (Some operands) (Some operation) = meaning_of operation operands

-- a mnemonic, and operands behind blanks
unfoldable pub statement_of : List ℕ → Result Statement AsmFault
statement_of text =
    if is_mnemonic (front_word text) then by_operands (operands_of (trimmed (behind_word text))) (operation_of (front_word text))
    else Err faults.Form

abbrev pub with_statement : Option (ArrayVec ℕ) → Result Statement AsmFault → Result Line AsmFault
with_statement label (Ok statement) = Ok (record { label = label; statement = Some statement })
with_statement label (Err fault) = Err fault

-- what stands behind a label, or without one
abbrev pub behind_label : Option (ArrayVec ℕ) → List ℕ → Result Line AsmFault
behind_label label [] = Ok (record { label = label; statement = None })
behind_label label (b ∷ text) = with_statement label (statement_of (b ∷ text))

-- what stands behind a name, which is a label then
abbrev pub with_label : Option (ArrayVec ℕ) → List ℕ → Result Line AsmFault
with_label None text = Err faults.Form
with_label (Some name) text = behind_label (Some name) text

-- a line: without its comment, which begins with a semicolon (59), and with a label before a colon (58)
abbrev pub code_of : List ℕ → List ℕ
code_of line = trimmed (before 59 line)

abbrev pub line_of : List ℕ → Result Line AsmFault
line_of line =
    if list_any (λ b. b == 58) (code_of line) then with_label (name_of (before 58 (code_of line))) (trimmed (behind 58 (code_of line)))
    else behind_label None (code_of line)

-- the text of a line's label
abbrev pub label_text : List ℕ → List ℕ
label_text line = before 58 (code_of line)

-- Serves private functions: the label is the line's.
abbrev pub IsNamed : List ℕ → Option (ArrayVec ℕ) → Type 0
IsNamed line label = IfSome label (λ name. name.items ≡ label_text line)
