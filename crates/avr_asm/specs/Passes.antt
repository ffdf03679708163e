-- Serves private functions: what the two passes leave, line by line.
use Rattle.std.specs.Prelude.{◌≡◌, ℕ, ◌+◌, ◌≤◌, List, ◌++◌, length, Option, Some, None, Ok}
use Rattle.text_lines.specs.Lines.{lines_of}
use Rattle.text_lines.specs.Faults.{after_lines, first_fault}
use Rattle.avr_isa.specs.declared.form.Form.{Form}
use Rattle.avr_isa.specs.Instruction.{size_of}
use Rattle.avr_asm.specs.declared.fault.AsmError.{AsmError}
use Rattle.avr_asm.specs.declared.fault.AsmError.TheVariants.{Bad, NoMemory}
use Rattle.avr_asm.specs.declared.first_pass.Pass.{Pass}
use Rattle.avr_asm.specs.declared.first_pass.Refusal.{Refusal}
use Rattle.avr_asm.specs.declared.first_pass.Refusal.TheVariants as refusals
use Rattle.avr_asm.specs.declared.labels.Labels.{Labels}
use Rattle.avr_asm.specs.declared.line.Line.{Line}
use Rattle.avr_asm.specs.declared.statement.Statement.{Statement}
use Rattle.avr_asm.specs.SourceLines.{line_of}
use Rattle.avr_asm.specs.Addresses.{Label, Place, start, after, fault_at, words_of_statement}
use Rattle.avr_asm.specs.Targets.{fault_of_line, fault_of_statement, target_fault_at}
use Rattle.avr_asm.specs.AsmText.{AreLines, AsmText, IsInstruction, IsStatement, labels_of}
use Rattle.avr_asm.specs.Labels.{HasLabels}
use Rattle.hex_image.specs.Image.{most_words}

-- The first pass. ----------------------------------------------------------------------------------

-- a pass is at a place
pub record IsAt (place : Place) (pass : Pass) : Type 0 where
  pub at_is : pass.at ≡ place.at
  pub labels_are : HasLabels pass.labels place.labels

-- a line was taken, wherever the pass was
abbrev pub IsTaken : List ℕ → Pass → Pass → Type 0
IsTaken line old new = (place : Place) → IsAt place old → (fault_at place line ≡ None) × IsAt (after place line) new × (new.at ≤ most_words)

abbrev pub IsRefused : List ℕ → Pass → Refusal → Type 0
IsRefused line old refusals.NoMemory = Unit {0}
IsRefused line old (refusals.Fault fault) = (place : Place) → IsAt place old → fault_at place line ≡ Some fault

-- what the lines of a text come to, from a place before the rest of them
pub record IsFirstPart (text rest : List ℕ) (number : ℕ) (pass : Pass) : Type 0 where
  pub place : Place
  pub is : IsAt place pass
  pub few : pass.at ≤ most_words
  pub faults : first_fault fault_at after (number + 1) place (lines_of rest) ≡ first_fault fault_at after 1 start (lines_of text)
  pub ends : after_lines after place (lines_of rest) ≡ after_lines after start (lines_of text)

-- the whole text
pub record IsPassed (text : List ℕ) (pass : Pass) : Type 0 where
  pub sound : first_fault fault_at after 1 start (lines_of text) ≡ None
  pub is : IsAt (after_lines after start (lines_of text)) pass
  pub few : pass.at ≤ most_words

abbrev pub IsFirstRefusal : List ℕ → AsmError → Type 0
IsFirstRefusal text (Bad line fault) = first_fault fault_at after 1 start (lines_of text) ≡ Some (line, fault)
IsFirstRefusal text NoMemory = Unit {0}

-- The second pass. ---------------------------------------------------------------------------------

-- an instruction's words were added; whatever is added later, they stand there
pub record IsAddedInstruction (form : Form) (old new : List ℕ) : Type 0 where
  pub code : List ℕ
  pub joined : new ≡ old ++ code
  pub size : length new ≡ length old + size_of form
  pub stands : (more : List ℕ) → IsInstruction (new ++ more) (length old) form

-- a statement's
pub record IsAdded (labels : List Label) (statement : Option Statement) (old new : List ℕ) : Type 0 where
  pub code : List ℕ
  pub joined : new ≡ old ++ code
  pub size : length new ≡ length old + words_of_statement statement
  pub stands : (more : List ℕ) → IsStatement labels (new ++ more) (length old) statement
  pub sound : fault_of_statement labels (length old) statement ≡ None

abbrev pub IsStatementRefused : Labels → ℕ → Option Statement → Refusal → Type 0
IsStatementRefused labels pc statement refusals.NoMemory = Unit {0}
IsStatementRefused labels pc statement (refusals.Fault fault) = (list : List Label) → HasLabels labels list → fault_of_statement list pc statement ≡ Some fault

-- a line's
pub record IsLineAdded (labels : List Label) (text old new : List ℕ) : Type 0 where
  pub line : Line
  pub line_is : line_of text ≡ Ok line
  pub added : IsAdded labels line.statement old new

abbrev pub IsLineRefused : Labels → ℕ → List ℕ → Refusal → Type 0
IsLineRefused labels pc text refusals.NoMemory = Unit {0}
IsLineRefused labels pc text (refusals.Fault fault) = (list : List Label) → HasLabels labels list → fault_of_line list pc (line_of text) ≡ Some fault

-- what the lines of a text come to, from a place before the rest of them
pub record IsSecondPart (text rest : List ℕ) (number : ℕ) (words : List ℕ) : Type 0 where
  pub place : Place
  pub at_is : length words ≡ place.at
  pub faults : first_fault (target_fault_at (labels_of text)) after (number + 1) place (lines_of rest) ≡ first_fault (target_fault_at (labels_of text)) after 1 start (lines_of text)
  pub ends : after_lines after place (lines_of rest) ≡ after_lines after start (lines_of text)
  pub onward : (more : List ℕ) → AreLines (labels_of text) (words ++ more) place (lines_of rest) → AreLines (labels_of text) (words ++ more) start (lines_of text)

-- the whole text
pub record IsAssembled (text words : List ℕ) : Type 0 where
  pub sound : first_fault (target_fault_at (labels_of text)) after 1 start (lines_of text) ≡ None
  pub words_are : AsmText text words
  pub size : length words ≡ (after_lines after start (lines_of text)).at

abbrev pub IsSecondRefusal : List ℕ → AsmError → Type 0
IsSecondRefusal text (Bad line fault) = first_fault (target_fault_at (labels_of text)) after 1 start (lines_of text) ≡ Some (line, fault)
IsSecondRefusal text NoMemory = Unit {0}
