-- What is wrong with a text, and which words a text without a fault has.
use Rattle.std.specs.Prelude.{◌≡◌, ℕ, ◌+◌, ◌≤◌, List, [], ◌∷◌, length, slice_get, codes, Option, Some, None}
use Rattle.std.specs.Option.{option_or}
use Rattle.std.specs.Result.{IsOkAnd}
use Rattle.text_lines.specs.Lines.{lines_of}
use Rattle.text_lines.specs.Faults.{after_lines, first_fault}
use Rattle.avr_isa.specs.declared.form.Form.{Form}
use Rattle.avr_isa.specs.Encoding.{IsDecoded}
use Rattle.avr_isa.specs.Image.{word}
use Rattle.avr_isa.specs.Instruction.{size_of}
use Rattle.avr_asm.specs.declared.fault.AsmFault.{AsmFault}
use Rattle.avr_asm.specs.declared.fault.AsmFault.TheVariants as faults
use Rattle.avr_asm.specs.declared.fault.AsmError.{AsmError}
use Rattle.avr_asm.specs.declared.fault.AsmError.TheVariants.{Bad, NoMemory}
use Rattle.avr_asm.specs.declared.statement.Statement.{Statement}
use Rattle.avr_asm.specs.declared.statement.Statement.TheVariants.{Ready, To, Word}
use Rattle.avr_asm.specs.SourceLines.{line_of}
use Rattle.avr_asm.specs.Addresses.{Label, Place, start, after, fault_at}
use Rattle.avr_asm.specs.Targets.{jump_of, target_fault_at}

-- the labels of a text
abbrev pub labels_of : List ℕ → List Label
labels_of text = (after_lines after start (lines_of text)).labels

-- the first of the first five faults; only where there is none, the first of the other two. Lines are counted from 1.
abbrev pub fault_of : List ℕ → Option (ℕ × AsmFault)
fault_of text =
    option_or (first_fault fault_at after 1 start (lines_of text))
    (first_fault (target_fault_at (labels_of text)) after 1 start (lines_of text))

-- the words at an address mean this instruction
pub record IsInstruction (words : List ℕ) (at : ℕ) (form : Form) : Type 0 where
  pub inside : at + size_of form ≤ length words
  pub decoded : IsDecoded (word words at) (word words (at + 1)) (Some form)

-- a statement stands at an address
abbrev pub IsStatement : List Label → (words : List ℕ) → ℕ → Option Statement → Type 0
IsStatement labels words at None = Unit {0}
IsStatement labels words at (Some (Ready form)) = IsInstruction words at form
IsStatement labels words at (Some (To jump target)) = IsOkAnd (jump_of labels at jump target) (IsInstruction words at)
IsStatement labels words at (Some (Word n)) = slice_get words at ≡ Some n

-- each statement of the lines from a place on stands behind the one before, and there are no other words
abbrev pub AreLines : List Label → (words : List ℕ) → Place → List (List ℕ) → Type 0
AreLines labels words place [] = length words ≡ place.at
AreLines labels words place (line ∷ lines) =
    IsOkAnd (line_of line) (λ said. IsStatement labels words place.at said.statement) × AreLines labels words (after place line) lines

-- The words of a text: each instruction's words decode to the instruction that the table gives for its line, where
-- names stand for the addresses of labels; statements stand one behind another from word 0 on.
abbrev pub AsmText : (text words : List ℕ) → Type 0
AsmText text words = AreLines (labels_of text) words start (lines_of text)

-- the text was refused for its first fault; for want of memory always
abbrev pub IsRefusal : (text : List ℕ) → AsmError → Type 0
IsRefusal text (Bad line fault) = fault_of text ≡ Some (line, fault)
IsRefusal text NoMemory = Unit {0}

-- the word by which a fault is told
abbrev pub asm_word : AsmFault → List ℕ
asm_word faults.Form = codes "form"
asm_word faults.Mnemonic = codes "mnemonic"
asm_word faults.Range = codes "range"
asm_word faults.Twice = codes "twice"
asm_word faults.TooLarge = codes "size"
asm_word faults.Label = codes "label"
asm_word faults.Reach = codes "reach"
