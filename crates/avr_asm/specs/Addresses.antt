-- The lines of a text one behind another: where statements and labels stand, and what is wrong with a line by itself
-- or behind those before it.
use Rattle.std.specs.Prelude.{ℕ, ◌+◌, Bool, false, nat_lt, is_some, if◌then◌else◌, List, [], ◌∷◌, Option, Some, None, Result, Ok, Err, bytes_eq}
use Rattle.arrayvec.specs.ArrayVec.{ArrayVec}
use Rattle.avr_isa.specs.Instruction.{size_of}
use Rattle.avr_asm.specs.declared.fault.AsmFault.{AsmFault}
use Rattle.avr_asm.specs.declared.fault.AsmFault.TheVariants.{Twice, TooLarge}
use Rattle.avr_asm.specs.declared.line.Line.{Line}
use Rattle.avr_asm.specs.declared.mnemonic.Jump.TheVariants.{Jmp, Call}
use Rattle.avr_asm.specs.declared.statement.Statement.{Statement}
use Rattle.avr_asm.specs.declared.statement.Statement.TheVariants.{Ready, To, Word}
use Rattle.avr_asm.specs.SourceLines.{line_of}
use Rattle.hex_image.specs.Image.{most_words}

-- how many words a statement has
abbrev pub words_of_statement : Option Statement → ℕ
words_of_statement None = 0
words_of_statement (Some (Word word)) = 1
words_of_statement (Some (Ready form)) = size_of form
words_of_statement (Some (To Jmp target)) = 2
words_of_statement (Some (To Call target)) = 2
words_of_statement (Some (To kind target)) = 1

-- a label: its name and its address
abbrev pub Label : Type 0
Label = List ℕ × ℕ

-- the address of a name among labels, the first that has it
abbrev pub address_of : List Label → List ℕ → Option ℕ
address_of [] name = None
address_of (label ∷ labels) name = if bytes_eq label.0 name then Some label.1 else address_of labels name

-- behind some lines: the address of the next statement, and the labels so far, the newest first
pub record Place : Type 0 where
  pub at : ℕ
  pub labels : List Label

abbrev pub start : Place
start = record { at = 0; labels = [] }

-- a line's label has the address of the next statement, or the number of words
abbrev pub with_label : Option (ArrayVec ℕ) → Place → List Label
with_label None place = place.labels
with_label (Some name) place = (name.items, place.at) ∷ place.labels

-- behind one line more
abbrev pub behind_line : Place → Result Line AsmFault → Place
behind_line place (Err fault) = place
behind_line place (Ok line) = record { at = place.at + words_of_statement line.statement; labels = with_label line.label place }

abbrev pub after : Place → List ℕ → Place
after place line = behind_line place (line_of line)

-- the line's name was a label before
abbrev pub is_twice : Option (ArrayVec ℕ) → List Label → Bool
is_twice None labels = false
is_twice (Some name) labels = is_some (address_of labels name.items)

-- What is wrong with a line behind others: the first five faults, in their order. An image has at most 24,576 words.
abbrev pub fault_behind : Place → Result Line AsmFault → Option AsmFault
fault_behind place (Err fault) = Some fault
fault_behind place (Ok line) =
    if is_twice line.label place.labels then Some Twice
    else if nat_lt most_words (place.at + words_of_statement line.statement) then Some TooLarge
    else None

abbrev pub fault_at : Place → List ℕ → Option AsmFault
fault_at place line = fault_behind place (line_of line)
