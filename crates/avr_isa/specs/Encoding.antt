-- The words of an instruction, which its row has, and what words mean.
use Rattle.std.specs.Prelude.{◌≡◌, ℕ, IsTrue, Option, Some, MatchOption, IfSome, ⊤}
use Rattle.avr_isa.specs.declared.form.Form.{Form}
use Rattle.avr_isa.specs.Instruction.{is_valid, size_of}
use Rattle.avr_isa.specs.InstructionTable.{row}

-- the first word
unfoldable pub first_word : Form → ℕ
first_word f = (row f).first

-- the second word, where the instruction has one: a data address, or a word of the program
unfoldable pub second_word : Form → Option ℕ
second_word f = (row f).second

-- These are the words of the form. Where it has one word, the second is that of what follows.
pub record IsRow (f : Form) (first second : ℕ) : Type 0 where
  pub opcode : first ≡ first_word f
  pub address : MatchOption (second_word f) ⊤ (λ a. second ≡ a)

-- a first word of the instructions of two words
abbrev pub BeginsTwoWords : ℕ → Type 0
BeginsTwoWords w = (f : Form) × (IsTrue (is_valid f) × (size_of f ≡ 2) × (w ≡ first_word f))

-- What two words mean: the one valid form that has them, or none where no valid form has them.
pub record IsDecoded (first second : ℕ) (result : Option Form) : Type 0 where
  pub row : IfSome result (λ f. IsTrue (is_valid f) × IsRow f first second)
  pub only : (f : Form) → IsTrue (is_valid f) → IsRow f first second → result ≡ Some f
