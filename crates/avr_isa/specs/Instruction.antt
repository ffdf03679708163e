-- Which instructions there are: those whose operands are in their ranges, but for the undefined pairs;
-- and the number of their words.
use Rattle.std.specs.Prelude.{ℕ, Bool, not, ◌&&◌, if◌then◌else◌, is_some}
use Rattle.avr_isa.specs.declared.form.Form.{Form}
use Rattle.avr_isa.specs.InstructionTable.{row}
use Rattle.avr_isa.specs.UndefinedPairs.{is_undefined}

-- each operand is in its range
unfoldable pub fields_in_range : Form → Bool
fields_in_range f = (row f).in_range

-- an instruction of the profile
unfoldable pub is_valid : Form → Bool
is_valid f = fields_in_range f && not (is_undefined f)

-- the number of words
unfoldable pub size_of : Form → ℕ
size_of f = if is_some (row f).second then 2 else 1
