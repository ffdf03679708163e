-- Operands as they are written.
use Rattle.std.specs.Prelude.{ℕ, ◌&&◌, ◌||◌, ◌==◌, Bool, false, nat_lt, nat_eq, not, is_some, if◌then◌else◌, List, [], ◌∷◌, length, map, drop, codes, Option, Some, None}
use Rattle.std.specs.Option.{option_and_then, option_map, option_or}
use Rattle.std.specs.Char.{is_ascii_alphabetic, is_ascii_alphanumeric}
use Rattle.std.specs.List.{list_all, starts_with, onto_first}
use Rattle.avr_isa.specs.declared.operation.Base.TheVariants as bases
use Rattle.avr_asm.specs.Cuts.{found_in, trimmed}
use Rattle.avr_asm.specs.Numbers.{number_of}
use Rattle.avr_asm.specs.declared.operand.Pointer.{Pointer}
use Rattle.avr_asm.specs.declared.operand.Operand.{Operand}
use Rattle.avr_asm.specs.declared.operand.Operand.TheVariants as operand
use Rattle.avr_asm.specs.declared.operand.Operands.{Operands}
use Rattle.avr_asm.specs.declared.operand.Operands.TheVariants.{Zero, One, Two, More}
use Rattle.avr_asm.specs.declared.operand.TheConstants.{REGISTERS, POINTERS}
use Rattle.arrayvec.specs.ArrayVec.{ArrayVec}

-- the number of the register that a text names
unfoldable pub register_of : List ℕ → Option ℕ
register_of text = found_in (map (λ row. (row.0.now, row.1)) REGISTERS) text

-- the pointer that a text writes
unfoldable pub pointer_of : List ℕ → Option Pointer
pointer_of text = found_in (map (λ row. (row.0.now, row.1)) POINTERS) text

-- the number behind this front of a text
abbrev pub number_behind : List ℕ → List ℕ → Option ℕ
number_behind front text = if starts_with nat_eq text front then number_of (drop (length front) text) else None

-- a name may begin with a letter or _ (95)
abbrev pub is_first : ℕ → Bool
is_first b = is_ascii_alphabetic b || (b == 95)

-- and go on with these and digits
abbrev pub is_inner : ℕ → Bool
is_inner b = is_ascii_alphanumeric b || (b == 95)

-- a letter or _, then letters, digits or _, at most 64 bytes
abbrev pub is_word : List ℕ → Bool
is_word [] = false
is_word (b ∷ text) = nat_lt (length text) 64 && is_first b && list_all is_inner text

-- a name is no register, and none of X, Y and Z
unfoldable pub is_name : List ℕ → Bool
is_name text = is_word text && not (is_some (register_of text)) && not (is_some (pointer_of text))

-- the name that a text is
unfoldable pub name_of : List ℕ → Option (ArrayVec ℕ)
name_of text = if is_name text then Some (record { items = text }) else None

-- the operand that a text writes; no text is of two of these kinds
unfoldable pub operand_of : List ℕ → Option Operand
operand_of text =
    option_or (option_map (λ register. operand.Register register) (register_of text))
    (option_or (option_map (λ pointer. operand.Pointer pointer) (pointer_of text))
    (option_or (option_map (λ number. operand.Number number) (number_of text))
    (option_or (option_map (λ q. operand.Displaced bases.Y q) (number_behind (codes "Y+") text))
    (option_or (option_map (λ q. operand.Displaced bases.Z q) (number_behind (codes "Z+") text))
    (option_map (λ name. operand.Name name) (name_of text))))))

-- with one operand more
abbrev pub with_operand : Operands → Operand → Operands
with_operand Zero operand = One operand
with_operand (One first) operand = Two first operand
with_operand (Two first second) operand = More
with_operand More operand = More

-- the parts of a text that has a byte between each two
abbrev pub parts_of : ℕ → List ℕ → List (List ℕ)
parts_of byte [] = [] ∷ []
parts_of byte (b ∷ text) = if b == byte then [] ∷ parts_of byte text else onto_first b (parts_of byte text)

-- operands and those that texts write, none where one of the texts writes none
abbrev pub and_operands : Operands → List (List ℕ) → Option Operands
and_operands operands [] = Some operands
and_operands operands (text ∷ texts) = option_and_then (λ operand. and_operands (with_operand operands operand) texts) (operand_of (trimmed text))

-- the operands that a text writes, with commas (44) between them and blanks around them
abbrev pub operands_of : List ℕ → Option Operands
operands_of [] = Some Zero
operands_of (b ∷ text) = and_operands Zero (parts_of 44 (b ∷ text))
