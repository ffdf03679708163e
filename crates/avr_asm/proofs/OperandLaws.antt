-- Operands in a row.
use Rattle.std.proofs.Common.{◌≡◌, ℕ, List, [], ◌∷◌, ◌++◌, ap, refl}
use Rattle.std.specs.Prelude.{Option, Some, None, MatchOption}
use Rattle.std.specs.List.{onto_first}
use Rattle.std.specs.Option.{option_and_then}
use Rattle.std.proofs.lemmas.Bool.{eq-eqb, ne_eqb}
use Rattle.text_lines.specs.Cutting.{Lacks}
use Rattle.avr_asm.specs.declared.operand.Operand.{Operand}
use Rattle.avr_asm.specs.declared.operand.Operands.{Operands}
use Rattle.avr_asm.specs.Cuts.{trimmed}
use Rattle.avr_asm.specs.Operands.{operand_of, with_operand, and_operands, parts_of}

parts_last : (byte : ℕ) (text : List ℕ) → Lacks byte text → parts_of byte text ≡ text ∷ []
parts_last byte [] lacks = refl
parts_last byte (b ∷ text) lacks = rw (ne_eqb b byte lacks.0) (ap (onto_first b) (parts_last byte text lacks.1))

parts_cut : (byte : ℕ) (front rest : List ℕ) → Lacks byte front → parts_of byte (front ++ byte ∷ rest) ≡ front ∷ parts_of byte rest
parts_cut byte [] rest lacks = rw (eq-eqb byte byte refl) refl
parts_cut byte (b ∷ front) rest lacks = rw (ne_eqb b byte lacks.0) (ap (onto_first b) (parts_cut byte front rest lacks.1))

-- one part, and the others behind it
pub part_read : (operands : Operands) (rest front behind : List ℕ) {found : Option Operand} → Lacks 44 front → rest ≡ front ++ 44 ∷ behind → found ≡ operand_of (trimmed front)
    → option_and_then (λ operand. and_operands (with_operand operands operand) (parts_of 44 behind)) found ≡ and_operands operands (parts_of 44 rest)
part_read operands rest front behind lacks cut is =
    rw (is, cut, parts_cut 44 front behind lacks) refl

-- the last part
pub last_read : (operands : Operands) (rest : List ℕ) {found : Option Operand} → Lacks 44 rest → found ≡ operand_of (trimmed rest)
    → option_and_then (λ operand. Some (with_operand operands operand)) found ≡ and_operands operands (parts_of 44 rest)
last_read operands rest lacks is =
    rw (is, parts_last 44 rest lacks) refl

-- where there is no answer
pub none_of : {X A : Type 0} (B : X → Type 0) (found : Option X) → MatchOption found A B → ((x : X) → found ≡ Some x → ⊥) → A
none_of B None told none = told
none_of B (Some x) told none = absurd (none x refl)
