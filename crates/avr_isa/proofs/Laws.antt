-- Laws of instructions, for the crates above.
use Rattle.std.proofs.Common.{◌≡◌, ◌≤◌, ◌==◌, is_none, refl, arith}
use Rattle.avr_isa.specs.declared.form.Form.{Form}
use Rattle.avr_isa.specs.declared.form.Form.TheVariants.{Lds, Sts, Jmp, Call}
use Rattle.avr_isa.specs.Instruction.{size_of}
use Rattle.avr_isa.specs.Encoding.{second_word}

-- an instruction has one word or two
pub size_of-range : (f : Form) → (1 ≤ size_of f) × (size_of f ≤ 2)
unfolding size_of
size_of-range (Lds d a) = (omega arith, omega arith)
size_of-range (Sts a r) = (omega arith, omega arith)
size_of-range (Jmp a) = (omega arith, omega arith)
size_of-range (Call a) = (omega arith, omega arith)
size_of-range _ = (omega arith, omega arith)

-- it has one word where it has no second word
pub size_of-second_word : (f : Form) → is_none (second_word f) ≡ (size_of f == 1)
unfolding size_of second_word
size_of-second_word (Lds d a) = refl
size_of-second_word (Sts a r) = refl
size_of-second_word (Jmp a) = refl
size_of-second_word (Call a) = refl
size_of-second_word _ = refl
