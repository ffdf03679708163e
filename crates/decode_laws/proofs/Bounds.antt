-- What the range of an instruction's operands says of them.
use Rattle.std.proofs.Common.{◌≡◌, ℕ, ◌+◌, ◌-◌, ◌*◌, ◌/◌, ◌<◌, ◌&&◌, IsTrue, arith}
use Rattle.std.proofs.lemmas.Bool.{and_parts}
use Rattle.std.proofs.lemmas.Bool.Decides.{nat_tests}
use Rattle.std.specs.Prelude.{nat_lt}
use Rattle.avr_isa.specs.declared.form.Form.{Form}
use Rattle.avr_isa.specs.InstructionTable.{two_pairs, two_high_registers, pair_and_six_bits}
use Rattle.avr_isa.specs.Instruction.{fields_in_range, is_valid}

pub fields_fit : (f : Form) → IsTrue (is_valid f) → IsTrue (fields_in_range f)
unfolding is_valid
fields_fit f valid = (and_parts _ _ valid).0

pub is_below : (n a : ℕ) → IsTrue (nat_lt a n) → a < n
is_below n a h = grind (arith, nat_tests)

pub both_below : (n m a b : ℕ) → IsTrue (nat_lt a n && nat_lt b m) → (a < n) × (b < m)
both_below n m a b h =
    let parts = and_parts _ _ h in
    (is_below n a parts.0, is_below m b parts.1)

-- one of the first `n` numbers from `low` on, each `step` above the last
abbrev pub Among : (low step n a : ℕ) → Type 0
Among low step n a = (i : ℕ) × (i < n) × (low + step * i ≡ a)

pub even_among : (d r : ℕ) → IsTrue (two_pairs 0 d r).in_range → Among 0 2 16 d × Among 0 2 16 r
even_among d r h = ((d / 2, grind (arith, nat_tests), grind (arith, nat_tests)), (r / 2, grind (arith, nat_tests), grind (arith, nat_tests)))

pub high_among : (n opcode d r : ℕ) → IsTrue (two_high_registers (16 + n) opcode d r).in_range → Among 16 1 n d × Among 16 1 n r
high_among n opcode d r h = ((d - 16, grind (arith, nat_tests), grind (arith, nat_tests)), (r - 16, grind (arith, nat_tests), grind (arith, nat_tests)))

pub pair_among : (opcode p k : ℕ) → IsTrue (pair_and_six_bits opcode p k).in_range → Among 24 2 4 p × Among 0 1 64 k
pair_among opcode p k h = (((p - 24) / 2, grind (arith, nat_tests), grind (arith, nat_tests)), (k, grind (arith, nat_tests), omega arith))
