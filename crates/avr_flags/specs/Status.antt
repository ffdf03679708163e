-- The status register SREG: its flags by the weights of their bits, one of them read, one of them made.
-- AVR Instruction Set Manual, "Instruction Set Nomenclature", "Status Register (SREG)".
use Rattle.std.specs.Prelude.{ℕ, Bool, not, ◌+◌, ◌-◌, ◌*◌, ◌/◌, ◌%◌, ◌==◌, ◌||◌, if◌then◌else◌}

-- the flags of SREG by the weights of their bits: carry, zero, negative, two's complement overflow, sign,
-- half carry, transfer bit, global interrupt enable
abbrev pub carry : ℕ
carry = 1

abbrev pub zero_flag : ℕ
zero_flag = 2

abbrev pub negative : ℕ
negative = 4

abbrev pub overflow : ℕ
overflow = 8

abbrev pub sign : ℕ
sign = 16

abbrev pub half_carry : ℕ
half_carry = 32

abbrev pub transfer : ℕ
transfer = 64

abbrev pub interrupts : ℕ
interrupts = 128

-- whether a number is the weight of a bit of a byte
abbrev pub is_weight : ℕ → Bool
is_weight w = w == 1 || w == 2 || w == 4 || w == 8 || w == 16 || w == 32 || w == 64 || w == 128

-- whether the bit of this weight is set
abbrev pub has_bit : ℕ → ℕ → Bool
has_bit n weight = n / weight % 2 == 1

-- the number with its bit of this weight made `v`
abbrev pub with_bit : ℕ → ℕ → Bool → ℕ
with_bit n weight v = n - n / weight % 2 * weight + (if v then weight else 0)

-- whether one of two bits is set and the other is not
abbrev pub differ : Bool → Bool → Bool
differ a b = if a then not b else b

-- SREG with N, Z and V made so, and S made N xor V
unfoldable pub with_result_flags : ℕ → Bool → Bool → Bool → ℕ
with_result_flags status n z v =
    with_bit (with_bit (with_bit (with_bit status sign (differ n v)) overflow v) negative n) zero_flag z

-- SREG with H and C made so too
abbrev pub with_arithmetic_flags : ℕ → Bool → Bool → Bool → Bool → Bool → ℕ
with_arithmetic_flags status h n z v c = with_bit (with_bit (with_result_flags status n z v) half_carry h) carry c
