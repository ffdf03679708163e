-- Products of two bytes.
-- AVR Instruction Set Manual: MUL, MULS, MULSU, FMUL, FMULS, FMULSU.
use Rattle.std.specs.Prelude.{ℕ, ◌%◌, ◌*◌, ◌==◌, nat_le, pos, ◌*ℤ◌}
use Rattle.std.specs.Int.{w16, cast_unsigned}
use Rattle.avr_flags.specs.Status.{with_bit, carry, zero_flag}
use Rattle.avr_flags.specs.Sums.{signed_byte}

-- a product of two signed bytes in 16 bits of two's complement
abbrev pub signed_product : ℕ → ℕ → ℕ
signed_product d r = cast_unsigned w16 (signed_byte d *ℤ signed_byte r)

-- a product of a signed byte d and an unsigned byte r in 16 bits of two's complement
abbrev pub mixed_product : ℕ → ℕ → ℕ
mixed_product d r = cast_unsigned w16 (signed_byte d *ℤ pos r)

-- a product given as this value, and SREG after it: C is bit 15 of the product, Z is set where the value is 0
unfoldable pub product_result_of : ℕ → ℕ → ℕ → ℕ × ℕ
product_result_of status product value = (value, with_bit (with_bit status zero_flag (value == 0)) carry (nat_le 32768 product))

-- MUL, MULS, MULSU: a product as it is
abbrev pub whole_of : ℕ → ℕ → ℕ × ℕ
whole_of status product = product_result_of status product product

-- FMUL, FMULS, FMULSU: a product shifted left by one
abbrev pub fractional_of : ℕ → ℕ → ℕ × ℕ
fractional_of status product = product_result_of status product (product * 2 % 65536)
