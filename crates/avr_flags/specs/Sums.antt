-- Sums and differences of bytes.
-- AVR Instruction Set Manual: ADD, ADC, SUB, SUBI, CP, CPI, SBC, SBCI, CPC, NEG.
use Rattle.std.specs.Prelude.{ℕ, Bool, true, ◌+◌, ◌-◌, ◌%◌, ◌==◌, ◌&&◌, ◌||◌, nat_lt, nat_le, ℤ, pos, negsuc, ◌+ℤ◌, ◌-ℤ◌, int_lt}
use Rattle.std.specs.Int.{w8, cast_signed}
use Rattle.avr_flags.specs.Status.{has_bit, with_arithmetic_flags, zero_flag}

-- the number that a byte stands for in two's complement
abbrev pub signed_byte : ℕ → ℤ
signed_byte = cast_signed w8

-- whether a number is outside -128 to 127
abbrev pub leaves_byte : ℤ → Bool
leaves_byte z = int_lt z (negsuc 127) || int_lt (pos 127) z

-- the carry flag as a number
abbrev pub carry_in : ℕ → ℕ
carry_in status = status % 2

-- d + r + c, and SREG after it: H where the sum of the low four bits reaches 16, N and Z of the result,
-- V where the signed sum leaves a byte, C where the sum reaches 256. c is 0 for ADD, and the carry for ADC
unfoldable pub sum_of : ℕ → ℕ → ℕ → ℕ → ℕ × ℕ
sum_of status d r c =
    let value = (d + r + c) % 256 in
    let half = nat_le 16 (d % 16 + r % 16 + c) in
    let signed_sum = signed_byte d +ℤ signed_byte r +ℤ pos c in
    (value, with_arithmetic_flags status half (nat_le 128 value) (value == 0) (leaves_byte signed_sum) (nat_le 256 (d + r + c)))

-- d - r - c, and SREG after it: H where the low four bits need a borrow, N of the result, Z where it is 0 and `z` holds,
-- V where the signed difference leaves a byte, C where the bytes need a borrow
unfoldable pub difference_of : ℕ → ℕ → ℕ → ℕ → Bool → ℕ × ℕ
difference_of status d r c z =
    let value = (d + 256 - (r + c)) % 256 in
    let half = nat_lt (d % 16) (r % 16 + c) in
    let signed_difference = signed_byte d -ℤ signed_byte r -ℤ pos c in
    (value, with_arithmetic_flags status half (nat_le 128 value) (z && (value == 0)) (leaves_byte signed_difference) (nat_lt d (r + c)))

-- SUB, SUBI, CP, CPI, and NEG, where d is 0
abbrev pub sub_of : ℕ → ℕ → ℕ → ℕ × ℕ
sub_of status d r = difference_of status d r 0 true

-- SBC, SBCI, CPC: the carry is subtracted too, and Z stays set only where it was set and the result is 0
abbrev pub sbc_of : ℕ → ℕ → ℕ → ℕ × ℕ
sbc_of status d r = difference_of status d r (carry_in status) (has_bit status zero_flag)
