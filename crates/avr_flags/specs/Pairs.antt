-- A constant added to or subtracted from a register pair.
-- AVR Instruction Set Manual: ADIW, SBIW.
use Rattle.std.specs.Prelude.{ℕ, Bool, ◌+◌, ◌-◌, ◌%◌, ◌==◌, ◌||◌, nat_lt, nat_le, ℤ, pos, negsuc, ◌+ℤ◌, ◌-ℤ◌, int_lt}
use Rattle.std.specs.Int.{w16, cast_signed}
use Rattle.avr_flags.specs.Status.{with_bit, with_result_flags, carry}

-- the number that 16 bits stand for in two's complement
abbrev pub signed_pair : ℕ → ℤ
signed_pair = cast_signed w16

-- whether a number is outside -32768 to 32767
abbrev pub leaves_pair : ℤ → Bool
leaves_pair z = int_lt z (negsuc 32767) || int_lt (pos 32767) z

-- this result in a pair, and SREG after it: N and Z of it, V and C as given
unfoldable pub pair_result_of : ℕ → ℕ → Bool → Bool → ℕ × ℕ
pair_result_of status value v c = (value, with_result_flags (with_bit status carry c) (nat_le 32768 value) (value == 0) v)

-- ADIW: V where the signed sum leaves 16 bits, C where the sum reaches 65,536
abbrev pub adiw_of : ℕ → ℕ → ℕ → ℕ × ℕ
adiw_of status d k = pair_result_of status ((d + k) % 65536) (leaves_pair (signed_pair d +ℤ pos k)) (nat_le 65536 (d + k))

-- SBIW: V where the signed difference leaves 16 bits, C where a borrow is needed
abbrev pub sbiw_of : ℕ → ℕ → ℕ → ℕ × ℕ
sbiw_of status d k = pair_result_of status ((d + 65536 - k) % 65536) (leaves_pair (signed_pair d -ℤ pos k)) (nat_lt d k)
