-- A byte as a result: of bitwise operations, of counting by one, and of shifts.
-- AVR Instruction Set Manual: AND, ANDI, OR, ORI, EOR, COM, INC, DEC, LSR, ROR, ASR.
use Rattle.std.specs.Prelude.{ℕ, Bool, ◌+◌, ◌*◌, ◌/◌, ◌==◌, nat_le}
use Rattle.avr_flags.specs.Status.{has_bit, with_bit, differ, with_result_flags, carry}

-- this result, and SREG after it: N and Z of it, V as given; C and H stay
abbrev pub result_of : ℕ → ℕ → Bool → ℕ × ℕ
result_of status value v = (value, with_result_flags status (nat_le 128 value) (value == 0) v)

-- d shifted to the right by one, with this bit coming in at the top, and SREG after it: N and Z of the result,
-- C the bit that left, V is N xor C
unfoldable pub shift_of : ℕ → ℕ → ℕ → ℕ × ℕ
shift_of status d top =
    let value = d / 2 + 128 * top in
    let c = has_bit d 1 in
    result_of (with_bit status carry c) value (differ (nat_le 128 value) c)
