-- The carries between the bits of a sum or a difference, and the flags that they tell.
use Rattle.std.proofs.Common.{◌≡◌, ℕ, ◌+◌, ◌-◌, ◌*◌, ◌/◌, ◌%◌, ◌<◌, ◌≤◌, ◌==◌, nat_le, nat_lt, true, bit_and, bit_or, bit_xor, pos, ◌+ℤ◌, ◌-ℤ◌, refl, arith}
use Rattle.std.specs.Int.{bit_at}
use Rattle.std.proofs.lemmas.Bool.Decides.{nat_tests}
use Rattle.std.proofs.lemmas.Int.{ints}
use Rattle.std.proofs.lemmas.Nat.Bits.{bit_at_xor}
use Rattle.avr_flags.specs.Status.{has_bit, with_bit, carry, zero_flag, differ, with_result_flags, with_arithmetic_flags}
use Rattle.avr_flags.specs.Sums.{signed_byte, leaves_byte, sum_of, difference_of}
use Rattle.avr_flags.specs.Logic.{shift_of}
use Rattle.avr_flags.proofs.TableLaws.{zero_kept}

-- the bits that came into each bit of d + r or d - r from below, where the result is w
abbrev pub carries_of : ℕ → ℕ → ℕ → ℕ
carries_of d r w = bit_xor (bit_xor d r) w

carry_at : (d r w i : ℕ) → bit_at (carries_of d r w) i ≡ (bit_at d i + bit_at r i + bit_at w i) % 2
carry_at d r w i =
    let outer : bit_at (carries_of d r w) i ≡ (bit_at (bit_xor d r) i + bit_at w i) % 2 = bit_at_xor (bit_xor d r) w i in
    let inner : bit_at (bit_xor d r) i ≡ (bit_at d i + bit_at r i) % 2 = bit_at_xor d r i in
    omega arith

sum_half : (d r c : ℕ) → c ≤ 1 → has_bit (carries_of d r (d + r + c)) 16 ≡ nat_le 16 (d % 16 + r % 16 + c)
sum_half d r c bit =
    let e : carries_of d r (d + r + c) / 16 % 2 ≡ (d / 16 % 2 + r / 16 % 2 + (d + r + c) / 16 % 2) % 2 = carry_at d r (d + r + c) 4 in
    grind (arith, nat_tests)

sum_carry : (d r c : ℕ) → d < 256 → r < 256 → c ≤ 1 → has_bit (carries_of d r (d + r + c)) 256 ≡ nat_le 256 (d + r + c)
sum_carry d r c hd hr bit =
    let e : carries_of d r (d + r + c) / 256 % 2 ≡ (d / 256 % 2 + r / 256 % 2 + (d + r + c) / 256 % 2) % 2 = carry_at d r (d + r + c) 8 in
    grind (arith, nat_tests)

sum_overflow : (d r c : ℕ) → d < 256 → r < 256 → c ≤ 1
    → differ (has_bit (carries_of d r (d + r + c)) 128) (nat_le 256 (d + r + c)) ≡ leaves_byte (signed_byte d +ℤ signed_byte r +ℤ pos c)
sum_overflow d r c hd hr bit =
    let e : carries_of d r (d + r + c) / 128 % 2 ≡ (d / 128 % 2 + r / 128 % 2 + (d + r + c) / 128 % 2) % 2 = carry_at d r (d + r + c) 7 in
    grind (arith, nat_tests, ints)

-- a sum and SREG after it, by its carries
pub sum_told : (s d r c : ℕ) → d < 256 → r < 256 → c ≤ 1
    → (
      (d + r + c) % 256,
      with_arithmetic_flags s (has_bit (carries_of d r (d + r + c)) 16) (nat_le 128 ((d + r + c) % 256)) ((d + r + c) % 256 == 0)
          (differ (has_bit (carries_of d r (d + r + c)) 128) (has_bit (carries_of d r (d + r + c)) 256)) (has_bit (carries_of d r (d + r + c)) 256),
    )
    ≡ sum_of s d r c
unfolding sum_of
sum_told s d r c hd hr bit = rw (sum_half d r c bit, sum_carry d r c hd hr bit, sum_overflow d r c hd hr bit) refl

-- a difference with a bit above it that gives what is borrowed: the carries are then borrows
abbrev pub raised : ℕ → ℕ → ℕ → ℕ
raised d r c = 512 + d - r - c

difference_half : (d r c : ℕ) → r < 256 → c ≤ 1 → has_bit (carries_of d r (raised d r c)) 16 ≡ nat_lt (d % 16) (r % 16 + c)
difference_half d r c hr bit =
    let e : carries_of d r (raised d r c) / 16 % 2 ≡ (d / 16 % 2 + r / 16 % 2 + raised d r c / 16 % 2) % 2 = carry_at d r (raised d r c) 4 in
    grind (arith, nat_tests)

difference_carry : (d r c : ℕ) → d < 256 → r < 256 → c ≤ 1 → has_bit (carries_of d r (raised d r c)) 256 ≡ nat_lt d (r + c)
difference_carry d r c hd hr bit =
    let e : carries_of d r (raised d r c) / 256 % 2 ≡ (d / 256 % 2 + r / 256 % 2 + raised d r c / 256 % 2) % 2 = carry_at d r (raised d r c) 8 in
    grind (arith, nat_tests)

difference_overflow : (d r c : ℕ) → d < 256 → r < 256 → c ≤ 1
    → differ (has_bit (carries_of d r (raised d r c)) 128) (nat_lt d (r + c)) ≡ leaves_byte (signed_byte d -ℤ signed_byte r -ℤ pos c)
difference_overflow d r c hd hr bit =
    let e : carries_of d r (raised d r c) / 128 % 2 ≡ (d / 128 % 2 + r / 128 % 2 + raised d r c / 128 % 2) % 2 = carry_at d r (raised d r c) 7 in
    grind (arith, nat_tests, ints)

raised_byte : (d r c : ℕ) → d < 256 → r < 256 → c ≤ 1 → raised d r c % 256 ≡ (d + 256 - (r + c)) % 256
raised_byte d r c hd hr bit = omega arith

-- a difference and SREG after it, by its borrows
pub difference_told : (s d r c : ℕ) → d < 256 → r < 256 → c ≤ 1
    → (
      raised d r c % 256,
      with_arithmetic_flags s (has_bit (carries_of d r (raised d r c)) 16) (nat_le 128 (raised d r c % 256)) (raised d r c % 256 == 0)
          (differ (has_bit (carries_of d r (raised d r c)) 128) (has_bit (carries_of d r (raised d r c)) 256)) (has_bit (carries_of d r (raised d r c)) 256),
    )
    ≡ difference_of s d r c true
unfolding difference_of
difference_told s d r c hd hr bit =
    rw (difference_half d r c hr bit, difference_carry d r c hd hr bit, difference_overflow d r c hd hr bit, raised_byte d r c hd hr bit) refl

-- the mask of SBC: Z stays set only where it was set
pub zero_kept_by_difference : (s d r c : ℕ) → s < 256
    → ((difference_of s d r c true).0, bit_and (difference_of s d r c true).1 (bit_or s 253)) ≡ difference_of s d r c (has_bit s zero_flag)
unfolding difference_of
zero_kept_by_difference s d r c lt =
    rw (zero_kept s _ _ _ _ _ lt) refl

-- a shift's C as the carry into bit 8, and N as the one into bit 7
abbrev pub shifted_out : ℕ → ℕ → ℕ
shifted_out d value = d % 2 * 256 + value

pub shift_told : (s d top : ℕ) → d < 256 → top ≤ 1
    → (let value = d / 2 + 128 * top in
    (value, with_result_flags (with_bit s carry (has_bit (shifted_out d value) 256)) (nat_le 128 value) (value == 0) (differ (has_bit (shifted_out d value) 128) (has_bit (shifted_out d value) 256)))
    ≡ shift_of s d top)
unfolding shift_of
shift_told s d top lt bit =
    let value : ℕ = d / 2 + 128 * top in
    let n : has_bit (shifted_out d value) 128 ≡ nat_le 128 value = grind (arith, nat_tests) in
    let c : has_bit (shifted_out d value) 256 ≡ has_bit d 1 = grind (arith, nat_tests) in
    rw (n, c) refl
