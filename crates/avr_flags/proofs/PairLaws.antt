-- The carries of a pair's sum or difference, and the byte that stands for a pair where N and Z are read.
use Rattle.std.proofs.Common.{◌≡◌, ◌≢◌, ℕ, ◌+◌, ◌-◌, ◌/◌, ◌%◌, ◌<◌, ◌≤◌, ◌==◌, nat_le, nat_lt, bit_or, bit_xor, pos, ◌+ℤ◌, ◌-ℤ◌, refl, arith}
use Rattle.std.proofs.lemmas.Bool.{agree_below_at}
use Rattle.std.proofs.lemmas.Bool.Decides.{nat_tests}
use Rattle.std.proofs.lemmas.Int.{ints}
use Rattle.std.proofs.lemmas.Nat.{le_or_r}
use Rattle.std.proofs.lemmas.Nat.Bits.{bit_at_xor}
use Rattle.avr_flags.specs.Status.{has_bit, differ}
use Rattle.avr_flags.specs.Pairs.{signed_pair, leaves_pair}

-- the carries into bits 15 and 16, taken to the place of those into bits 7 and 8
pub high_carry : (x : ℕ) → has_bit (x / 256 % 512) 128 ≡ has_bit x 32768
high_carry x = grind (arith, nat_tests)

pub carry_out : (x : ℕ) → has_bit (x / 256 % 512) 256 ≡ has_bit x 65536
carry_out x = grind (arith, nat_tests)

pub sum_carry : (d k : ℕ) → d < 65536 → k ≤ 63 → has_bit (bit_xor d (d + k)) 65536 ≡ nat_le 65536 (d + k)
sum_carry d k hd hk =
    let e : bit_xor d (d + k) / 65536 % 2 ≡ (d / 65536 % 2 + (d + k) / 65536 % 2) % 2 = bit_at_xor d (d + k) 16 in
    grind (arith, nat_tests)

pub sum_overflow : (d k : ℕ) → d < 65536 → k ≤ 63
    → differ (has_bit (bit_xor d (d + k)) 32768) (nat_le 65536 (d + k)) ≡ leaves_pair (signed_pair d +ℤ pos k)
sum_overflow d k hd hk =
    let e : bit_xor d (d + k) / 32768 % 2 ≡ (d / 32768 % 2 + (d + k) / 32768 % 2) % 2 = bit_at_xor d (d + k) 15 in
    grind (arith, nat_tests, ints)

-- a difference with a bit above it that gives what is borrowed
abbrev pub raised : ℕ → ℕ → ℕ
raised d k = 131072 + d - k

pub difference_carry : (d k : ℕ) → d < 65536 → k ≤ 63 → has_bit (bit_xor d (raised d k)) 65536 ≡ nat_lt d k
difference_carry d k hd hk =
    let e : bit_xor d (raised d k) / 65536 % 2 ≡ (d / 65536 % 2 + raised d k / 65536 % 2) % 2 = bit_at_xor d (raised d k) 16 in
    grind (arith, nat_tests)

pub difference_overflow : (d k : ℕ) → d < 65536 → k ≤ 63
    → differ (has_bit (bit_xor d (raised d k)) 32768) (nat_lt d k) ≡ leaves_pair (signed_pair d -ℤ pos k)
difference_overflow d k hd hk =
    let e : bit_xor d (raised d k) / 32768 % 2 ≡ (d / 32768 % 2 + raised d k / 32768 % 2) % 2 = bit_at_xor d (raised d k) 15 in
    grind (arith, nat_tests, ints)

-- the high byte of a pair whose low byte is not 0, with bit 0 set
pub summary_zero : (p : ℕ) → p % 256 ≢ 0 → (bit_or (p / 256) 1 == 0) ≡ (p == 0)
summary_zero p other = grind (arith, nat_tests, le_or_r (p / 256) 1)

pub summary_top : (p : ℕ) → p < 65536 → nat_le 128 (bit_or (p / 256) 1) ≡ nat_le 32768 p
summary_top p lt =
    let high : p / 256 < 256 = omega arith in
    let e : nat_le 128 (bit_or (p / 256) 1) ≡ nat_le 128 (p / 256) = agree_below_at (λ h. nat_le 128 (bit_or h 1)) (λ h. nat_le 128 h) 256 (p / 256) refl high in
    grind (arith, nat_tests)
