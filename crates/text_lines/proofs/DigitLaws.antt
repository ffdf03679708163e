-- Digits of a base up to 16, read one by one.
use Rattle.std.proofs.Common.{ℕ, zero, suc, ◌+◌, ◌*◌, ◌^◌, ◌<◌, ◌≤◌, List, [], ◌∷◌, length, get_or, arith}
use Rattle.std.proofs.Math.Nat.{mul-le-mul_left, pow-le-pow_right}
use Rattle.std.proofs.lemmas.Grind.{pow_more}
use Rattle.std.specs.Char.{digit_value}
use Rattle.std.specs.Str.Parse.{AllDigits}

-- one digit more
pub number_grows : (v r d i : ℕ) → v < 16 ^ i → d < r → r ≤ 16 → v * r + d < 16 ^ (i + 1)
number_grows v r d i small digit base =
    omega (arith, mul-le-mul_left (v + 1) base, pow_more 16 i)

-- ten digits fit
pub ten_digits_fit : (v r d i : ℕ) → v < 16 ^ i → d < r → r ≤ 16 → i < 10 → v * r + d < 2 ^ 40
ten_digits_fit v r d i small digit base few =
    let grown = number_grows v r d i small digit base in
    let most : 16 ^ (i + 1) ≤ 16 ^ 10 = pow-le-pow_right {n = 16} (omega arith) {i = i + 1} {j = 10} (omega arith) in
    omega (arith, grown, most)

pub digit_at : (radix : ℕ) (text : List ℕ) (i : ℕ) → AllDigits radix text → i < length text → digit_value (get_or text i 0) < radix
digit_at radix [] i digits below = absurd (omega arith)
digit_at radix (b ∷ text) zero digits below = digits.0
digit_at radix (b ∷ text) (suc i) digits below = digit_at radix text i digits.1 (omega arith)
