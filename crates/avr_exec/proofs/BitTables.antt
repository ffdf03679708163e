-- One bit of a byte set or cleared by the bitwise operations.
use Rattle.std.proofs.Common.{◌≡◌, ℕ, ◌<◌, ◌-◌, ◌^◌, true, false, bit_and, bit_or, refl}
use Rattle.std.proofs.lemmas.Bool.{agree_below_at}
use Rattle.avr_flags.specs.Status.{is_weight, with_bit}
use Rattle.avr_flags.proofs.StatusTables.{set_flag}

-- each bit of a byte has a weight
weighs : (b : ℕ) → b < 8 → is_weight (2 ^ b) ≡ true
weighs b lt = agree_below_at (λ k. is_weight (2 ^ k)) (λ _. true) 8 b refl lt

pub set_bit : (n b : ℕ) → n < 256 → b < 8 → bit_or n (2 ^ b) ≡ with_bit n (2 ^ b) true
set_bit n b fits lt = set_flag n (2 ^ b) true fits (weighs b lt)

pub clear_bit : (n b : ℕ) → n < 256 → b < 8 → bit_and n (255 - 2 ^ b) ≡ with_bit n (2 ^ b) false
clear_bit n b fits lt = set_flag n (2 ^ b) false fits (weighs b lt)
