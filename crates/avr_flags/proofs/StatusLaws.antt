-- The flag that BRLO and BRSH test after SUB and CPI.
use Rattle.std.proofs.Common.{◌≡◌, ℕ, ◌+◌, nat_lt, Bool, true, false, arith}
use Rattle.std.proofs.lemmas.Bool.Decides.{nat_tests}
use Rattle.avr_flags.specs.Status.{has_bit, with_bit, carry}
use Rattle.avr_flags.specs.Sums.{difference_of}

-- C just made reads so in a number of any size
carry_made : (n : ℕ) (v : Bool) → has_bit (with_bit n carry v) carry ≡ v
carry_made n true = grind (arith, nat_tests)
carry_made n false = grind (arith, nat_tests)

-- C after a difference, which BRLO and BRSH test
pub carry-difference_of : (status d r c : ℕ) (z : Bool) → has_bit (difference_of status d r c z).1 carry ≡ nat_lt d (r + c)
unfolding difference_of
carry-difference_of status d r c z = carry_made _ (nat_lt d (r + c))
