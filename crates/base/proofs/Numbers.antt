-- Order among numbers.
use Rattle.std.proofs.Common.{ℕ, ◌<◌, ◌≤◌, arith}
use Rattle.std.specs.Prelude.{◌≢◌}

-- a number that is at most another, and isn't that one, is less
pub unequal : (a b : ℕ) → a ≢ b → b ≤ a → b < a
unequal a b apart above = omega arith
