-- Quiet steps in a row.
use Rattle.std.proofs.Common.{◌≡◌, ℕ, zero, suc, ◌+◌, ◌<◌, ◌≤◌, arith}
use Rattle.mote_core.specs.declared.mote.Mote.{Mote}
use Rattle.mote_core.specs.QuietSteps.{IsQuiet}
use Rattle.inline_laws.specs.InlineWays.{Passes}

-- one more in front
pub then_step : (from to n : ℕ) (last : Mote) {a b : Mote} → IsQuiet a b → (from ≤ a.cpu.pc) × (a.cpu.pc < to) → Passes from to n b last → Passes from to (suc n) a last
then_step from to n last {b = b} quiet inside rest = (b, inside.0, inside.1, quiet, rest)

pub passes_join : (from to n k : ℕ) (a b c : Mote) → Passes from to n a b → Passes from to k b c → Passes from to (n + k) a c
passes_join from to zero k a b c same rest = let e : zero + k ≡ k = omega arith in rw (e, same) rest
passes_join from to (suc n) k a b c (next, above, below, quiet, passes) rest =
    let e : suc n + k ≡ suc (n + k) = omega arith in
    rw e (next, above, below, quiet, passes_join from to n k next b c passes rest)
