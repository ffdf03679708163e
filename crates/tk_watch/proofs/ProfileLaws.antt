-- The counts of the steps of a run, by the address at which they begin.
use Rattle.std.proofs.Common.{◌≡◌, ℕ, zero, suc, ◌+◌, ◌<◌, cond, refl, ap, ap₂}
use Rattle.std.specs.Prelude.{◌==◌, ◌&&◌, nat_lt}
use Rattle.flat_machine.specs.FlatMachine.{Run}
use Rattle.tk_watch.specs.ProfileText.{begins_at, count_text, profile_text, times_at}
use Rattle.tk_watch.proofs.Rows.{rows_same}

-- the same runs have the same steps
pub times_same : (runs others : ℕ → Run) → ((k : ℕ) → runs k ≡ others k) → (a n : ℕ) → times_at runs a n ≡ times_at others a n
times_same runs others same a zero = refl
times_same runs others same a (suc k) =
    let begins : begins_at runs a k ≡ begins_at others a k = ap₂ (λ (r s : Run). nat_lt r.state.now.steps s.state.now.steps && (r.state.now.cpu.pc == a)) (same k) (same (suc k)) in
    ap₂ (λ b t. cond b (t + 1) t) begins (times_same runs others same a k)

-- equal counts are told alike
pub profile_same : (counts others : ℕ → ℕ) → ((a : ℕ) → a < 65536 → counts a ≡ others a) → profile_text counts ≡ profile_text others
profile_same counts others same = rows_same (λ a. count_text a (counts a)) (λ a. count_text a (others a)) 65536 (λ a below. ap (count_text a) (same a below))
