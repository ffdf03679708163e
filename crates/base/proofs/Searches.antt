-- A search of which one test is done.
use Rattle.std.proofs.Common.{◌≡◌, ℕ, Bool, true, false, cond, ◌⊎◌, inl, inr, refl}
use Rattle.std.specs.Prelude.{Option, Some}

-- what was found is what was tested, where the test holds, or was found behind it
pub found_first : (test : Bool) (x found : ℕ) (rest : Option ℕ) → cond test (Some x) rest ≡ Some found → ((test ≡ true) × (x ≡ found)) ⊎ (rest ≡ Some found)
found_first true x found rest is = inl (refl, cc)
found_first false x found rest is = inr is
