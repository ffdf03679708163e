-- What equal numbers in a list are: so many, and each the same.
use Rattle.std.proofs.Common.{◌≡◌, ℕ, ◌*◌, ◌<◌, List, [], ◌∷◌, length, get_or, arith, refl}
use Rattle.std.specs.Prelude.{flat_map}
use Rattle.std.proofs.lemmas.List.{length-replicate, get_or-replicate}
use Rattle.base.specs.Lists.{many}

pub length-many : (n w : ℕ) → length (many n w) ≡ n
unfolding many
length-many n w = length-replicate n w

pub get_or-many : (n w k : ℕ) → k < n → get_or (many n w) k 0 ≡ w
unfolding many
get_or-many n w k below = get_or-replicate n k w 0 below

-- two items for each make twice as many
pub length-two_each : (f g : ℕ → ℕ) (xs : List ℕ) → length (flat_map (λ x. f x ∷ g x ∷ []) xs) ≡ 2 * length xs
length-two_each f g [] = refl
length-two_each f g (x ∷ xs) = omega (arith, length-two_each f g xs)
