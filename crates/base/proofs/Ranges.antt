-- Numbers in a row.
use Rattle.std.proofs.Common.{◌≡◌, ℕ, zero, suc, ◌+◌, [], ◌∷◌, ◌++◌, ap, ◌∙◌, arith}
use Rattle.std.specs.List.{range_with_len}

-- one number more
pub range_with_len-push : (a n : ℕ) → range_with_len a (suc n) ≡ range_with_len a n ++ (a + n) ∷ []
range_with_len-push a zero =
    let e : a ≡ a + 0 = omega arith in
    ap (λ z. z ∷ []) e
range_with_len-push a (suc n) =
    let e : a + 1 + n ≡ a + suc n = omega arith in
    ap (λ z. a ∷ z) (range_with_len-push (a + 1) n) ∙ ap (λ z. a ∷ (range_with_len (a + 1) n ++ z ∷ [])) e
