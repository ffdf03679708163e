-- A text has a front, or not.
use Rattle.std.proofs.Common.{◌≡◌, ℕ, eqb, Bool, true, false, cond, List, [], ◌∷◌, ◌++◌, arith, sym, refl}
use Rattle.std.specs.Prelude.{Option, Some, None}
use Rattle.std.proofs.lemmas.Bool.Decides.{nat_tests}
use Rattle.text_lines.specs.Stripping.{stripped}

same_byte : (b : ℕ) → eqb b b ≡ true
same_byte b = grind (arith, nat_tests)

equal_byte : (b c : ℕ) → eqb b c ≡ true → b ≡ c
equal_byte b c same = grind (arith, nat_tests)

-- a text begins with its front
pub front_stripped : (front rest : List ℕ) → stripped front (front ++ rest) ≡ Some rest
front_stripped [] rest = refl
front_stripped (b ∷ front) rest = rw (same_byte b) (front_stripped front rest)

stripped_by : (test : Bool) (rest : List ℕ) (more : Option (List ℕ)) → cond test more None ≡ Some rest → (test ≡ true) × (more ≡ Some rest)
stripped_by true rest more is = (refl, is)
stripped_by false rest more is = absurd (cc)

-- and only such a text
pub stripped_front : (front text rest : List ℕ) → stripped front text ≡ Some rest → text ≡ front ++ rest
stripped_front [] text rest is = cc
stripped_front (b ∷ front) [] rest is = absurd (cc)
stripped_front (b ∷ front) (c ∷ text) rest is =
    let both = stripped_by (eqb b c) rest (stripped front text) is in
    let head : c ≡ b = sym (equal_byte b c both.0) in
    let tail : text ≡ front ++ rest = stripped_front front text rest both.1 in
    cc
