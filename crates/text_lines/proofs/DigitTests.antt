-- Whether all bytes of a text are digits, as a test.
use Rattle.std.proofs.Common.{◌≡◌, ℕ, List, [], ◌∷◌, arith, true, false, refl, inl, inr}
use Rattle.std.specs.Char.{digit_value, is_digit}
use Rattle.std.specs.List.{list_all}
use Rattle.std.specs.Str.Parse.{AllDigits}
use Rattle.std.proofs.lemmas.Bool.{and_parts, cases_lt}
use Rattle.std.proofs.lemmas.Bool.Decides.{nat_tests}

pub all_digits : (radix : ℕ) (text : List ℕ) → AllDigits radix text → list_all (λ b. is_digit b radix) text ≡ true
all_digits radix [] digits = refl
all_digits radix (b ∷ text) digits =
    let here : is_digit b radix ≡ true = grind (arith, nat_tests, digits.0) in
    rw here (all_digits radix text digits.1)

pub digits_all : (radix : ℕ) (text : List ℕ) → list_all (λ b. is_digit b radix) text ≡ true → AllDigits radix text
digits_all radix [] all = tt
digits_all radix (b ∷ text) all =
    let both = and_parts (is_digit b radix) (list_all (λ c. is_digit c radix) text) all in
    (grind (arith, nat_tests, both.0), digits_all radix text both.1)

pub some_other : (radix : ℕ) (text : List ℕ) → ¬ AllDigits radix text → list_all (λ b. is_digit b radix) text ≡ false
some_other radix [] none = absurd (none tt)
some_other radix (b ∷ text) none = elim (cases_lt (digit_value b) radix) [
  | inl digit ↦ (
      let here : is_digit b radix ≡ true = grind (arith, nat_tests) in
      rw here (some_other radix text (λ rest. none (digit, rest))))
  | inr other ↦ (
      let here : is_digit b radix ≡ false = grind (arith, nat_tests) in
      rw here refl)
]
