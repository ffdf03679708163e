use Rattle.std.proofs.Common.{◌≡◌, ℕ, ◌≤◌, ◌<◌, ◌^◌, false, cond, List, length, drop, arith, sym, ap, ◌∙◌, subst}
use Rattle.std.proofs.Math.Nat.{pow-le-pow_right}
use Rattle.std.proofs.lemmas.Int.Digits.{digits_value-lt}
use Rattle.std.specs.Prelude.{Option, Some, None, Result, Ok, Err, slice_index, ◌==◌}
use Rattle.std.specs.Result.{result_ok}
use Rattle.std.specs.Str.Parse.{ParsesUnsigned, IsNumeral, AllDigits, without_leading_plus, digits_value}
use Rattle.input_script.specs.Grammar.{number_of}
use Rattle.input_script.proofs.Digits.{numeral_number}
use Rattle.cli_words.proofs.options.number.Goals as goal

plain : (bs : List ℕ) → (slice_index bs 0 == 43) ≡ false → without_leading_plus bs ≡ bs
plain bs plus = ap (λ b. drop (cond b 1 0) bs) plus

fits : (bs : List ℕ) → AllDigits 10 bs → length bs ≤ 10 → digits_value 10 bs < 2 ^ 64
fits bs digits short =
    let most : 10 ^ length bs ≤ 10 ^ 10 = pow-le-pow_right {n = 10} (omega arith) {i = length bs} {j = 10} short in
    omega (arith, digits_value-lt 10 bs digits, most)

numeral : {E : Type 0} (bs : List ℕ) (r : Result ℕ E) (o : Option ℕ) → length bs ≤ 10 → (slice_index bs 0 == 43) ≡ false → ParsesUnsigned 64 10 bs r → o ≡ result_ok r → o ≡ number_of bs
numeral bs (Ok n) o short plus parses is =
    let P : List ℕ → Type 0 = λ ds. (IsNumeral 10 ds × (digits_value 10 ds < 2 ^ 64)) × (n ≡ digits_value 10 ds) in
    let got = subst P (plain bs plus) parses in
    is ∙ numeral_number bs (Some n) short (got.0.0, got.1)
numeral bs (Err e) o short plus parses is =
    let P : List ℕ → Type 0 = λ ds. IsNumeral 10 ds × (digits_value 10 ds < 2 ^ 64) in
    is ∙ numeral_number bs None short (λ number. parses (subst P (sym (plain bs plus)) (number, fits bs number.1 short)))

pub returns : goal.returns
returns c =
    let is_plus = c.starts_with.ensures.byte (omega arith) (omega arith) (λ w o h. h) in
    record { value = numeral c.args.text.now c.parse.result c.ok.result (omega arith) (sym is_plus ∙ c.if-starts_with.false) c.parse.ensures.value.0 c.ok.ensures.value }
