use Rattle.std.proofs.Common.{◌≡◌, ◌<◌, ◌^◌, length, arith, subst}
use Rattle.std.proofs.lemmas.Int.Digits.{digits_value-lt}
use Rattle.std.specs.Str.Parse.{digits_value}
use Rattle.tk_watch.proofs.words.address_in.Goals as goal

pub overflow_cast-result : goal.overflow_cast-result
overflow_cast-result c =
    let digits = c.in_ok-digits.digits.now in
    let four : length digits ≡ 4 = omega (arith, c.if-digits-ne4.false) in
    let below = subst (λ n. digits_value 16 digits < 16 ^ n) four (digits_value-lt 16 digits c.in_ok-value.ensures.cases.0) in
    omega (arith, c.in_ok-value.ensures.cases.1, below)
