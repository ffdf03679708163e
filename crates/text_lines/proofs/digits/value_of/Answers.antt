use Rattle.std.proofs.Common.{◌≡◌, ℕ, ◌+◌, ◌*◌, ◌<◌, get_or, arith, ap, ap₂, ◌∙◌, sym, subst}
use Rattle.std.specs.Char.{digit_value}
use Rattle.std.proofs.lemmas.Int.Digits.{digits_value_more, digits_more}
use Rattle.text_lines.proofs.DigitLaws.{number_grows, ten_digits_fit, digit_at}
use Rattle.text_lines.proofs.digits.value_of.Goals as goal

pub returns-in_err-digit : goal.returns-in_err-digit
returns-in_err-digit c =
    rw c.from_residual.ensures (record {
      cases = λ digits. c.in_err-digit.ensures.value (rw c.from.ensures (digit_at c.args.radix c.args.text.now c.loop-b.b-index digits (omega arith)));
    })

pub overflow_mul-value : goal.overflow_mul-value
overflow_mul-value c =
    let digit = c.in_ok-digit.ensures.value in
    let fits = ten_digits_fit c.loop-b.value c.args.radix c.in_ok-digit.digit c.loop-b.b-index c.loop-b.invariant.small (omega (arith, digit.0, digit.1)) c.requires.base.1 (omega arith) in
    rw c.from-in-loop-b.ensures (omega (arith, fits))

pub overflow_add-value : goal.overflow_add-value
overflow_add-value c =
    let digit = c.in_ok-digit.ensures.value in
    let fits = ten_digits_fit c.loop-b.value c.args.radix c.in_ok-digit.digit c.loop-b.b-index c.loop-b.invariant.small (omega (arith, digit.0, digit.1)) c.requires.base.1 (omega arith) in
    rw (c.from-in-loop-b.ensures, c.from-in-loop-b-2.ensures) (omega (arith, fits))

pub loop-b-preserved : goal.loop-b-preserved
loop-b-preserved c =
    let text = c.args.text.now in
    let i = c.loop-b.b-index in
    let radix = c.args.radix in
    let digit = c.in_ok-digit.ensures.value in
    let is_digit : c.in_ok-digit.digit ≡ digit_value (get_or text i 0) = digit.1 ∙ ap digit_value c.from.ensures in
    let P : ℕ → Type 0 = λ b. digit_value b < radix in
    let grown = number_grows c.loop-b.value radix c.in_ok-digit.digit i c.loop-b.invariant.small (omega (arith, digit.0, digit.1)) c.requires.base.1 in
    record {
      digits = digits_more radix text i (omega arith) c.loop-b.invariant.digits (subst P c.from.ensures digit.0);
      value =
          ap₂ (λ r d. c.loop-b.value * r + d) c.from-in-loop-b.ensures (c.from-in-loop-b-2.ensures ∙ is_digit)
          ∙ ap (λ v. v * radix + digit_value (get_or text i 0)) c.loop-b.invariant.value
          ∙ sym (digits_value_more radix text i (omega arith));
      small = rw (c.from-in-loop-b.ensures, c.from-in-loop-b-2.ensures) grown;
    }
