use Rattle.std.proofs.Common.{arith}
use Rattle.input_script.proofs.Digits.{read_digits, digits_bound, digits_fit}
use Rattle.input_script.proofs.line.digits_in.Goals as goal

pub returns-in_err-value_of-clause-value : goal.returns-in_err-value_of-clause-value
returns-in_err-value_of-clause-value c = rw c.from_residual.ensures (read_digits c.args.radix c.args.width c.args.text.now _ c.if-text-width.false c.in_err-value_of.ensures.cases)

pub overflow_cast-result : goal.overflow_cast-result
overflow_cast-result c =
    let read = c.in_ok-value_of.ensures.cases in
    omega (arith, digits_fit c.args.radix c.args.width c.in_ok-value_of.field-0 c.args.text.now c.requires.base.1 c.requires.width c.if-text-width.false read.0 read.1)

pub returns-clause-value : goal.returns-clause-value
returns-clause-value c = read_digits c.args.radix c.args.width c.args.text.now _ c.if-text-width.false c.in_ok-value_of.ensures.cases

pub returns-clause-bound : goal.returns-clause-bound
returns-clause-bound c =
    let read = c.in_ok-value_of.ensures.cases in
    digits_bound c.args.radix c.args.width c.in_ok-value_of.field-0 c.args.text.now c.if-text-width.false read.0 read.1
