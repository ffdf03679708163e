use Rattle.std.proofs.Common.{◌≡◌, ap, subst, sym, ◌∙◌, Some, None}
use Rattle.std.specs.Prelude.{is_some, IsSome}
use Rattle.cli_words.proofs.NumberWords.{is_written, none_read, not_chosen}
use Rattle.cli_words.proofs.options.first_choice.Goals as goal

pub returns-in_err-value-clause-cases : goal.returns-in_err-value-clause-cases
returns-in_err-value-clause-cases c =
    rw c.from_residual-in_err-value.ensures (not_chosen _ _ _ _ _ (sym c.in_ok-parameter.ensures.number)
    (λ value is has. let none : None ≡ Some value = c.in_err-value.ensures.value ∙ is in absurd (cc)))

pub returns-in_err-parameter-clause-cases : goal.returns-in_err-parameter-clause-cases
returns-in_err-parameter-clause-cases c = rw c.from_residual.ensures (none_read _ _ (sym c.in_err-parameter.ensures.number))

pub returns-in_err-row-clause-cases : goal.returns-in_err-row-clause-cases
returns-in_err-row-clause-cases c =
    rw c.from_residual-in_err-row.ensures (not_chosen _ _ _ _ _ (sym c.in_ok-parameter.ensures.number) (λ value is has. let lacks = subst IsSome (sym c.in_err-row.ensures.row) has in absurd (cc)))

pub returns-clause-cases : goal.returns-clause-cases
returns-clause-cases c = record {
  digits = c.in_ok-parameter.digits.now;
  written = is_written _ _ _ _ (sym c.in_ok-parameter.ensures.number);
  number = sym c.in_ok-value.ensures.value;
  has = ap is_some (sym c.in_ok-row.ensures.row);
}
