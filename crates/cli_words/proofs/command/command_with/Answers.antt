use Rattle.std.proofs.Common.{ℕ, List, subst, sym}
use Rattle.std.specs.Prelude.{Option}
use Rattle.cli_words.specs.declared.command.Command.{Command}
use Rattle.cli_words.specs.Commands.{entry_of}
use Rattle.cli_words.specs.Options.{AreValues}
use Rattle.cli_words.proofs.command.command_with.Goals as goal

abbrev AreNone : List (Option ℕ) → Command → Type 0
AreNone chosen kind = (values : List ℕ) → ¬ AreValues (entry_of kind).1 chosen values

pub returns-in_err-run_options-in-Run-clause-cases : goal.returns-in_err-run_options-in-Run-clause-cases
returns-in_err-run_options-in-Run-clause-cases c = rw c.from_residual.ensures (subst (AreNone c.args.chosen.values) (sym c.in-Run.is) c.in_err-run_options-in-Run.ensures.cases)

pub returns-in_err-run_options-in-Dump-clause-cases : goal.returns-in_err-run_options-in-Dump-clause-cases
returns-in_err-run_options-in-Dump-clause-cases c =
    rw c.from_residual-in_err-run_options-in-Dump.ensures (subst (AreNone c.args.chosen.values) (sym c.in-Dump.is) c.in_err-run_options-in-Dump.ensures.cases)

pub returns-in_err-run_options-in-Restart-clause-cases : goal.returns-in_err-run_options-in-Restart-clause-cases
returns-in_err-run_options-in-Restart-clause-cases c =
    rw c.from_residual-in_err-run_options-in-Restart.ensures (subst (AreNone c.args.chosen.values) (sym c.in-Restart.is) c.in_err-run_options-in-Restart.ensures.cases)

pub returns-in_err-task_options-in-Tasks-clause-cases : goal.returns-in_err-task_options-in-Tasks-clause-cases
returns-in_err-task_options-in-Tasks-clause-cases c =
    rw c.from_residual-in_err-task_options-in-Tasks.ensures (subst (AreNone c.args.chosen.values) (sym c.in-Tasks.is) c.in_err-task_options-in-Tasks.ensures.cases)

pub returns-in_err-seed_of-in-Generate-clause-cases : goal.returns-in_err-seed_of-in-Generate-clause-cases
returns-in_err-seed_of-in-Generate-clause-cases c =
    rw c.from_residual-in_err-seed_of-in-Generate.ensures (subst (AreNone c.args.chosen.values) (sym c.in-Generate.is) c.in_err-seed_of-in-Generate.ensures.cases)
