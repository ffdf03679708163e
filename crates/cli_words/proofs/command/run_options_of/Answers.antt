use Rattle.cli_words.proofs.OneCommand.{no_run, run_told}
use Rattle.cli_words.proofs.command.run_options_of.Goals as goal

pub returns-in_err-chosen-clause-cases : goal.returns-in_err-chosen-clause-cases
returns-in_err-chosen-clause-cases c = rw c.from_residual.ensures (no_run _ c.in_err-chosen.ensures.cases)

pub returns-clause-cases : goal.returns-clause-cases
returns-clause-cases c = run_told _ c.in_ok-chosen.chosen.values c.run_options.result c.in_ok-chosen.ensures.cases c.run_options.ensures.cases
