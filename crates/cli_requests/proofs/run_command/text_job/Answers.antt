use Rattle.std.proofs.Common.{inl}
use Rattle.cli_words.specs.declared.job.Job.TheVariants.{Run}
use Rattle.cli_requests.proofs.run_command.text_job.Goals as goal

pub returns-in-Ok-clause-asks : goal.returns-in-Ok-clause-asks
returns-in-Ok-clause-asks c = inl (c.in-Ok.ensures.judged Run)

pub returns-in-Err-clause-asks : goal.returns-in-Err-clause-asks
returns-in-Err-clause-asks c = c.in-Err.ensures.judged Run
