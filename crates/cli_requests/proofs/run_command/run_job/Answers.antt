use Rattle.cli_requests.specs.RunCommand.{RunAsks}
use Rattle.cli_requests.proofs.Judging.{judged_text}
use Rattle.cli_requests.proofs.run_command.run_job.Goals as goal

pub returns-in-Ok-clause-asks : goal.returns-in-Ok-clause-asks
returns-in-Ok-clause-asks g c = judged_text (RunAsks c.args.options) _ _ _ _ _ c.deref.ensures.value c.in-Ok.ensures.read c.text_job.ensures.asks
