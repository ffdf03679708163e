use Rattle.cli_requests.specs.CheckCommand.{CheckAsks}
use Rattle.cli_requests.proofs.Judging.{judged_text}
use Rattle.cli_requests.proofs.check_command.check_job.Goals as goal

pub returns-in-Ok-clause-asks : goal.returns-in-Ok-clause-asks
returns-in-Ok-clause-asks g c = judged_text CheckAsks _ _ _ _ _ c.deref.ensures.value c.in-Ok.ensures.read c.text_job.ensures.asks
