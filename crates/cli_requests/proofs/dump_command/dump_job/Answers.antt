use Rattle.cli_requests.specs.DumpCommand.{DumpAsks}
use Rattle.cli_requests.proofs.Judging.{judged_text}
use Rattle.cli_requests.proofs.dump_command.dump_job.Goals as goal

pub returns-in-Ok-clause-asks : goal.returns-in-Ok-clause-asks
returns-in-Ok-clause-asks g c = judged_text (DumpAsks c.args.options) _ _ _ _ _ c.deref.ensures.value c.in-Ok.ensures.read c.text_job.ensures.asks
