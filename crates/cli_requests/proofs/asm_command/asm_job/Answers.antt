use Rattle.cli_requests.specs.AsmCommand.{AsmAsks}
use Rattle.cli_requests.proofs.Judging.{judged_text}
use Rattle.cli_requests.proofs.asm_command.asm_job.Goals as goal

pub returns-in-Ok-clause-asks : goal.returns-in-Ok-clause-asks
returns-in-Ok-clause-asks g c = judged_text AsmAsks _ _ _ _ _ c.deref.ensures.value c.in-Ok.ensures.read c.source_job.ensures.asks
