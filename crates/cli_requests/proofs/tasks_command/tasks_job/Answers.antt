use Rattle.cli_requests.specs.TasksCommand.{TasksAsks}
use Rattle.cli_requests.proofs.Judging.{judged_text}
use Rattle.cli_requests.proofs.tasks_command.tasks_job.Goals as goal

pub returns-in-Ok-clause-asks : goal.returns-in-Ok-clause-asks
returns-in-Ok-clause-asks g c = judged_text (TasksAsks c.args.options) _ _ _ _ _ c.deref.ensures.value c.in-Ok.ensures.read c.text_job.ensures.asks
