use Rattle.task_turns.proofs.Ending.{turns_end}
use Rattle.task_turns.proofs.every_task_ends.Goals as goal

pub returns : goal.returns
returns c = record { ends = turns_end }
