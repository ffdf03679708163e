use Rattle.task_turns.proofs.Isolation.{apart_from_others}
use Rattle.task_turns.proofs.tasks_are_apart.Goals as goal

pub returns : goal.returns
returns c = record { apart = λ t n. apart_from_others n t }
