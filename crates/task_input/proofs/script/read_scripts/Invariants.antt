use Rattle.task_input.specs.Reading.{IsFar}
use Rattle.task_input.proofs.script.read_scripts.Given as goal

-- the texts of the first tasks are read
abbrev pub invariant-tasks : goal.invariant-tasks
invariant-tasks l = IsFar l.count l.text l.task l.first l.scripts.items
