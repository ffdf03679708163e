use Rattle.theorem_reader.specs.Examples.{example_of_tasks, words_of_tasks}
use Rattle.theorem_reader.specs.Tasks.{AsksTasks, AreRun}
use Rattle.theorem_reader.proofs.Exampled.{asks_tasks}
use Rattle.theorem_reader.specs.Telling.{IsSo}
use Rattle.theorem_reader.proofs.Plainly.{told_as}
use Rattle.theorem_reader.proofs.example.tasks_example.Goals as goal

pub returns : goal.returns
returns g c = record {
  tasks = told_as c.answer_tasks.result (λ asked. AsksTasks words_of_tasks _ asked) (λ asked told. IsSo g.row.ROOM told.out (λ sink. AreRun sink asked told.status told.out.taken told.kept told.tasks))
      example_of_tasks asks_tasks c.answer_tasks.ensures.tasks;
}
