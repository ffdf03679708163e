use Rattle.std.proofs.Common.{codes}
use Rattle.theorem_reader.specs.Refusals.{IsRefused, IsSaid}
use Rattle.theorem_reader.specs.Telling.{IsSo}
use Rattle.theorem_reader.proofs.Refused.{bad_task_image}
use Rattle.theorem_reader.proofs.Plainly.{told_as}
use Rattle.theorem_reader.proofs.example.bad_task_image_example.Goals as goal

pub returns : goal.returns
returns g c = record {
  bad = told_as c.answer_tasks.result (λ line. IsRefused _ _ line) (λ line told. IsSo g.row.ROOM told.out (λ sink. IsSaid sink 3 line told.status told.out.taken told.kept told.tasks))
      (codes "bad task image 0x0FFE\n") bad_task_image c.answer_tasks.ensures.refused;
}
