use Rattle.std.proofs.Common.{codes}
use Rattle.theorem_reader.specs.Refusals.{IsRefused, IsSaid, bad_line}
use Rattle.theorem_reader.specs.Telling.{IsSo}
use Rattle.theorem_reader.proofs.Refused.{bad_script}
use Rattle.theorem_reader.proofs.Plainly.{told_as}
use Rattle.theorem_reader.proofs.example.bad_script_example.Goals as goal

pub returns : goal.returns
returns g c = record {
  bad = told_as c.answer_alone.result (λ line. IsRefused _ _ line) (λ line told. IsSo g.row.ROOM told.out (λ sink. IsSaid sink 3 line told.status told.out.taken told.kept told.tasks))
      (bad_line (codes "script") 1 (codes "form")) bad_script c.answer_alone.ensures.refused;
}
