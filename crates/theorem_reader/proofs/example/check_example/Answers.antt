use Rattle.theorem_reader.specs.Checks.{AsksCheck, IsChecked}
use Rattle.theorem_reader.specs.Examples.{erased}
use Rattle.theorem_reader.specs.Runs.{example}
use Rattle.theorem_reader.specs.Telling.{IsSo}
use Rattle.theorem_reader.proofs.Exampled.{asks_check}
use Rattle.theorem_reader.proofs.Plainly.{told_pair}
use Rattle.theorem_reader.proofs.example.check_example.Goals as goal

pub returns : goal.returns
returns g c = record {
  check = told_pair c.answer_alone.result (λ image flash. AsksCheck _ _ image flash)
      (λ image flash told. IsSo g.row.ROOM told.out (λ sink. IsChecked sink image flash told.status told.out.taken told.kept)) example.image erased
      asks_check c.answer_alone.ensures.check;
}
