use Rattle.theorem_reader.specs.Refusals.{AsksAsm, IsAssembled}
use Rattle.theorem_reader.specs.Runs.{example}
use Rattle.theorem_reader.specs.Telling.{IsSo}
use Rattle.theorem_reader.proofs.Sourced.{asks_asm}
use Rattle.theorem_reader.proofs.Plainly.{told_as}
use Rattle.theorem_reader.proofs.example.asm_example.Goals as goal

pub returns : goal.returns
returns g c = record {
  asm = told_as c.answer_alone.result (λ image. AsksAsm _ _ image) (λ image told. IsSo g.row.ROOM told.out (λ sink. IsAssembled sink image told.status told.out.taken told.kept told.tasks))
      example.image asks_asm c.answer_alone.ensures.asm;
}
