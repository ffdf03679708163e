use Rattle.theorem_reader.specs.Refusals.{IsUsage, HasUsage}
use Rattle.theorem_reader.specs.Telling.{IsSo}
use Rattle.theorem_reader.proofs.Sourced.{asks_help}
use Rattle.theorem_reader.proofs.Plainly.{told_as}
use Rattle.theorem_reader.proofs.example.help_example.Goals as goal

pub returns : goal.returns
returns g c = record {
  help = told_as c.answer_alone.result (λ own. IsUsage _ own) (λ own told. IsSo g.row.ROOM told.out (λ sink. HasUsage sink own told.status told.out.taken told.kept told.tasks)) 0 asks_help
      c.answer_alone.ensures.usage;
}
