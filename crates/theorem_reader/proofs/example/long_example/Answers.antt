use Rattle.std.proofs.Common.{codes, refl}
use Rattle.theorem_reader.specs.Refusals.{IsRefused, IsSaid, TooLong, Source}
use Rattle.theorem_reader.specs.Telling.{IsSo}
use Rattle.theorem_reader.proofs.Sourced.{asm_word}
use Rattle.theorem_reader.proofs.Plainly.{told_as}
use Rattle.theorem_reader.proofs.example.long_example.Goals as goal

pub returns : goal.returns
returns g c = record {
  long = λ long. told_as c.answer_alone.result (λ line. IsRefused _ _ line) (λ line told. IsSo g.row.ROOM told.out (λ sink. IsSaid sink 3 line told.status told.out.taken told.kept told.tasks))
      (codes "input too long\n")
      (TooLong (Source asm_word) long refl) c.answer_alone.ensures.refused;
}
