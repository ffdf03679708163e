use Rattle.std.proofs.Common.{[], ◌∷◌, ap}
use Rattle.theorem_reader.proofs.Plainly.{asks_plainly, told_as, text_short}
use Rattle.theorem_reader.specs.Runs.{Asks, boot_of, IsRun, plainly}
use Rattle.theorem_reader.specs.Telling.{IsSo}
use Rattle.theorem_reader.proofs.reader.run_image.Goals as goal

pub returns : goal.returns
returns g c = record {
  run = told_as c.run_text.result (λ asked. Asks _ _ asked) (λ asked told. IsSo g.row.ROOM told.out (λ sink. IsRun (boot_of asked) sink asked told.status told.out.taken told.kept))
      (plainly c.args.image.now)
      (asks_plainly _ c.args.image.now _ (ap (λ w. w ∷ []) c.in_ok-word.ensures.same) c.in_ok-text.ensures.read_back (text_short _ _ c.in_ok-text.ensures.read_back c.in_ok-text.ensures.text))
      c.run_text.ensures.run;
}
