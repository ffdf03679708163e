use Rattle.std.proofs.Common.{ℕ, List, [], ◌∷◌, ap}
use Rattle.theorem_reader.specs.Checks.{AsksCheck, IsChecked}
use Rattle.theorem_reader.specs.Refusals.{AsksAsm, IsAssembled, IsRefused, IsSaid, IsUsage, HasUsage}
use Rattle.theorem_reader.specs.Telling.{IsSo}
use Rattle.theorem_reader.proofs.Plainly.{told_at}
use Rattle.theorem_reader.proofs.example.answer_alone.Goals as goal

pub returns : goal.returns
returns g c =
    let words = ap (λ (w : List ℕ). w ∷ []) c.in_ok-word.ensures.same in
    record {
      check = told_at c.run_text.result
          (λ words text told. (image flash : List ℕ) → AsksCheck words text image flash → IsSo g.row.ROOM told.out (λ sink. IsChecked sink image flash told.status told.out.taken told.kept))
          _ _ _ _ words c.in_ok-bytes.ensures.same c.run_text.ensures.check;
      asm = told_at c.run_text.result
          (λ words text told. (image : List ℕ) → AsksAsm words text image → IsSo g.row.ROOM told.out (λ sink. IsAssembled sink image told.status told.out.taken told.kept told.tasks))
          _ _ _ _ words c.in_ok-bytes.ensures.same c.run_text.ensures.asm;
      refused = told_at c.run_text.result
          (λ words text told. (line : List ℕ) → IsRefused words text line → IsSo g.row.ROOM told.out (λ sink. IsSaid sink 3 line told.status told.out.taken told.kept told.tasks))
          _ _ _ _ words c.in_ok-bytes.ensures.same c.run_text.ensures.refused;
      usage = told_at c.run_text.result (λ words text told. (own : ℕ) → IsUsage words own → IsSo g.row.ROOM told.out (λ sink. HasUsage sink own told.status told.out.taken told.kept told.tasks))
          _ _ _ _ words c.in_ok-bytes.ensures.same c.run_text.ensures.usage;
    }
