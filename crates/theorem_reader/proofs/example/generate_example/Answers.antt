use Rattle.std.proofs.Common.{ℕ, [], refl}
use Rattle.theorem_reader.specs.Runs.{AsksGenerate, boot_of, IsRun, generated_by}
use Rattle.theorem_reader.specs.Telling.{IsSo}
use Rattle.theorem_reader.proofs.Exampled.{words_of_generate, asks_generate, words_to_generate}
use Rattle.theorem_reader.proofs.Plainly.{told_as, told_at}
use Rattle.theorem_reader.proofs.example.generate_example.Goals as goal

pub returns : goal.returns
returns g c =
    let words = words_to_generate _ _ c.in_ok-word_of.ensures.same c.in_ok-word_of-2.ensures.same in
    let all = told_at c.run_text.result
    (λ words text told. (seed : ℕ) → AsksGenerate words seed → IsSo g.row.ROOM told.out (λ sink. IsRun (boot_of (generated_by seed)) sink (generated_by seed) told.status told.out.taken told.kept))
    _ _ [] [] words refl c.run_text.ensures.generate in
    record {
      generate = told_as c.run_text.result (λ seed. AsksGenerate words_of_generate seed)
          (λ seed told. IsSo g.row.ROOM told.out (λ sink. IsRun (boot_of (generated_by seed)) sink (generated_by seed) told.status told.out.taken told.kept)) 7 asks_generate all;
    }
