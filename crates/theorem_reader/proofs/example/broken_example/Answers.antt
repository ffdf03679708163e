use Rattle.std.proofs.Common.{ℕ, List, [], ◌∷◌, length, sym, ap, subst, arith}
use Rattle.cli_words.proofs.WorkedWords.{without_options}
use Rattle.theorem_reader.specs.Refusals.{ReadsText, Program, Scripted, Runs}
use Rattle.theorem_reader.proofs.example.broken_example.Goals as goal

pub returns : goal.returns
returns g c =
    let reads = subst ReadsText (sym (ap (λ (w : List ℕ). w ∷ []) c.in_ok-word.ensures.same)) (Program (Scripted (Runs _ without_options))) in
    record {
      fault = c.run_broken.ensures.fault reads (omega (arith, ap length c.in_ok-bytes.ensures.same));
    }
