use Rattle.std.proofs.Common.{◌≡◌, ◌∙◌, codes, List, ℕ}
use Rattle.theorem_reader.specs.Dumps.{AsksDump, IsDumped}
use Rattle.theorem_reader.specs.Restarts.{AsksRestart, IsRestarted}
use Rattle.theorem_reader.specs.Runs.{Asks, boot_of, IsRun, example}
use Rattle.theorem_reader.proofs.Exampled.{are_words, asks_run, asks_dump, asks_restart}
use Rattle.theorem_reader.specs.Telling.{IsSo}
use Rattle.theorem_reader.proofs.Plainly.{told_as}
use Rattle.theorem_reader.proofs.example.answer.Goals as goal

pub returns : goal.returns
returns g c =
    let are = λ (command : List ℕ) (first : c.args.command.now ≡ command). are_words command _ _ _ _ _ _ _ (c.in_ok-word_of.ensures.same ∙ first) c.in_ok-word_of-2.ensures.same
    c.in_ok-word_of-3.ensures.same c.in_ok-word_of-4.ensures.same c.in_ok-word_of-5.ensures.same c.in_ok-word_of-6.ensures.same c.in_ok-text.ensures.same in
    record {
      run = λ is. told_as c.run_text.result (λ asked. Asks _ _ asked) (λ asked told. IsSo g.row.ROOM told.out (λ sink. IsRun (boot_of asked) sink asked told.status told.out.taken told.kept)) example
          (asks_run _ _ (are (codes "run") is)) c.run_text.ensures.run;
      dump = λ is. told_as c.run_text.result (λ asked. AsksDump _ _ asked) (λ asked told. IsSo g.row.ROOM told.out (λ sink. IsDumped sink asked told.status told.out.taken told.kept)) example
          (asks_dump _ _ (are (codes "dump") is)) c.run_text.ensures.dump;
      restart = λ is. told_as c.run_text.result (λ asked. AsksRestart _ _ asked) (λ asked told. IsSo g.row.ROOM told.out (λ sink. IsRestarted sink asked told.status told.out.taken told.kept)) example
          (asks_restart _ _ (are (codes "restart") is)) c.run_text.ensures.restart;
    }
