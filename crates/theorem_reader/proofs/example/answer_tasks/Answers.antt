use Rattle.std.proofs.Common.{ℕ, List}
use Rattle.theorem_reader.specs.Refusals.{IsRefused, IsSaid}
use Rattle.theorem_reader.specs.Tasks.{AskedTasks, AsksTasks, AreRun}
use Rattle.theorem_reader.specs.Telling.{IsSo}
use Rattle.theorem_reader.proofs.Exampled.{words_are}
use Rattle.theorem_reader.proofs.Plainly.{told_at}
use Rattle.theorem_reader.proofs.example.answer_tasks.Goals as goal

pub returns : goal.returns
returns g c =
    let words = words_are _ _ _ c.in_ok-word_of.ensures.same c.in_ok-word_of-2.ensures.same c.in_ok-word_of-3.ensures.same in
    record {
      tasks = told_at c.run_text.result
          (λ words text told. (asked : AskedTasks) → AsksTasks words text asked → IsSo g.row.ROOM told.out (λ sink. AreRun sink asked told.status told.out.taken told.kept told.tasks))
          _ _ _ _ words c.in_ok-bytes.ensures.same c.run_text.ensures.tasks;
      refused = told_at c.run_text.result
          (λ words text told. (line : List ℕ) → IsRefused words text line → IsSo g.row.ROOM told.out (λ sink. IsSaid sink 3 line told.status told.out.taken told.kept told.tasks))
          _ _ _ _ words c.in_ok-bytes.ensures.same c.run_text.ensures.refused;
    }
