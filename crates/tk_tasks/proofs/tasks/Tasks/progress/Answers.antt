use Rattle.std.proofs.Common.{◌≡◌, sym, ap, ◌∙◌, arith}
use Rattle.std.specs.Prelude.{slice_get, slice_index_or, Some}
use Rattle.tk_tasks.specs.States.{Tasks, owed_of, others_of}
use Rattle.tk_tasks.proofs.Runs.{progress_is, others_are}
use Rattle.tk_tasks.proofs.tasks.Tasks.progress.Goals as goal
use Rattle.parked_tasks.proofs.TaskLists.{is_at, get_at}

pub overflow_sub-result : goal.overflow_sub-result
overflow_sub-result c =
    let t = c.args.self.now in
    let s = c.self.inside in
    let x = c.index-task.result.now in
    let seen = c.self.view_is in
    let at : c.from.result ≡ t.running = c.from.ensures ∙ ap (λ (u : Tasks). u.running) seen in
    let all : s.tasks.items ≡ t.tasks = ap (λ (u : Tasks). u.tasks) seen in
    let is : x ≡ slice_index_or t.tasks t.running x = c.index-task.ensures ∙ ap (λ l. slice_index_or l c.from.result x) all ∙ ap (λ i. slice_index_or t.tasks i x) at in
    let bounded = (c.requires.sound.each t.running x (get_at t.tasks t.running x c.requires.sound.one_runs is)).sound.bounded in
    omega (arith, bounded.moves.since, bounded.moves.longest)

pub arrivals_of_others-requires-clause-steps : goal.arrivals_of_others-requires-clause-steps
arrivals_of_others-requires-clause-steps c = λ i task there.
    let all = ap (λ (u : Tasks). u.tasks) c.self.view_is in
    (c.requires.sound.each i task (ap (λ l. slice_get l i) (sym (c.deref.ensures.value ∙ all)) ∙ there)).sound.steps

pub returns : goal.returns
returns c =
    let t = c.args.self.now in
    let s = c.self.inside in
    let x = c.index-task.result.now in
    let seen = c.self.view_is in
    let at : c.from.result ≡ t.running = c.from.ensures ∙ ap (λ (u : Tasks). u.running) seen in
    let all : s.tasks.items ≡ t.tasks = ap (λ (u : Tasks). u.tasks) seen in
    let is : x ≡ slice_index_or t.tasks t.running x = c.index-task.ensures ∙ ap (λ l. slice_index_or l c.from.result x) all ∙ ap (λ i. slice_index_or t.tasks i x) at in
    record {
      progress = λ task here going.
          let same = is_at t.tasks t.running x task is here in
          let listed = c.deref.ensures.value ∙ all in
          let runs : s.running ≡ t.running = ap (λ (u : Tasks). u.running) seen in
          let found : slice_get c.deref.result.now s.running ≡ Some task = ap (λ l. slice_get l s.running) listed ∙ ap (slice_get t.tasks) runs ∙ here in
          let others : c.arrivals_of_others.result ≡ others_of t task = c.arrivals_of_others.ensures.value task found ∙ others_are t task c.deref.result.now listed in
          progress_is task x c.owed_of.result c.arrivals_of_others.result s.pages c.requires.sound here going same (ap (λ (u : Tasks). u.pages) seen)
          (c.owed_of.ensures.value ∙ ap (owed_of x.owed) (ap (λ (u : Tasks). u.stub) seen)) others;
    }
