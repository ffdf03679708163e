use Rattle.std.proofs.Common.{sym, ap, ◌∙◌}
use Rattle.std.specs.Prelude.{slice_get}
use Rattle.tk_tasks.specs.States.{Tasks}
use Rattle.tk_tasks.proofs.Runs.{natural_most, entries_most}
use Rattle.tk_tasks.proofs.run.all_counts.Goals as goal

pub counts_of-requires-clause-natural : goal.counts_of-requires-clause-natural
counts_of-requires-clause-natural c = λ i task there. natural_most c.requires.sound i task (ap (λ l. slice_get l i) (sym (c.deref.ensures.value ∙ ap (λ (u : Tasks). u.tasks) c.t.view_is)) ∙ there)

pub counts_of-requires-clause-entries : goal.counts_of-requires-clause-entries
counts_of-requires-clause-entries c = λ i task there. entries_most c.requires.sound i task (ap (λ l. slice_get l i) (sym (c.deref.ensures.value ∙ ap (λ (u : Tasks). u.tasks) c.t.view_is)) ∙ there)
