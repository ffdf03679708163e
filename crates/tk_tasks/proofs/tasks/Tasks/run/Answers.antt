use Rattle.std.proofs.Common.{sym, ap, ◌∙◌, subst}
use Rattle.tk_tasks.specs.States.{Tasks, AreSound}
use Rattle.tk_tasks.specs.Held.{value_of}
use Rattle.tk_tasks.proofs.Runs.{has_run, sound_counts, counts_as}
use Rattle.tk_tasks.proofs.tasks.Tasks.run.Goals as goal

pub returns-clause-run : goal.returns-clause-run
returns-clause-run g c =
    let t = c.put_plays-result.new.t in
    let written : Tasks → Tasks = λ u. record u { broken = c.is_err-self-inside.result; natural = c.all_counts-counts.result.natural; entries = c.all_counts-counts.result.entries } in
    has_run c.put_plays-result.result t (written (value_of c.self.inside)) c.put_plays-result.ensures.put
    (ap written c.self.view_is ∙ counts_as t t c.is_err-self-inside.result c.all_counts-counts.result.natural c.all_counts-counts.result.entries c.put_plays-result.result
    c.is_err-self-inside.ensures.value c.all_counts-counts.ensures.natural c.all_counts-counts.ensures.entries)

pub returns-clause-sound : goal.returns-clause-sound
returns-clause-sound g c =
    let written : Tasks → Tasks = λ u. record u { broken = c.is_err-self-inside.result; natural = c.all_counts-counts.result.natural; entries = c.all_counts-counts.result.entries } in
    subst AreSound (sym (ap written c.self.view_is))
    (sound_counts c.is_err-self-inside.result c.all_counts-counts.result.natural c.all_counts-counts.result.entries c.put_plays-result.ensures.whole c.put_plays-result.ensures.sound)

pub returns-clause-turns : goal.returns-clause-turns
returns-clause-turns g c =
    let written : Tasks → Tasks = λ u. record u { broken = c.is_err-self-inside.result; natural = c.all_counts-counts.result.natural; entries = c.all_counts-counts.result.entries } in
    let went = c.put_plays-result.ensures.turns in
    rw (ap written c.self.view_is) (record { count = went.count; stand = went.stand; turns = went.turns })
