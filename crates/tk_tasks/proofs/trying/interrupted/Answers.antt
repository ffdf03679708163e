use Rattle.std.proofs.Common.{refl, sym, ap, ◌∙◌}
use Rattle.std.specs.Prelude.{Some}
use Rattle.tk_tasks.proofs.Trials.{taken_on, taken_over}
use Rattle.tk_tasks.proofs.trying.interrupted.Goals as goal

pub returns-in-None-clause-behind : goal.returns-in-None-clause-behind
returns-in-None-clause-behind c = λ left. taken_on _ c.requires.wanted c.take.ensures.stepped (sym c.take.ensures.end ∙ c.in-None.is) refl refl left

pub returns-in-Some-clause-behind : goal.returns-in-Some-clause-behind
returns-in-Some-clause-behind c =
    λ left. taken_over c.in-Some.end _ c.take.ensures.stepped.way (sym c.take.ensures.end ∙ c.in-Some.is) refl (ap (λ e. Some e) c.task_end.ensures.value) left
