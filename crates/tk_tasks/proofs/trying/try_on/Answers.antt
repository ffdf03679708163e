use Rattle.std.proofs.Common.{refl, sym, ◌∙◌}
use Rattle.tk_tasks.specs.Trying.{HasTried}
use Rattle.tk_tasks.proofs.Trials.{tried_taken, tried_steps, entered_in}
use Rattle.tk_tasks.proofs.trying.try_on.Goals as goal

pub returns-in-Some-clause-tried : goal.returns-in-Some-clause-tried
returns-in-Some-clause-tried c = HasTried.Rests c.in-Some.end (sym c.rest_at.ensures.value ∙ c.in-Some.is) refl refl

pub returns-then-must_take-clause-tried : goal.returns-then-must_take-clause-tried
returns-then-must_take-clause-tried c =
    tried_taken (sym c.rest_at.ensures.value ∙ c.in_default.is) c.interrupted.ensures.one c.interrupted.ensures.stepped c.interrupted.ensures.behind

pub stepped-requires-clause-ready : goal.stepped-requires-clause-ready
stepped-requires-clause-ready c = (entered_in c.args.left (sym c.rest_at.ensures.value ∙ c.in_default.is) c.requires.unfailing c.enter.ensures.entered).ready

pub stepped-requires-clause-placed : goal.stepped-requires-clause-placed
stepped-requires-clause-placed c = (entered_in c.args.left (sym c.rest_at.ensures.value ∙ c.in_default.is) c.requires.unfailing c.enter.ensures.entered).placed

pub returns-clause-tried : goal.returns-clause-tried
returns-clause-tried c =
    let none = sym c.rest_at.ensures.value ∙ c.in_default.is in
    let entered = entered_in c.args.left none c.requires.unfailing c.enter.ensures.entered in
    tried_steps none entered.entered c.stepped.ensures.made
