use Rattle.std.proofs.Common.{sym, ◌∙◌, refl}
use Rattle.program_steps.specs.Wholes.{whole}
use Rattle.program_steps.proofs.TakingLaws.{untaken_of}
use Rattle.program_steps.proofs.Owning.{open_admits}
use Rattle.tk_run.proofs.Advancing.{can_step}
use Rattle.tk_watch.specs.Turning.{HasTurned}
use Rattle.tk_watch.proofs.turn.turn.Goals as goal

pub take-end-requires-clause-wanted : goal.take-end-requires-clause-wanted
take-end-requires-clause-wanted c = sym c.must_take.ensures.value ∙ c.if-must_take.true

pub enter-requires-clause-untaken : goal.enter-requires-clause-untaken
enter-requires-clause-untaken c = untaken_of (whole c.args.k.now c.args.p.now) (sym c.must_take.ensures.value ∙ c.if-must_take.false)

pub enter-requires-clause-admitted : goal.enter-requires-clause-admitted
enter-requires-clause-admitted c = open_admits c.args.k.now.part c.args.p.now.at c.requires.unshut

pub steps-requires-clause-ready : goal.steps-requires-clause-ready
steps-requires-clause-ready c = (can_step (whole c.args.k.now c.args.p.now) (whole c.enter.new.k c.enter.new.p) c.enter.result c.enter.ensures.entered c.in_default.is).ready

pub steps-requires-clause-placed : goal.steps-requires-clause-placed
steps-requires-clause-placed c = (can_step (whole c.args.k.now c.args.p.now) (whole c.enter.new.k c.enter.new.p) c.enter.result c.enter.ensures.entered c.in_default.is).placed

pub steps-requires-clause-untaken : goal.steps-requires-clause-untaken
steps-requires-clause-untaken c = (can_step (whole c.args.k.now c.args.p.now) (whole c.enter.new.k c.enter.new.p) c.enter.result c.enter.ensures.entered c.in_default.is).untaken

pub returns-then-must_take-clause-turned : goal.returns-then-must_take-clause-turned
returns-then-must_take-clause-turned c = HasTurned.Interrupted (sym c.must_take.ensures.value ∙ c.if-must_take.true) c.take-end.ensures.stepped refl refl

pub returns-in-Some-clause-turned : goal.returns-in-Some-clause-turned
returns-in-Some-clause-turned c = HasTurned.Refused c.in-Some.field-0 (rw c.in-Some.is at c.enter.ensures.entered) refl refl

pub returns-clause-turned : goal.returns-clause-turned
returns-clause-turned c = HasTurned.Stepped (whole c.enter.new.k c.enter.new.p) (rw c.in_default.is at c.enter.ensures.entered) c.steps.ensures.done
