use Rattle.std.proofs.Common.{refl}
use Rattle.program_steps.specs.Stepping.{HasBound}
use Rattle.program_steps.proofs.Arrived.{place_inside}
use Rattle.program_steps.proofs.Owning.{open_admits}
use Rattle.program_steps.proofs.Entered.{bound_inside, bound_wild, bound_none, bound_untaken}
use Rattle.program_steps.proofs.arrival.at_bound.Goals as goal

pub returns-in-None : goal.returns-in-None
returns-in-None c = record { bound = HasBound.Waits refl (place_inside c.requires.ready c.in-None.is) }

pub returns-then-owed-k : goal.returns-then-owed-k
returns-then-owed-k c = record { bound = HasBound.Waits refl (bound_inside c.in-Some.owed c.requires.ready c.requires.unshut c.in-Some.is c.if-owed-k.true) }

pub returns-in-None-enter : goal.returns-in-None-enter
returns-in-None-enter c = absurd (bound_none c.in-Some.owed c.requires.ready c.in-Some.is c.if-owed-k.false c.enter.ensures.entered c.in-None-enter.is)

pub returns-in-Some-enter : goal.returns-in-Some-enter
returns-in-Some-enter c = record { bound = bound_wild c.in-Some.owed c.in-Some-enter.end c.requires.ready c.in-Some.is c.if-owed-k.false c.enter.ensures.entered c.in-Some-enter.is }

pub enter-requires-clause-admitted : goal.enter-requires-clause-admitted
enter-requires-clause-admitted c = open_admits c.args.k.now.part c.args.p.now.at c.requires.unshut

pub enter-requires-clause-untaken : goal.enter-requires-clause-untaken
enter-requires-clause-untaken c = bound_untaken c.in-Some.owed c.requires.ready c.in-Some.is c.if-owed-k.false
