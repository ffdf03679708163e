use Rattle.program_steps.proofs.Entered.{entered_none, entered_some}
use Rattle.program_steps.proofs.arrival.enter.Goals as goal

pub returns-in-None-clause-entered : goal.returns-in-None-clause-entered
returns-in-None-clause-entered c = entered_none c.requires.ready c.requires.quiet c.in-None.is

pub arrive-requires-clause-may : goal.arrive-requires-clause-may
arrive-requires-clause-may c = record { ready = c.requires.ready; steps = c.requires.steps; untaken = c.requires.untaken; admitted = c.requires.admitted; owed = c.in-Some.is }

pub returns-in-Some-clause-entered : goal.returns-in-Some-clause-entered
returns-in-Some-clause-entered c = entered_some c.arrive.ensures.arrived c.arrive.ensures.whole c.requires.ready
