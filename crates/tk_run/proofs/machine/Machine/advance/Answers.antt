use Rattle.std.proofs.Common.{rules}
use Rattle.tk_run.proofs.machine.Machine.advance.Goals as goal

pub invariant_of-self : goal.invariant_of-self
invariant_of-self g c = search rules

pub returns-clause-advanced : goal.returns-clause-advanced
returns-clause-advanced g c = search rules
