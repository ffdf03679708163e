use Rattle.std.proofs.Common.{ap}
use Rattle.kernel_entry.specs.Conditions.{executes}
use Rattle.kernel_entry.proofs.Answering.{called}
use Rattle.kernel_entry.proofs.services.executes.Goals as goal

pub foreign_read-requires-clause-called : goal.foreign_read-requires-clause-called
foreign_read-requires-clause-called c = called c.args.k.now c.requires.can (ap executes c.if-entry.true)
