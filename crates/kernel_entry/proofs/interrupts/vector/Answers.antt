use Rattle.std.proofs.Common.{rules}
use Rattle.kernel_entry.proofs.interrupts.vector.Goals as goal

pub returns : goal.returns
returns c = search rules
