use Rattle.std.proofs.Common.{arith}
use Rattle.std.proofs.lemmas.Grind.{common_steps}
use Rattle.kernel_entry.proofs.interrupts.without_interrupts.Goals as goal

pub returns : goal.returns
returns c = grind (arith, common_steps)
