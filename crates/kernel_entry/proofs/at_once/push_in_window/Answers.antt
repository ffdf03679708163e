use Rattle.std.proofs.Common.{arith}
use Rattle.std.proofs.lemmas.Grind.{common_steps}
use Rattle.avr_exec.specs.StackRules.{push_return_on}
use Rattle.mem_guard.specs.Guarded.{push_return}
use Rattle.kernel_entry.proofs.at_once.push_in_window.Goals as goal

pub returns-clause-after : goal.returns-clause-after
unfolding push_return push_return_on
returns-clause-after c = grind (arith, common_steps)
