use Rattle.std.proofs.Common.{arith}
use Rattle.std.proofs.lemmas.Grind.{common_steps}
use Rattle.task_input.proofs.Naming.{named_found, none_found}
use Rattle.task_input.proofs.lines.is_named.Goals as goal

pub returns-then-is_some : goal.returns-then-is_some
returns-then-is_some c = record { value = named_found c.args.count c.tasks.task c.args.line.now c.behind_name.result c.tasks-test.true c.behind_name.ensures.cases (grind (arith, common_steps)) }

pub returns : goal.returns
returns c = record { value = none_found c.args.count c.args.line.now (λ task rest below. c.tasks.invariant task rest (omega (arith, c.tasks-test.false, below))) }
