use Rattle.std.proofs.Common.{rules}
use Rattle.branch_bridge.proofs.arrival.turn.Goals as goal

pub returns-clause-after : goal.returns-clause-after
returns-clause-after c = search rules
