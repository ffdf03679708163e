use Rattle.std.proofs.Common.{rules}
use Rattle.branch_bridge.proofs.rewriting.rewrite.Goals as goal

pub returns-in-Err-clause-performed : goal.returns-in-Err-clause-performed
returns-in-Err-clause-performed c = search rules
