use Rattle.std.proofs.Common.{rules}
use Rattle.branch_bridge.proofs.through.to_resolve.Goals as goal

pub returns-then-page-stub : goal.returns-then-page-stub
returns-then-page-stub c = search rules

pub returns-else-page-stub : goal.returns-else-page-stub
returns-else-page-stub c = search rules
