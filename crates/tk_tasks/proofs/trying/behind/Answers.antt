use Rattle.std.proofs.Common.{rules}
use Rattle.tk_tasks.proofs.trying.behind.Goals as goal

pub returns-else-changes-clause-on : goal.returns-else-changes-clause-on
returns-else-changes-clause-on c = search rules
