use Rattle.std.proofs.Common.{rules}
use Rattle.tk_tasks.proofs.trying.is_checkpoint.Goals as goal

pub returns-then-before-crossings : goal.returns-then-before-crossings
returns-then-before-crossings c = search rules
