use Rattle.std.proofs.Common.{rules}
use Rattle.tk_tasks.proofs.play.keep.Goals as goal

pub returns : goal.returns
returns c = search rules
