use Rattle.std.proofs.Common.{rules}
use Rattle.pool_check.proofs.links.is_unlisted.Goals as goal

pub loop-lower-init : goal.loop-lower-init
loop-lower-init c = search rules
