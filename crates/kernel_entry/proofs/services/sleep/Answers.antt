use Rattle.std.proofs.Common.{rules}
use Rattle.kernel_entry.proofs.services.sleep.Goals as goal

pub returns : goal.returns
returns c = search rules
