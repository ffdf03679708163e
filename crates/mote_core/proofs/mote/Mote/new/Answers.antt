use Rattle.std.proofs.Common.{rules}
use Rattle.mote_core.proofs.mote.Mote.new.Goals as goal

pub returns-clause-reset : goal.returns-clause-reset
returns-clause-reset c = search rules
