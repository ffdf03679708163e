use Rattle.std.proofs.Common.{rules}
use Rattle.avr_asm.proofs.target.distance.Goals as goal

pub returns : goal.returns
returns c = search rules
