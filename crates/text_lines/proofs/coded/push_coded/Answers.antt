use Rattle.std.proofs.Common.{arith}
use Rattle.std.proofs.lemmas.Grind.{common_steps}
use Rattle.text_lines.proofs.coded.push_coded.Goals as goal

pub returns : goal.returns
returns c = grind (arith, common_steps)
