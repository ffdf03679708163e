use Rattle.std.proofs.Common.{arith}
use Rattle.std.proofs.lemmas.Grind.{common_steps}
use Rattle.avr_isa.specs.Encoding.{first_word, second_word}
use Rattle.nat_template.proofs.inline.guarded.Goals as goal

pub returns : goal.returns
unfolding first_word second_word
returns c = grind (arith, common_steps)
