use Rattle.std.proofs.Common.{arith}
use Rattle.std.proofs.lemmas.Grind.{common_steps}
use Rattle.input_script.proofs.Digits.{read_number}
use Rattle.tk_watch.proofs.words.number_in.Goals as goal

pub returns : goal.returns
returns c = record { value = read_number c.args.text.now c.value_of.result (grind (arith, common_steps)) (omega (arith, c.if-text-gt10.false)) c.value_of.ensures.cases }
