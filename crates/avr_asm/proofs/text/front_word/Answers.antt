use Rattle.std.proofs.Common.{ap, ◌∙◌, drop}
use Rattle.std.proofs.lemmas.List.{take_rest}
use Rattle.avr_asm.proofs.CutLaws.{dropped_word}
use Rattle.avr_asm.proofs.text.front_word.Goals as goal

pub returns-clause-rest : goal.returns-clause-rest
returns-clause-rest c =
    take_rest c.args.text.now c.word_len-n.result ∙ ap (λ n. drop n c.args.text.now) c.word_len-n.ensures.value ∙ dropped_word c.args.text.now
