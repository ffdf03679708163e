use Rattle.std.proofs.Common.{◌∙◌, ap, sym, refl, codes, ◌∷◌}
use Rattle.input_script.specs.Grammar.{said_in}
use Rattle.input_script.proofs.Words.{one_word, cut_word, event_words}
use Rattle.input_script.proofs.line.event_in.Goals as goal

pub returns-in_err-word : goal.returns-in_err-word
returns-in_err-word c = rw (c.from_residual.ensures, one_word c.args.input.now c.in_err-word.ensures.cases) (record { value = refl })

pub returns : goal.returns
returns c =
    let word = c.in_ok-word.word.now in
    let value = c.in_ok-word.value.now in
    let number = c.args.number.now in
    let cut = c.in_ok-word.ensures.cases in
    record {
      value = c.event_of.ensures.value ∙ sym (ap (λ words. said_in (codes "at" ∷ number ∷ words)) (cut_word c.args.input.now word value cut.0 cut.1) ∙ event_words number word value);
    }
