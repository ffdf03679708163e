use Rattle.std.proofs.Common.{[], ◌∷◌, codes, refl, sym, ap, ◌∙◌, inl}
use Rattle.std.proofs.lemmas.Slice.Eq.{bytes_eq-Decides}
use Rattle.tk_watch.proofs.Exactly.{one_word}
use Rattle.tk_watch.proofs.top.usage_status.Goals as goal

pub returns-in-len1 : goal.returns-in-len1
returns-in-len1 c =
    let word = c.as_str.result.now in
    let help = (bytes_eq-Decides word (codes "help")).0 (sym c.eq.ensures ∙ c.if-eq.true) in
    let alone = one_word c.args.words.now c.word-item.result word c.in-len1.len_at_least c.in-len1.len_below c.word-item.is c.as_str.ensures.value in
    record { status = inl (alone ∙ ap (λ w. w ∷ []) help, refl) }
