use Rattle.cli_words.proofs.FirstWord.{first_bytes}
use Rattle.tk_watch.proofs.ViewWordsLaws.{no_view, wordy_view, plain_view}
use Rattle.tk_watch.proofs.words.view_of.Goals as goal

pub returns-in-Some-clause-cases : goal.returns-in-Some-clause-cases
returns-in-Some-clause-cases c =
    let cut = first_bytes c.args.words.now c.word-item.result _ c.in-len1-up.len_at_least c.word-item.is c.as_str-text.ensures.value in
    wordy_view _ _ _ _ c.in-Some.found.0 cut c.in-Some.ensures.cases

pub returns-in_err-view-in-None-clause-cases : goal.returns-in_err-view-in-None-clause-cases
returns-in_err-view-in-None-clause-cases c =
    let cut = first_bytes c.args.words.now c.word-item.result _ c.in-len1-up.len_at_least c.word-item.is c.as_str-text.ensures.value in
    rw c.from_residual.ensures (no_view _ _ _ cut c.in_err-view-in-None.ensures.view c.in-None.ensures.cases)

pub returns-in_ok-view-in-None-clause-cases : goal.returns-in_ok-view-in-None-clause-cases
returns-in_ok-view-in-None-clause-cases c =
    let cut = first_bytes c.args.words.now c.word-item.result _ c.in-len1-up.len_at_least c.word-item.is c.as_str-text.ensures.value in
    plain_view _ _ _ c.in_ok-view-in-None.view cut c.in_ok-view-in-None.ensures.view
