use Rattle.std.proofs.Common.{map, string_bytes, subst, sym}
use Rattle.tk_watch.specs.ViewWords.{AskForTrace}
use Rattle.tk_watch.proofs.ViewWordsLaws.{trace_from, trace_rows}
use Rattle.tk_watch.proofs.words.trace.Goals as goal

pub returns-in_err-first-clause-cases : goal.returns-in_err-first-clause-cases
returns-in_err-first-clause-cases c =
    let from = c.in_ok-from.from.now in
    let rows = c.in_ok-from.rows.now in
    let rest = map string_bytes c.in_ok-from.rest.now in
    rw c.from_residual-in_err-first.ensures (λ behind view ask. trace_from from rows rest behind view (sym c.in_err-first.ensures.value)
    (subst (λ w. AskForTrace w behind view) c.in_ok-from.ensures.cases ask))

pub returns-in_err-count-clause-cases : goal.returns-in_err-count-clause-cases
returns-in_err-count-clause-cases c =
    let from = c.in_ok-from.from.now in
    let rows = c.in_ok-from.rows.now in
    let rest = map string_bytes c.in_ok-from.rest.now in
    rw c.from_residual-in_err-count.ensures (λ behind view ask. trace_rows from rows rest behind view (sym c.in_err-count.ensures.value)
    (subst (λ w. AskForTrace w behind view) c.in_ok-from.ensures.cases ask))
