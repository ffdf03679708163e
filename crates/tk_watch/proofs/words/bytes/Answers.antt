use Rattle.std.proofs.Common.{map, string_bytes, subst, sym}
use Rattle.tk_watch.specs.ViewWords.{AskForBytes}
use Rattle.tk_watch.proofs.ViewWordsLaws.{bytes_first, bytes_size}
use Rattle.tk_watch.proofs.words.bytes.Goals as goal

pub returns-in_err-at : goal.returns-in_err-at
returns-in_err-at c =
    let first = c.in_ok-first.first.now in
    let size = c.in_ok-first.size.now in
    let rest = map string_bytes c.in_ok-first.rest.now in
    record {
      cases = rw c.from_residual-in_err-at.ensures (λ behind at count ask. bytes_first c.args.lowest c.args.most first size rest behind at count c.in_err-at.ensures.cases
          (subst (λ w. AskForBytes c.args.lowest c.args.most w behind at count) c.in_ok-first.ensures.cases ask));
    }

pub returns-in_err-count : goal.returns-in_err-count
returns-in_err-count c =
    let first = c.in_ok-first.first.now in
    let size = c.in_ok-first.size.now in
    let rest = map string_bytes c.in_ok-first.rest.now in
    record {
      cases = rw c.from_residual-in_err-count.ensures (λ behind at count ask. bytes_size c.args.lowest c.args.most first size rest behind at count (sym c.in_err-count.ensures.value)
          (subst (λ w. AskForBytes c.args.lowest c.args.most w behind at count) c.in_ok-first.ensures.cases ask));
    }
