use Rattle.std.proofs.Common.{◌+◌, ◌∷◌, ◌++◌, take, ap, ◌∙◌, sym}
use Rattle.std.proofs.lemmas.List.{take_rest}
use Rattle.text_lines.proofs.CutLaws.{lacks_unplaced, lacks_placed, cut_placed}
use Rattle.text_lines.proofs.cut.split_once.Goals as goal

pub returns-in_err-position : goal.returns-in_err-position
returns-in_err-position c = rw c.from_residual.ensures (record { cases = lacks_unplaced c.args.byte c.args.text.now (sym c.in_err-position.ensures.value) })

pub returns : goal.returns
returns c =
    let text = c.args.text.now in
    let position = c.in_ok-position.position in
    let here = sym c.in_ok-position.ensures.value in
    record {
      cases = (
        lacks_placed c.args.byte text position here,
        cut_placed c.args.byte text position here ∙ ap (λ rest. take position text ++ c.args.byte ∷ rest) (sym (take_rest text (position + 1))),
      );
    }
