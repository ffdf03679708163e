use Rattle.text_lines.proofs.TextLaws.{no_lines}
use Rattle.std.proofs.Common.{◌≡◌, ◌∙◌, ◌++◌, ℕ, List, length, arith, ap, subst}
use Rattle.std.proofs.lemmas.List.{length-append}
use Rattle.text_lines.specs.Lines.{lines_of}
use Rattle.task_input.specs.Scripts.{own_line}
use Rattle.task_input.specs.Reading.{ended}
use Rattle.task_input.proofs.OwnTexts.{IsWritten, written_more, written_all, own_within}
use Rattle.task_input.proofs.lines.own_text.Goals as goal

pub lines-preserved : goal.lines-preserved
lines-preserved c =
    let P : List (List ℕ) → Type 0 = λ rest. IsWritten c.args.task (lines_of c.args.text.now) c.lines.own.items rest in
    let line = c.first_line.result.0.now in
    let put : c.put_line.new.own.items ≡ c.lines.own.items ++ ended (own_line c.args.task line) = c.in_ok-put_line.ensures.items ∙ ap (λ l. c.lines.own.items ++ ended l) c.own_line.ensures.value in
    record {
      written = written_more c.args.task (lines_of c.args.text.now) c.lines.own.items c.put_line.new.own.items line (lines_of c.first_line.result.1.now)
          (subst P c.first_line.ensures.lines c.lines.invariant.written) put;
      short = omega (
        arith,
        c.lines.invariant.short,
        ap length put,
        length-append c.lines.own.items (ended (own_line c.args.task line)),
        own_within c.args.task c.lines.rest.now line c.first_line.result.1.now c.first_line.ensures.cut,
      );
    }

pub returns-clause-lines : goal.returns-clause-lines
returns-clause-lines c =
    let P : List (List ℕ) → Type 0 = λ rest. IsWritten c.args.task (lines_of c.args.text.now) c.lines.own.items rest in
    written_all c.args.task c.args.text.now c.lines.own.items (subst P (no_lines c.lines.rest.now c.lines-test.ensures) c.lines.invariant.written)
