use Rattle.std.proofs.Common.{sym, ◌∙◌, arith, rules}
use Rattle.flash_dump.proofs.DumpLineLaws.{number_fits, other_number, other_words, told_page}
use Rattle.flash_dump.proofs.dump_line.page_line_in.Goals as goal

pub overflow_cast-result : goal.overflow_cast-result
overflow_cast-result c = omega (arith, number_fits c.args.line.now c.if-line-ne-LINE_BYTES.false c.in_ok-page.ensures.cases.0, c.in_ok-page.ensures.cases.1)

pub returns : goal.returns
returns c = record {
  cases = record {
    form = told_page c.args.line.now c.if-line-ne-LINE_BYTES.false (sym c.begins.ensures.value ∙ c.if-not-begins.false) (search rules) c.in_ok-page.ensures.cases.0 c.in_ok-words.ensures.cases.0;
    page_is = c.in_ok-page.ensures.cases.1;
    words_are = c.in_ok-words.ensures.cases.1;
  };
}

pub returns-in_err-words : goal.returns-in_err-words
returns-in_err-words c = rw c.from_residual-in_err-words.ensures (record { cases = other_words c.args.line.now c.in_err-words.ensures.cases })

pub returns-in_err-page : goal.returns-in_err-page
returns-in_err-page c = rw c.from_residual.ensures (record { cases = other_number c.args.line.now c.in_err-page.ensures.cases })
