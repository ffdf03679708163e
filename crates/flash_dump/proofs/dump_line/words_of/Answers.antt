use Rattle.std.proofs.Common.{arith}
use Rattle.flash_dump.proofs.DumpLineLaws.{all_words, word_of_all, words_told}
use Rattle.flash_dump.proofs.dump_line.words_of.Goals as goal

pub returns : goal.returns
returns c = record {
  cases = (
    all_words c.args.line.now c.requires.size (λ k below. c.words.invariant.digits k (omega (arith, c.words-test.false))),
    words_told c.args.line.now c.words.words c.words.invariant.long (λ k below. c.words.invariant.done k (omega (arith, c.words-test.false))),
  );
}

pub returns-in_err-words : goal.returns-in_err-words
returns-in_err-words c = rw c.from_residual.ensures (record { cases = λ all. c.in_err-words.ensures.cases (word_of_all c.args.line.now c.words.k all) })
