use Rattle.std.proofs.Common.{arith}
use Rattle.flash_words.proofs.PageSetLaws.{page_added, page_apart, page_stays}
use Rattle.flash_words.proofs.page_set.PageSet.add.Goals as goal

pub returns-clause-added : goal.returns-clause-added
returns-clause-added c = page_added c.args.self.now c.word_of.result c.args.page c.word_of.ensures.value (omega arith)

pub returns-clause-others : goal.returns-clause-others
returns-clause-others c = λ other. page_stays c.args.self.now c.word_of.result c.args.page other c.word_of.ensures.value (omega arith)

pub returns-clause-only : goal.returns-clause-only
returns-clause-only c = λ other. page_apart c.args.self.now c.word_of.result c.args.page other c.word_of.ensures.value (omega arith)
