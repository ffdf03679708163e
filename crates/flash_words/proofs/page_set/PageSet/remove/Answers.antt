use Rattle.std.proofs.Common.{arith}
use Rattle.flash_words.proofs.PageSetLaws.{page_left}
use Rattle.flash_words.proofs.page_set.PageSet.remove.Goals as goal

pub returns : goal.returns
returns c = record { others = λ other apart has. page_left c.args.self.now c.word_of.result c.args.page other c.word_of.ensures.value (omega arith) apart has }
