use Rattle.std.proofs.Common.{◌/◌, ◌%◌, arith}
use Rattle.flash_words.proofs.NextPageLaws.{no_page}
use Rattle.flash_words.proofs.page_set.PageSet.is_empty.Goals as goal

pub returns : goal.returns
returns c = record { none = λ told page. no_page c.args.self.now page (c.words.invariant (page / 64 % 8) (omega (arith, c.words-test.false))) }
