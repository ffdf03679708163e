use Rattle.std.proofs.Common.{length, arith, ap}
use Rattle.flash_words.proofs.PageLaws.{length-page_of}
use Rattle.nat_page.proofs.unlinking.page_words.Goals as goal

pub copy_from_slice-requires : goal.copy_from_slice-requires
copy_from_slice-requires c = omega (arith, ap length c.page.ensures.value, length-page_of c.args.flash.now.words c.args.page (omega (arith, c.page.ensures.whole.words)))
