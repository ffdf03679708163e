use Rattle.std.proofs.Common.{◌+◌, ◌*◌, ◌≤◌, length, arith, ap, ◌∙◌}
use Rattle.flash_words.specs.Pages.{page_of}
use Rattle.flash_words.specs.Operations.{programmed_page}
use Rattle.flash_words.proofs.PageLaws.{page_same}
use Rattle.tk_restart.proofs.SweepLaws.{blank_long}
use Rattle.tk_restart.proofs.AroundLaws.{around_torn}
use Rattle.tk_restart.proofs.tearing.tear.Goals as goal

pub program-requires-clause-erased : goal.program-requires-clause-erased
program-requires-clause-erased c =
    ap (λ m. page_of m.words c.args.page) c.erase.ensures.after ∙ page_same _ _ _ blank_long (omega (arith, c.erase.ensures.whole.0.words))

pub returns-clause-around : goal.returns-clause-around
returns-clause-around c = λ layout image right pool around.
    let inside : 128 * c.args.page + 128 ≤ length c.args.flash.now.words = omega (arith, c.erase.ensures.whole.0.words) in
    around_torn _ _ _ _ _ _ c.told-words inside pool (c.program.ensures.after ∙ ap (λ m. programmed_page m c.args.page c.args.words.now) c.erase.ensures.after) around
