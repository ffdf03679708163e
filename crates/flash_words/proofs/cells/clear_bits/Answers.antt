use Rattle.std.proofs.Common.{◌≡◌, arith, ap, ◌∙◌}
use Rattle.std.proofs.lemmas.Grind.{common_steps}
use Rattle.flash_words.specs.Pages.{programmed}
use Rattle.flash_words.proofs.Programming.{programmed-blank}
use Rattle.flash_words.proofs.cells.clear_bits.Goals as goal

pub returns-clause-fresh : goal.returns-clause-fresh
returns-clause-fresh c = λ erased.
    let done : c.loop-i.page ≡ programmed c.args.page.now c.args.words.now = grind (arith, common_steps) in
    done ∙ ap (λ page. programmed page c.args.words.now) erased ∙ programmed-blank c.args.words.now c.told-words (λ k below. c.loop-i.invariant.fit k (omega arith))
