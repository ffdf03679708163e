use Rattle.std.proofs.Common.{◌≡◌, ap, subst, ◌∙◌}
use Rattle.flash_words.specs.Pages.{word_at, set_page, page_of, programmed}
use Rattle.flash_words.specs.Memory.{Memory}
use Rattle.flash_words.specs.JumpSets.{IsBlankFrom}
use Rattle.flash_words.proofs.ProgramLaws.{others_left}
use Rattle.flash_words.proofs.cells.Cells.program.Goals as goal

pub returns-clause-others : goal.returns-clause-others
returns-clause-others c = λ a out.
    let old = c.self.inside.words in
    let page = c.args.page in
    let new = c.args.words.now in
    let count = c.used_words-count.result in
    let is : c.cleared-cleared.result ≡ programmed (page_of old page) new = c.cleared-cleared.ensures.value ∙ ap (λ page. programmed page new) c.page.ensures.value in
    let rest = subst (λ page. IsBlankFrom page count) is c.used_words-count.ensures.rest in
    let whole = c.self.invariant.0 in
    let same : old ≡ c.args.self.now.words = ap (λ (m : Memory). m.words) (c.self.view_is ∙ c.in_ok-begin.ensures.going) in
    ap (λ words. word_at words a) (c.set.ensures.value ∙ ap (set_page old page) is) ∙ others_left old new page count a whole.words whole.words_fit c.requires.page c.told-words rest out
    ∙ ap (λ words. word_at words a) same
