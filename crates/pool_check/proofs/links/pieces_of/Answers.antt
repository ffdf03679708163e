use Rattle.std.proofs.Common.{◌≡◌, arith, sym, ap, ◌∙◌}
use Rattle.flash_words.specs.Pages.{page_of, word_at}
use Rattle.pool_check.specs.Forms.{first_told, last_told}
use Rattle.pool_check.proofs.FormLaws.{told, page_told}
use Rattle.pool_check.proofs.links.pieces_of.Goals as goal

pub first_of-requires : goal.first_of-requires
first_of-requires c =
    let is = told c.args.image.now (page_of c.args.flash.now.words c.args.page) c.requires.short c.requires.code in
    record { original = omega (arith, is.original, ap (λ words. word_at words 0) c.page_words-words.ensures.words) }

pub remade-requires-clause-some : goal.remade-requires-clause-some
remade-requires-clause-some c =
    omega (arith, (told c.args.image.now (page_of c.args.flash.now.words c.args.page) c.requires.short c.requires.code).some, ap (λ words. word_at words 1) c.page_words-words.ensures.words)

pub remade-requires-clause-few : goal.remade-requires-clause-few
remade-requires-clause-few c =
    omega (arith, (told c.args.image.now (page_of c.args.flash.now.words c.args.page) c.requires.short c.requires.code).few, ap (λ words. word_at words 1) c.page_words-words.ensures.words)

pub unreachable-requires : goal.unreachable-requires
unreachable-requires c =
    let own = page_of c.args.flash.now.words c.args.page in
    let first : first_told own ≡ c.first_of.result = sym (c.first_of.ensures.value ∙ ap first_told c.page_words-words.ensures.words) in
    let last : last_told own ≡ last_told c.page_words-words.result = sym (ap last_told c.page_words-words.ensures.words) in
    c.in-None.ensures.page (rw last at (rw first at (page_told c.args.image.now own c.requires.code)))
