use Rattle.std.proofs.Common.{◌≡◌, ◌+◌, ◌*◌, ◌/◌, ◌<◌, length, arith, sym, ap, ap₂, ◌∙◌}
use Rattle.flash_words.specs.Pages.{word_at}
use Rattle.flash_words.specs.Layouts.{image_of}
use Rattle.page_index.specs.Maps.{address_of, original_page}
use Rattle.page_draft.specs.CodePages.{Anywhere}
use Rattle.nat_page.proofs.WalkLaws.{own_run, own_page, is_found}
use Rattle.nat_page.proofs.unlinking.without_links.Goals as goal

pub overflow_mul-t : goal.overflow_mul-t
overflow_mul-t g c =
    let words = c.args.flash.now.words in
    let image = image_of c.args.layout.now words in
    let own = own_run Anywhere image words c.args.page c.requires.run.first c.requires.run.last c.requires.run.holds in
    let here : 128 * c.args.page + 0 ≡ 128 * c.args.page = omega arith in
    let original : original_page words c.args.page ≡ c.word.result = ap (word_at words) here ∙ sym c.word.ensures.value in
    let inside : address_of words c.args.page 0 < length image = own.holds.run.inside 0 (omega arith) in
    omega (arith, original, inside, c.requires.image, c.requires.right.image_fits)

pub overflow_add-t : goal.overflow_add-t
overflow_add-t g c =
    let words = c.args.flash.now.words in
    let page = c.args.page in
    let image = image_of c.args.layout.now words in
    let own = own_run Anywhere image words page c.requires.run.first c.requires.run.last c.requires.run.holds in
    let here : 128 * page + 0 ≡ 128 * page = omega arith in
    let original : original_page words page ≡ c.word.result = ap (word_at words) here ∙ sym c.word.ensures.value in
    let inside : address_of words page 0 < length image = own.holds.run.inside 0 (omega arith) in
    omega (arith, original, inside, c.requires.image, c.requires.right.image_fits, c.word-2.type_inv)

pub remade-requires-clause-some : goal.remade-requires-clause-some
remade-requires-clause-some g c =
    let words = c.args.flash.now.words in
    let own = own_run Anywhere (image_of c.args.layout.now words) words c.args.page c.requires.run.first c.requires.run.last c.requires.run.holds in
    omega (arith, own.some, c.word-3.ensures.value)

pub remade-requires-clause-few : goal.remade-requires-clause-few
remade-requires-clause-few g c =
    let words = c.args.flash.now.words in
    let own = own_run Anywhere (image_of c.args.layout.now words) words c.args.page c.requires.run.first c.requires.run.last c.requires.run.holds in
    omega (arith, own.few, c.word-3.ensures.value)

pub returns-in_default : goal.returns-in_default
returns-in_default g c =
    let words = c.args.flash.now.words in
    let page = c.args.page in
    let image = image_of c.args.layout.now words in
    let own = own_run Anywhere image words page c.requires.run.first c.requires.run.last c.requires.run.holds in
    let t : 128 * c.word.result + c.word-2.result / 256 ≡ address_of words page 0 = ap₂ (λ a b. 128 * a + b / 256) (c.word.ensures.value ∙ ap (word_at words) (omega arith)) c.word-2.ensures.value in
    let whole = own_page image words page (128 * c.word.result + c.word-2.result / 256) c.word-3.result own t c.word-3.ensures.value in
    let found = is_found _ _ _ whole c.remade.ensures.page c.in_default.not-Some in
    absurd found
