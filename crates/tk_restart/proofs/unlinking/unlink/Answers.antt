use Rattle.std.proofs.Common.{ℕ, ◌+◌, ◌≤◌, length, arith, ap, ◌∙◌, subst}
use Rattle.flash_words.specs.Layouts.{image_of, most_image_words}
use Rattle.page_index.specs.Maps.{IsPool}
use Rattle.tk_restart.specs.Unlinking.{IsUnlinked, has_strays, unlinked_page}
use Rattle.tk_restart.proofs.CountLaws.{count_most}
use Rattle.tk_restart.proofs.PageLaws.{image_there}
use Rattle.tk_restart.proofs.UnlinkingLaws.{behind_all, unlinked_all, unlinked_none, unlinked_one}
use Rattle.tk_restart.proofs.unlinking.unlink.Goals as goal

pub pages-init : goal.pages-init
pages-init c = unlinked_none c.args.layout.now (image_of c.args.layout.now c.args.flash.now.words) c.args.flash.now

pub unlink_page-requires-clause-code : goal.unlink_page-requires-clause-code
unlink_page-requires-clause-code c =
    let layout = c.args.layout.now in
    let page = layout.pool_first + c.pages.k in
    let pool : IsPool layout page = record { from = omega arith; to = omega (arith, c.pages-test.true) } in
    let same = image_there layout c.args.flash.now.words c.pages.flash.words c.requires.right c.requires.whole c.pages.invariant.size c.pages.invariant.outside in
    rw same (behind_all _ _ _ _ _ _ (omega (arith, c.requires.image, c.requires.right.image_fits)) c.requires.right c.requires.whole c.requires.codes c.pages.invariant pool).kind

pub unlink_page-requires-clause-room : goal.unlink_page-requires-clause-room
unlink_page-requires-clause-room c =
    let layout = c.args.layout.now in
    let most = count_most (has_strays layout (image_of layout c.args.flash.now.words) c.args.flash.now.words) layout.pool_first c.pages.k in
    omega (arith, most, c.pages.invariant.ops, c.requires.room, c.pages-test.true, c.requires.right.pool_below_kernel)

pub pages-preserved : goal.pages-preserved
pages-preserved c =
    let layout = c.args.layout.now in
    let old = c.args.flash.now in
    let now = c.pages.flash in
    let page = layout.pool_first + c.pages.k in
    let pool : IsPool layout page = record { from = omega arith; to = omega (arith, c.pages-test.true) } in
    let image = image_of layout old.words in
    let short : length image ≤ most_image_words = omega (arith, c.requires.image, c.requires.right.image_fits) in
    let same = image_there layout old.words now.words c.requires.right c.requires.whole c.pages.invariant.size c.pages.invariant.outside in
    unlinked_one layout image old now c.unlink_page.new.flash c.pages.k short c.requires.right c.requires.whole c.requires.codes c.unlink_page.ensures.whole pool c.pages.invariant
    (c.unlink_page.ensures.after ∙ ap (λ held. unlinked_page layout held now page) same)

pub returns : goal.returns
returns c =
    let layout = c.args.layout.now in
    let P : ℕ → Type 0 = λ k. IsUnlinked layout (image_of layout c.args.flash.now.words) c.args.flash.now c.pages.flash k in
    record { unlinks = unlinked_all layout (image_of layout c.args.flash.now.words) c.args.flash.now c.pages.flash (subst P (omega (arith, c.pages.auto.k-end, c.pages-test.false)) c.pages.invariant) }
