use Rattle.std.proofs.Common.{arith, inl, inr, ◌∙◌}
use Rattle.flash_words.specs.Pages.{page_of}
use Rattle.page_draft.specs.CodePages.{IsCodePage}
use Rattle.pool_check.proofs.LinkTests.{free_links, links_by, links_back, is_so_not}
use Rattle.pool_check.proofs.links.has_links.Goals as goal

pub returns-then-is_free : goal.returns-then-is_free
returns-then-is_free c =
    record { value = (λ is_so. free_links _ _ _ _ (omega (arith, c.requires.length, c.requires.right.image_fits)) (c.is_free.ensures.value.0 c.if-is_free.true), λ links. cc) }

pub returns : goal.returns
returns c =
    let words = c.args.flash.now.words in
    let page = c.args.page in
    let code : IsCodePage c.args.image.now (page_of words page) 0 = elim (c.requires.form.pool c.requires.page) [
      | inl free ↦ absurd (is_so_not (c.is_free.ensures.value.1 free) c.if-is_free.false)
      | inr code ↦ code
    ] in
    let is = c.deref.ensures.0 ∙ c.pieces_of.ensures.pieces in
    record {
      value = (
        λ lead. links_by c.args.layout.now c.args.image.now words page c.deref.result.now code is (c.is_alone.ensures.value.0 c.if-not-is_alone.false) (c.do_links_lead.ensures.value.0 lead),
        λ links. c.do_links_lead.ensures.value.1 (links_back c.args.layout.now c.args.image.now words page c.deref.result.now code is links),
      );
    }
