use Rattle.std.proofs.Common.{◌/◌, ◌<◌, ℕ, List, length, ap, arith, refl, sym, ◌∙◌}
use Rattle.flash_words.proofs.PageLaws.{length-page_of}
use Rattle.flash_words.specs.Pages.{page_words, word_at}
use Rattle.flash_words.specs.Layouts.{image_of}
use Rattle.kept_drafts.specs.contracts.keeping.KeptDraft.{the_view}
use Rattle.kept_drafts.proofs.KeepLaws.{flash_has, serves_now}
use Rattle.kept_drafts.proofs.keeping.KeptDraft.serves.Goals as goal

pub are_same-requires : goal.are_same-requires
are_same-requires c = record { size = ap length c.page.ensures.value ∙ length-page_of c.args.flash.now.words (c.args.t / page_words) (omega (arith, c.page.ensures.whole.words)) }

pub returns : goal.returns
returns c =
    let layout = c.args.layout.now in
    let words = c.args.flash.now.words in
    let image = image_of layout words in
    let t = c.args.t in
    let inside = c.self.inside in
    let draft = c.self.invariant.drafted c.if-not-self.false in
    record {
      serves = λ same.
          let original = λ (k : ℕ) (near : k < page_words). ap (λ (ws : List ℕ). word_at ws k) (sym c.page.ensures.value) ∙ c.are_same.ensures.same same k near in
          let read = flash_has layout words inside.original (t / page_words) inside.behind c.page.ensures.whole.words c.requires.image c.requires.right.image_fits original
          (c.if-self-word_behind.false ∙ c.word_behind.ensures.word) in
          serves_now layout image words (the_view inside) c.args.self.now c.args.known.now draft.0 t draft.1 c.self.view_is c.if-self-t.false c.requires.known
          (c.requires.image ∙ sym c.if-self-layout.false) read (λ k above below. c.if-not-none_is_known.ensures.none refl k above below) (c.if-not-stops_still.ensures.still refl);
    }
