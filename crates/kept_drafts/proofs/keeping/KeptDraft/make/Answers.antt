use Rattle.std.proofs.Common.{◌/◌, ℕ, List, ap, arith, sym, ◌∙◌}
use Rattle.flash_words.specs.Pages.{page_words, word_at}
use Rattle.flash_words.specs.Layouts.{image_of}
use Rattle.nat_page.proofs.DraftedLaws.{prepared_of}
use Rattle.kept_drafts.proofs.KeepLaws.{undecoded_stand, flash_has, stops_alone}
use Rattle.kept_drafts.proofs.keeping.KeptDraft.make.Goals as goal

pub invariant_of-self : goal.invariant_of-self
invariant_of-self c =
    let layout = c.args.layout.now in
    let words = c.args.flash.now.words in
    let image = image_of layout words in
    let t = c.args.t in
    let drafted = c.draft_page-page.ensures.drafted in
    let last = drafted.index in
    let next = drafted.next in
    record {
      drafted = λ made. (
        image,
        record {
          index = last;
          short = omega (arith, c.requires.image, c.requires.right.image_fits);
          run = drafted.begun.run;
          fits = drafted.begun.fits;
          last = drafted.last;
          next = next;
          at_entry = c.is_entry_behind.ensures.paged;
          alone = λ none. stops_alone layout image words t last c.args.known.now c.requires.known c.requires.image (drafted.begun.run.paged last (omega arith)) drafted.stops
              (λ same inside. rw next at
              (c.is_entry_behind.ensures.none none (ap (λ a. a / page_words) next ∙ same) (omega (arith, next, inside))));
          words = drafted.is;
          front = drafted.front;
          sized = sym c.requires.image;
          read = flash_has layout words c.page_words.result (t / page_words) c.word_behind.result c.page_words.ensures.whole.words
              c.requires.image c.requires.right.image_fits (λ k near. ap (λ (ws : List ℕ). word_at ws k) (sym c.page_words.ensures.words)) c.word_behind.ensures.word;
        },
      );
      few = c.draft_page-page.ensures.few;
      micro_ops = undecoded_stand c.draft_page-page.result.words;
    }

pub returns : goal.returns
returns c =
    let layout = c.args.layout.now in
    let words = c.args.flash.now.words in
    record { serves = λ page free. prepared_of layout (image_of layout words) words page c.args.t c.draft_page-page.result free c.draft_page-page.ensures.drafted }
