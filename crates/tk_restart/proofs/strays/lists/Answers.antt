use Rattle.std.proofs.Common.{◌≡◌, ◌/◌, arith, sym, ap, ◌∙◌}
use Rattle.flash_words.specs.Pages.{word_at}
use Rattle.flash_words.specs.Layouts.{most_entries}
use Rattle.page_index.specs.Maps.{original_page}
use Rattle.tk_restart.proofs.StrayLaws.{no_item, item_more, item_among, listed_by}
use Rattle.tk_restart.proofs.strays.lists.Goals as goal

pub entries-init : goal.entries-init
entries-init c = no_item c.args.flash.now.words c.args.t c.args.place

pub returns-then-is_entry : goal.returns-then-is_entry
returns-then-is_entry c =
    let words = c.args.flash.now.words in
    let v = c.args.place in
    let original : original_page words (v / 128) ≡ c.word.result = ap (word_at words) (omega arith) ∙ sym c.word.ensures.value in
    record {
      value = listed_by words c.args.t v (omega (arith, original, c.if-word-ge-MOST_IMAGE_PAGES.false))
          (item_among words c.args.t v most_entries c.entries.i (omega (arith, c.entries-test.true)) (sym c.is_entry.ensures.value ∙ c.if-is_entry.true));
    }

pub entries-preserved : goal.entries-preserved
entries-preserved c = item_more c.args.flash.now.words c.args.t c.args.place c.entries.i (sym c.is_entry.ensures.value ∙ c.if-is_entry.false) c.entries.invariant
