use Rattle.std.proofs.Common.{◌≡◌, suc, length, ap, arith, ◌∙◌}
use Rattle.nat_template.specs.Stubs.{words_of}
use Rattle.page_draft.specs.Runs.{next_of}
use Rattle.page_draft.specs.CodePages.{filled}
use Rattle.flash_words.specs.Layouts.{image_of}
use Rattle.page_draft.proofs.RunLaws.{page_size-is, size-code}
use Rattle.page_draft.proofs.StartLaws.{length-starts}
use Rattle.page_draft.proofs.PageWords.{draft_page}
use Rattle.nat_page.proofs.GrowLaws.{draft_room, draft_small}
use Rattle.nat_page.proofs.drafting.draft_page.Goals as goal

pub words-requires-clause-fits : goal.words-requires-clause-fits
words-requires-clause-fits c =
    let words = c.args.flash.now.words in
    draft_room c.args.layout.now (image_of c.args.layout.now words) words c.args.t c.draft_run-here.new.draft c.draft_run-here.result c.draft_run-here.ensures.drafted

pub words-requires-clause-small : goal.words-requires-clause-small
words-requires-clause-small c =
    let words = c.args.flash.now.words in
    draft_small c.args.layout.now (image_of c.args.layout.now words) words c.args.t c.draft_run-here.new.draft c.draft_run-here.result c.draft_run-here.ensures.drafted

pub returns : goal.returns
returns c =
    let words = c.args.flash.now.words in
    let image = image_of c.args.layout.now words in
    let t = c.args.t in
    let draft = c.draft_run-here.new.draft in
    let drafted = c.draft_run-here.ensures.drafted in
    let last = drafted.last in
    let count : length draft.entries.items ≡ suc last = ap length drafted.entries ∙ length-starts image t (suc last) in
    let room = draft_room c.args.layout.now image words t draft c.draft_run-here.result drafted in
    let pieces = draft_page image draft.entries.items draft.code.items t last drafted.entries drafted.code in
    record {
      drafted = record {
        index = last;
        begun = drafted.begun;
        stops = drafted.stops;
        is = c.words.ensures.words ∙ ap (λ ps. filled (words_of ps)) pieces;
        front = omega (arith, c.len.ensures.value, count);
        sized = omega (arith, c.len.ensures.value, count, drafted.sized, page_size-is image t last, size-code image t last);
        last = drafted.reached;
        next = drafted.read.next ∙ ap (next_of image) drafted.reached;
      };
      few = omega (arith, c.len.ensures.value, room);
    }
