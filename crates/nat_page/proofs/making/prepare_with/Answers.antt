use Rattle.std.proofs.Common.{◌+◌, ◌*◌}
use Rattle.flash_words.specs.Layouts.{image_of}
use Rattle.nat_page.proofs.DraftedLaws.{prepared_of}
use Rattle.nat_page.proofs.OnePage.{one_page}
use Rattle.nat_page.proofs.making.prepare_with.Goals as goal

pub returns : goal.returns
returns c =
    let layout = c.args.layout.now in
    let words = c.args.flash.now.words in
    let image = image_of layout words in
    let page = c.args.page in
    let t = c.args.t in
    let draft = c.draft_page-draft.result in
    let prepared = prepared_of layout image words page t draft c.requires.free c.draft_page-draft.ensures.drafted in
    record { prepared = prepared; only = λ words' place prepared'. one_page layout image words page t words' draft.words place (128 * page + draft.front) prepared' prepared }
