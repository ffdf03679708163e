use Rattle.std.proofs.Common.{◌/◌, arith, refl, sym, ap, ◌∙◌}
use Rattle.flash_words.specs.Pages.{page_words}
use Rattle.flash_words.specs.Layouts.{image_of}
use Rattle.page_draft.specs.Standing.{jump_word}
use Rattle.nat_page.proofs.RelinkLaws.{link_placed}
use Rattle.nat_page.proofs.UnlinkLaws.{page_of_two}
use Rattle.branch_bridge.specs.Operating.{perform, rewriting}
use Rattle.branch_bridge.proofs.ResolveLaws.{told_resolving}
use Rattle.branch_bridge.proofs.resolving.resolve.Goals as goal

pub patched-words-requires : goal.patched-words-requires
patched-words-requires c =
    record { room = (link_placed _ _ _ _ _ jump_word c.args.place c.requires.right c.requires.code.whole c.requires.stub.unresolved.link).room }

pub rewrite-requires-clause-page : goal.rewrite-requires-clause-page
rewrite-requires-clause-page c =
    let words = c.args.flash.now.words in
    omega (arith, (link_placed _ _ words _ _ jump_word c.args.place c.requires.right c.requires.code.whole c.requires.stub.unresolved.link).low)

pub returns : goal.returns
returns c =
    let layout = c.args.layout.now in
    let old = c.args.flash.now in
    let new = c.rewrite.new.flash in
    let s = c.args.stub in
    let place = c.args.place in
    let image = image_of layout old.words in
    let can = c.requires.stub in
    let placed = link_placed layout image old.words s can.target jump_word place c.requires.right c.requires.code.whole can.unresolved.link in
    let same = c.patched-words.ensures.words ∙ sym (page_of_two old.words (s / page_words) s jump_word place (omega (arith, c.requires.code.whole, placed.low)) refl placed.room) in
    let performed = sym (ap (λ w. perform old (rewriting (s / page_words) w)) same) ∙ c.rewrite.ensures.performed in
    let told = rw performed at (told_resolving layout image old s can.target place c.requires.right c.requires.code can.unresolved can.entry) in
    record {
      performed = performed;
      code = told.code;
      image = told.same_image;
      used = told.used;
      ops = told.ops;
      entries = λ a v. (told.entries a v, told.entries_back a v);
    }
