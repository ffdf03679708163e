use Rattle.std.proofs.Common.{◌≡◌, arith, ap, refl, sym, ◌∙◌, Some}
use Rattle.page_index.specs.Maps.{address_of}
use Rattle.page_index.specs.Entries.{Lists}
use Rattle.page_index.proofs.MapLaws.{free_lists_nothing, map_of_entry, same_place}
use Rattle.page_index.proofs.page.address_in.Goals as goal

pub returns-then-is_free-clause-only : goal.returns-then-is_free-clause-only
returns-then-is_free-clause-only c = λ i t lists.
    absurd (free_lists_nothing c.args.flash.now.words c.args.page i t c.args.place (c.is_free.ensures.value.0 c.if-is_free.true) lists)

pub returns-then-page-entry-clause-only : goal.returns-then-page-entry-clause-only
returns-then-page-entry-clause-only c = λ i t lists.
    let words = c.args.flash.now.words in
    let page = c.args.page in
    let map = map_of_entry words page i t c.args.place c.requires.mapped lists in
    let found : Lists words page c.loop-i.i (address_of words page c.loop-i.i) c.args.place = record {
      used = map.original;
      near = omega arith;
      listed = omega arith;
      address = refl;
      place = omega arith;
    } in
    let address : address_of words page c.loop-i.i ≡ t = ap (address_of words page) (same_place words page c.loop-i.i i _ t c.args.place map found lists) ∙ sym lists.address in
    ap Some (omega arith)
