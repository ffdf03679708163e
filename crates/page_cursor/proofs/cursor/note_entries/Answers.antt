use Rattle.std.proofs.Common.{◌≡◌, ◌/◌, ◌<◌, arith, refl, ap, subst, ◌∙◌}
use Rattle.page_index.specs.Maps.{entry_count}
use Rattle.page_cursor.specs.Cursors.{AreNoted}
use Rattle.page_cursor.proofs.MarkLaws.{HasPlaces, near_address, near_page, noted_none, noted_next, known_quiet, known_next, others_next, with_entry_is}
use Rattle.page_cursor.proofs.cursor.note_entries.Goals as goal

pub entries-init : goal.entries-init
entries-init c = record {
  known = known_quiet c.args.marks.now c.args.page c.requires.quiet;
  noted = noted_none c.args.flash.now.words c.args.marks.now c.args.page c.requires.quiet;
  others = λ place apart. (refl, refl);
}

pub note-requires : goal.note-requires
note-requires c =
    let words = c.args.flash.now.words in
    let page = c.args.page in
    let i = c.entries.i in
    let listed : i < entry_count words page = omega (arith, c.entries-test.true, c.entries-i-end.ensures.value) in
    let inside : c.place_at-place.result / 128 ≡ page = ap (λ v. v / 128) c.place_at-place.ensures.value ∙ near_page words page i c.requires.below_kernel c.requires.map listed in
    record { known = c.entries.invariant.known c.place_at-place.result inside }

pub bounds-placed-from : goal.bounds-placed-from
bounds-placed-from c = omega (
  arith,
  near_address c.args.flash.now.words c.args.page c.entries.i c.requires.below_kernel c.requires.map
      (omega (arith, c.entries-test.true, c.entries-i-end.ensures.value)),
  c.address_at-address.ensures.value,
)

pub entries-preserved : goal.entries-preserved
entries-preserved c =
    let words = c.args.flash.now.words in
    let page = c.args.page in
    let i = c.entries.i in
    let at = c.entries.invariant in
    let listed : i < entry_count words page = omega (arith, c.entries-test.true, c.entries-i-end.ensures.value) in
    let is = with_entry_is _ _ _ _ _ _ _ c.note.ensures.marks c.place_at-place.ensures.value c.address_at-address.ensures.value in
    let size : HasPlaces c.entries.marks = record { quiet = c.note.ensures.sizes.0; marks = c.note.ensures.sizes.1 } in
    record {
      known = known_next words c.entries.marks c.note.new.self page i c.requires.below_kernel c.requires.map listed size is at.known;
      noted = noted_next words c.entries.marks c.note.new.self page i c.requires.below_kernel c.requires.map listed size is at.noted;
      others = others_next words c.args.marks.now c.entries.marks c.note.new.self page i c.requires.below_kernel c.requires.map listed is at.others;
    }

pub returns-clause-noted : goal.returns-clause-noted
returns-clause-noted c =
    let all : c.entries.i ≡ entry_count c.args.flash.now.words c.args.page = omega (arith, c.entries.auto.i-end, c.entries-test.false, c.entries-i-end.ensures.value) in
    subst (AreNoted c.args.flash.now.words c.entries.marks c.args.page) all c.entries.invariant.noted
