use Rattle.std.proofs.Common.{◌≡◌, ℕ, ◌+◌, ◌*◌, ◌/◌, ◌%◌, ◌<◌, Bool, take, arith, ◌∙◌}
use Rattle.nat_template.specs.declared.piece.Piece.TheVariants.{Fixed, Link}
use Rattle.nat_page.specs.Unlinking.{links_where}
use Rattle.nat_page.proofs.PatchLaws.{IsNext, next_piece, patched_link, patched_next, patched_fixed}
use Rattle.nat_page.proofs.unlinking.unlink.Goals as goal
use Rattle.nat_page.proofs.unlinking.unlink.Goals.{in-Fixed, in-Link}

pub overflow_add-at : goal.overflow_add-at
overflow_add-at g c =
    let next : IsNext c.args.pieces.now c.pieces.piece-index (Fixed c.in-Fixed.field-0) = next_piece _ _ _ _ c.pieces-test.true c.in-Fixed.is in
    omega (arith, next.room, c.pieces.invariant.reached, c.requires.fits, c.requires.low)

pub unlink_one-requires : goal.unlink_one-requires
unlink_one-requires g c =
    let next : IsNext c.args.pieces.now c.pieces.piece-index (Link c.in-Link.t) = next_piece c.args.pieces.now c.pieces.piece-index (Link c.in-Link.t) _ c.pieces-test.true c.in-Link.is in
    record { room = omega (arith, next.room, c.pieces.invariant.reached, c.requires.fits) }

pub overflow_add-at-in-Link : goal.overflow_add-at-in-Link
overflow_add-at-in-Link g c =
    let next : IsNext c.args.pieces.now c.pieces.piece-index (Link c.in-Link.t) = next_piece c.args.pieces.now c.pieces.piece-index (Link c.in-Link.t) _ c.pieces-test.true c.in-Link.is in
    omega (arith, next.room, c.pieces.invariant.reached, c.requires.fits, c.requires.low)

pub pieces-preserved : goal.pieces-preserved
pieces-preserved g c =
    let words = c.args.flash.now.words in
    let page = c.args.page in
    let i = c.pieces.piece-index in
    let pieces = c.args.pieces.now in
    let test : ℕ → ℕ → Bool = g.L.LinkTest.test c.args.links.now in
    let from = 128 * page in
    elim c.match-piece.branch [
      | in-Fixed w ↦ (
          let next : IsNext pieces i (Fixed w.in-Fixed.field-0) = next_piece pieces i (Fixed w.in-Fixed.field-0) _ c.pieces-test.true w.in-Fixed.is in
          record {
            reached = w.at-is ∙ omega (arith, next.longer, c.pieces.invariant.reached);
            patched = rw w.patch-is
                (patched_next words test page from c.pieces.at i pieces (Fixed w.in-Fixed.field-0) c.pieces.patch next c.pieces.invariant.reached
                (patched_fixed words page c.pieces.patch (links_where words test from (take i pieces)) c.pieces.invariant.patched));
          })
      | in-Link w ↦ (
          let next : IsNext pieces i (Link w.in-Link.t) = next_piece pieces i (Link w.in-Link.t) _ c.pieces-test.true w.in-Link.is in
          let own : c.pieces.at / 128 ≡ page = omega (arith, next.room, c.pieces.invariant.reached, c.requires.fits) in
          let room : c.pieces.at % 128 + 1 < 128 = omega (arith, next.room, c.pieces.invariant.reached, c.requires.fits) in
          let after = w.unlink_one.new.patch in
          record {
            reached = w.at-is ∙ omega (arith, next.longer, c.pieces.invariant.reached);
            patched = rw w.patch-is
                (patched_next words test page from c.pieces.at i pieces (Link w.in-Link.t) after next c.pieces.invariant.reached
                (patched_link words test page c.pieces.at w.in-Link.t c.pieces.patch after
                (links_where words test from (take i pieces)) w.unlink_one.ensures.whole c.requires.low own room w.unlink_one.ensures.stays w.unlink_one.ensures.calls c.pieces.invariant.patched));
          })
    ]
