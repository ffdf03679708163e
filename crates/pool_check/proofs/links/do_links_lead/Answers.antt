use Rattle.std.proofs.Common.{arith}
use Rattle.nat_template.specs.declared.piece.Piece.TheVariants.{Fixed}
use Rattle.pool_check.proofs.LinkTests.{each_on, each_off, size_on}
use Rattle.pool_check.proofs.links.do_links_lead.Goals as goal

pub loop-piece-preserved : goal.loop-piece-preserved
loop-piece-preserved c =
    let i = c.loop-piece.piece-index in
    let pieces = c.args.pieces.now in
    let here = c.is_right_piece.ensures.value.0 c.if-not-is_right_piece.false in
    record {
      counted = omega (arith, size_on i pieces (Fixed 0) c.loop-piece-test.true, c.width-place.ensures.value, c.loop-piece.invariant.counted);
      onward = λ all. rw c.width-place.ensures.value (each_on _ c.loop-piece.place i pieces _ c.loop-piece-test.true (c.loop-piece.invariant.onward all));
      back = λ all. c.loop-piece.invariant.back (each_off _ c.loop-piece.place i pieces _ c.loop-piece-test.true here (rw c.width-place.ensures.value at all));
    }
