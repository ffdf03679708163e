use Rattle.std.proofs.Common.{arith}
use Rattle.std.proofs.lemmas.Grind.{common_steps}
use Rattle.hex_image.proofs.PlaceLemmas.{put_all, put_more}
use Rattle.hex_image.proofs.places.put_bytes.Goals as goal

pub loop-i-preserved : goal.loop-i-preserved
loop-i-preserved c = λ cells are none.
    put_more cells _ _ c.args.start c.loop-i.i _ c.args.content.now c.loop-i-test.true (grind (arith, common_steps)) none
    (c.loop-i.invariant cells are none) c.in_ok-put_byte.ensures.size c.in_ok-put_byte.ensures.here c.in_ok-put_byte.ensures.others

pub returns-clause-put : goal.returns-clause-put
returns-clause-put c = λ cells are none. put_all cells _ c.args.start c.loop-i.i c.args.content.now c.loop-i-test.false (c.loop-i.invariant cells are none)
