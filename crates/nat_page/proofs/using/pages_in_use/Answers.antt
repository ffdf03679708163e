use Rattle.std.proofs.Common.{arith}
use Rattle.nat_page.proofs.CountLaws.{none_used, one_more, no_more}
use Rattle.nat_page.proofs.using.pages_in_use.Goals.{then-word, else-word}
use Rattle.nat_page.proofs.using.pages_in_use.Goals as goal

pub loop-i-init : goal.loop-i-init
loop-i-init c = record { counted = none_used c.args.flash.now.words c.args.layout.now.pool_first; few = omega arith; whole = λ some. absurd (omega arith) }

pub loop-i-preserved : goal.loop-i-preserved
loop-i-preserved c =
    elim c.if-word.branch [
      | then-word w ↦ record {
        counted = omega (
          arith,
          w.pages-is,
          c.loop-i.invariant.counted,
          one_more c.args.flash.now.words c.args.layout.now.pool_first c.loop-i.i c.word.result c.word.ensures.value w.if-word.true,
        );
        few = omega (arith, w.pages-is, c.loop-i.invariant.few);
        whole = λ some. c.word.ensures.whole;
      }
      | else-word w ↦ record {
        counted = omega (
          arith,
          w.pages-is,
          c.loop-i.invariant.counted,
          no_more c.args.flash.now.words c.args.layout.now.pool_first c.loop-i.i c.word.result c.word.ensures.value w.if-word.false,
        );
        few = omega (arith, w.pages-is, c.loop-i.invariant.few);
        whole = λ some. c.word.ensures.whole;
      }
    ]

pub returns-clause-whole : goal.returns-clause-whole
returns-clause-whole c = c.loop-i.invariant.whole (omega (arith, c.requires.right.pool_pages, c.loop-i-test.false))
