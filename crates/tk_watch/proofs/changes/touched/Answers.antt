use Rattle.std.proofs.Common.{◌+◌, subst, arith, inl, inr}
use Rattle.tk_watch.specs.Touching.{IsTouched}
use Rattle.tk_watch.proofs.Reaching.{nothing_touched}
use Rattle.tk_watch.proofs.changes.touched.Goals as goal

pub returns-in-Store-clause-all : goal.returns-in-Store-clause-all
returns-in-Store-clause-all c = λ i below is.
    let same = subst (λ ask. IsTouched ask (c.args.at + i)) c.in-Store.is is in
    c.part.ensures.all i below (omega (arith, same)) (omega (arith, same))

pub returns-in-PushByte-clause-all : goal.returns-in-PushByte-clause-all
returns-in-PushByte-clause-all c = λ i below is.
    let same = subst (λ ask. IsTouched ask (c.args.at + i)) c.in-PushByte.is is in
    c.part-in-PushByte.ensures.all i below (omega (arith, same)) (omega (arith, same))

pub returns-in-PushReturn-clause-all : goal.returns-in-PushReturn-clause-all
returns-in-PushReturn-clause-all c = λ i below is.
    elim (subst (λ ask. IsTouched ask (c.args.at + i)) c.in-PushReturn.is is) [
      | inl same ↦ c.part-in-PushReturn.ensures.all i below (omega (arith, same, c.saturating_sub.ensures)) (omega (arith, same))
      | inr next ↦ c.part-in-PushReturn.ensures.all i below (omega (arith, next, c.saturating_sub.ensures)) (omega (arith, next))
    ]

pub returns-in_default-clause-all : goal.returns-in_default-clause-all
returns-in_default-clause-all c = λ i below is. absurd (nothing_touched c.args.ask (c.args.at + i) c.in_default.not-Store c.in_default.not-PushByte c.in_default.not-PushReturn is)
