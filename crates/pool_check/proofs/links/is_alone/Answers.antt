use Rattle.std.proofs.Common.{below_more}
use Rattle.page_index.proofs.MapLaws.{free_lists_nothing}
use Rattle.pool_check.proofs.links.is_alone.Goals as goal

pub returns-then-is_free : goal.returns-then-is_free
returns-then-is_free c =
    record { value = (λ yes' lower i j t v v' pool below lists lists'. free_lists_nothing c.args.flash.now.words c.args.page j t v' (c.is_free.ensures.value.0 c.if-is_free.true) lists', λ alone. cc) }

pub loop-i-preserved : goal.loop-i-preserved
loop-i-preserved c = below_more _ _ c.loop-i.invariant (rw c.address_at.ensures.value at (c.is_unlisted.ensures.value.0 c.if-not-is_unlisted.false))
