use Rattle.std.proofs.Common.{sym, subst}
use Rattle.program_steps.specs.Wholes.{whole}
use Rattle.tk_watch.specs.Kept.{IsSpared}
use Rattle.tk_watch.proofs.steps.reach_of.Goals as goal

pub returns-in-Changes : goal.returns-in-Changes
returns-in-Changes c = record {
  spared = subst (λ view. IsSpared view (whole c.args.k.now c.args.p.now) c.within_reach.result.0 c.within_reach.result.1) (sym c.in-Changes.is)
      (c.within_reach.ensures.order, c.within_reach.ensures.few, c.within_reach.ensures.spared);
}
