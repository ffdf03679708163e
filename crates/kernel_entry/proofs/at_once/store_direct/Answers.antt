use Rattle.kernel_entry.proofs.AtOnce.{sts_is}
use Rattle.kernel_entry.proofs.at_once.store_direct.Goals as goal

pub returns-clause-executed : goal.returns-clause-executed
returns-clause-executed c =
    λ yes. sts_is c.args.k.now c.store_register.new.k c.args.a c.args.r.now c.requires.paged (c.store_register.ensures.hit yes) (c.store_register.ensures.after yes)
