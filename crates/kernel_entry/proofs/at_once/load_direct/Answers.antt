use Rattle.kernel_entry.proofs.AtOnce.{lds_is}
use Rattle.kernel_entry.proofs.at_once.load_direct.Goals as goal

pub returns-clause-executed : goal.returns-clause-executed
returns-clause-executed c = λ yes. lds_is c.args.k.now c.load_register.new.k c.args.d.now c.args.a c.requires.paged (c.load_register.ensures.loaded yes)
