use Rattle.std.proofs.Common.{◌≡◌, rules, subst}
use Rattle.avr_exec.specs.Asks.{displaced}
use Rattle.kernel_entry.specs.AtOnce.{IsLoaded}
use Rattle.kernel_entry.specs.Parts.{descriptor, core_of}
use Rattle.kernel_entry.proofs.AtOnce.{ldd_is}
use Rattle.kernel_entry.proofs.at_once.load_displaced.Goals as goal

pub returns-clause-executed : goal.returns-clause-executed
returns-clause-executed c =
    let k = c.args.k.now in
    let next = c.load_register.new.k in
    let there : c.displaced-a.result ≡ displaced (core_of k (descriptor k)) c.args.base.now c.args.q.now = search rules in
    λ yes. ldd_is k next c.args.d.now c.args.base.now c.args.q.now c.requires.paged (subst (λ a. IsLoaded k c.args.d.now a next) there (c.load_register.ensures.loaded yes))
