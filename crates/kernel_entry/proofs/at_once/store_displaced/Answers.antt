use Rattle.std.proofs.Common.{◌≡◌, rules, subst}
use Rattle.avr_exec.specs.Asks.{displaced}
use Rattle.avr_exec.specs.Registers.{register}
use Rattle.mem_guard.specs.AtHand.{StoresAtHand}
use Rattle.kernel_entry.specs.Parts.{descriptor, core_of}
use Rattle.kernel_entry.proofs.AtOnce.{with_store, std_is}
use Rattle.kernel_entry.proofs.at_once.store_displaced.Goals as goal

pub returns-clause-executed : goal.returns-clause-executed
returns-clause-executed c =
    let k = c.args.k.now in
    let next = c.store_register.new.k in
    let v = register k.mote.cpu c.args.r.now in
    let there : c.displaced-a.result ≡ displaced (core_of k (descriptor k)) c.args.base.now c.args.q.now = search rules in
    λ yes. std_is k next c.args.base.now c.args.q.now c.args.r.now c.requires.paged (subst (λ a. StoresAtHand k.mote.sram a v) there (c.store_register.ensures.hit yes))
    (subst (λ a. next ≡ with_store k a v) there (c.store_register.ensures.after yes))
