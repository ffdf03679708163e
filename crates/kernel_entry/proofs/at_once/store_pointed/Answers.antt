use Rattle.std.proofs.Common.{◌≡◌, rules, subst, ap, ◌∙◌}
use Rattle.avr_exec.specs.Effects.{with_pointer}
use Rattle.avr_exec.specs.Registers.{register}
use Rattle.mem_guard.specs.AtHand.{StoresAtHand}
use Rattle.kernel_entry.proofs.AtOnce.{with_store, pointed_at, pointing, st_is}
use Rattle.kernel_entry.proofs.at_once.store_pointed.Goals as goal

pub returns-then-store_register-clause-executed : goal.returns-then-store_register-clause-executed
returns-then-store_register-clause-executed c =
    let k = c.args.k.now in
    let left = c.store_register.new.k in
    let p = c.args.pointer.now in
    let v = register k.mote.cpu c.args.r.now in
    let there : c.target-a.result ≡ pointed_at k p = search rules in
    let value : c.pair-before.result ≡ pointing k p = search rules in
    λ yes. st_is k left p c.args.r.now c.move_pointer.new.cpu c.requires.paged (subst (λ a. StoresAtHand k.mote.sram a v) there (c.store_register.ensures.hit c.if-store_register.true))
    (subst (λ a. left ≡ with_store k a v) there (c.store_register.ensures.after c.if-store_register.true)) (c.move_pointer.ensures.after ∙ ap (with_pointer left.mote.cpu p) value)
