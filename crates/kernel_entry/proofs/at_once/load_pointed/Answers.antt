use Rattle.std.proofs.Common.{◌≡◌, rules, subst, ap, ◌∙◌}
use Rattle.avr_exec.specs.Effects.{with_pointer}
use Rattle.kernel_entry.specs.AtOnce.{IsLoaded}
use Rattle.kernel_entry.proofs.AtOnce.{pointed_at, pointing, ld_is}
use Rattle.kernel_entry.proofs.at_once.load_pointed.Goals as goal

pub returns-then-load_register-clause-executed : goal.returns-then-load_register-clause-executed
returns-then-load_register-clause-executed c =
    let k = c.args.k.now in
    let left = c.load_register.new.k in
    let p = c.args.pointer.now in
    let there : c.target-a.result ≡ pointed_at k p = search rules in
    let value : c.pair-before.result ≡ pointing k p = search rules in
    λ yes. ld_is k left c.args.d.now p c.move_pointer.new.cpu c.requires.paged (subst (λ a. IsLoaded k c.args.d.now a left) there (c.load_register.ensures.loaded c.if-load_register.true))
    (c.move_pointer.ensures.after ∙ ap (with_pointer left.mote.cpu p) value)
