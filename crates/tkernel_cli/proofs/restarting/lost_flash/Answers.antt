use Rattle.std.proofs.Common.{ℕ, ◌<◌, ap, ap₂, ◌∙◌, subst, arith}
use Rattle.std.specs.Prelude.{Option, Some, None, IfSome}
use Rattle.flash_words.specs.Pages.{page_count}
use Rattle.flash_words.specs.Layouts.{IsRight}
use Rattle.flash_words.specs.declared.layout.Layout.{Layout}
use Rattle.flash_words.specs.Operations.{renewed}
use Rattle.page_index.specs.Maps.{IsPool}
use Rattle.kernel_entry.specs.Parts.{image_held}
use Rattle.program_steps.specs.Machines.{Machine}
use Rattle.program_steps.specs.Ready.{IsKept}
use Rattle.tk_restart.specs.Losing.{lost_in}
use Rattle.tkernel_cli.specs.RestartRuns.{refused_in}
use Rattle.tkernel_cli.proofs.LostFlash.{around_machine}
use Rattle.tkernel_cli.proofs.restarting.lost_flash.Goals as goal

-- a page of the pool is one of flash
of_flash : (layout : Layout) (page : Option ℕ) → IsRight layout → IfSome page (IsPool layout) → IfSome page (λ p. p < page_count)
of_flash layout None right pool = pool
of_flash layout (Some page) right pool = omega (arith, pool.to, right.pool_below_kernel)

pub lose-requires-clause-page : goal.lose-requires-clause-page
lose-requires-clause-page c =
    let kept = subst IsKept c.machine.view_is c.machine.invariant in
    let refused = c.refused-page.ensures.value ∙ ap (λ (n : Machine). n.kernel.mote.flash.refused) c.machine.view_is in
    rw refused (of_flash _ _ kept.sound.order.right kept.sound.order.tried.pool)

pub returns-clause-lost : goal.returns-clause-lost
returns-clause-lost c =
    let refused = c.refused-page.ensures.value ∙ ap (λ (n : Machine). n.kernel.mote.flash.refused) c.machine.view_is in
    let renewed_is = c.renew.ensures.renewed ∙ ap (λ (n : Machine). renewed n.kernel.mote.flash) c.machine.view_is in
    let op = c.refused_op-op.ensures.value ∙ ap (λ (n : Machine). refused_in n.end) c.machine.view_is in
    c.lose.ensures.after
    ∙ ap (λ f. lost_in c.refused_op-op.result c.refused-page.result f) renewed_is
    ∙ ap₂ (λ o p. lost_in o p (renewed c.args.machine.kernel.mote.flash)) op refused

pub returns-clause-around : goal.returns-clause-around
returns-clause-around c =
    let kept = subst IsKept c.machine.view_is c.machine.invariant in
    let m : Machine = c.args.machine in
    let renewed_is = c.renew.ensures.renewed ∙ ap (λ (n : Machine). renewed n.kernel.mote.flash) c.machine.view_is in
    let refused = c.refused-page.ensures.value ∙ ap (λ (n : Machine). n.kernel.mote.flash.refused) c.machine.view_is in
    let layout = m.kernel.layout in
    let own = around_machine m kept.sound.order in
    c.lose.ensures.around layout (image_held m.kernel) kept.sound.order.right (rw refused kept.sound.order.tried.pool) (rw renewed_is own)
