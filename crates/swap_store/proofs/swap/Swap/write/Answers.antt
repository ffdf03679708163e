use Rattle.std.proofs.Common.{◌≡◌, length, arith, subst, sym}
use Rattle.std.proofs.lemmas.Grind.{common_steps}
use Rattle.swap_store.specs.Slots.{IsWhole, with_page}
use Rattle.swap_store.proofs.Laws.{written_whole}
use Rattle.swap_store.proofs.swap.Swap.write.Goals as goal

pub invariant_of-self : goal.invariant_of-self
unfolding with_page
invariant_of-self c =
    let fits : length c.args.page.now ≡ 256 = grind (arith, common_steps) in
    subst IsWhole (sym (grind (arith, common_steps))) (written_whole c.self.inside.pages.items c.args.slot c.args.page.now c.self.invariant (grind (arith, common_steps)) fits)

pub returns-clause-whole : goal.returns-clause-whole
returns-clause-whole c = (rw (← c.self.view_is) c.self.invariant, invariant_of-self c)
