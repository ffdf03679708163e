use Rattle.std.proofs.Common.{◌≡◌, arith}
use Rattle.std.proofs.lemmas.Grind.{common_steps}
use Rattle.swap_store.specs.Slots.{zero_slots}
use Rattle.swap_store.proofs.Laws.{zero_slots_whole}
use Rattle.swap_store.proofs.swap.Swap.new.Goals as goal

pub invariant_of-result : goal.invariant_of-result
unfolding zero_slots
invariant_of-result c =
    let made : c.resize.new.self.items ≡ zero_slots c.args.slots = grind (arith, common_steps) in
    rw made (zero_slots_whole c.args.slots c.requires)

pub returns-clause-whole : goal.returns-clause-whole
unfolding zero_slots
returns-clause-whole c =
    let made : c.resize.new.self.items ≡ zero_slots c.args.slots = grind (arith, common_steps) in
    rw made (zero_slots_whole c.args.slots c.requires)
