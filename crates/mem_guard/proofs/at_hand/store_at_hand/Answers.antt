use Rattle.std.proofs.Common.{◌≡◌, rules, ◌∙◌}
use Rattle.flat_machine.specs.declared.address.AddrClass.TheVariants.{Stack, Heap}
use Rattle.flat_machine.specs.Classes.{class_of}
use Rattle.mem_guard.proofs.AtHandLaws.{stores_stack, stores_heap, stack_after, heap_after}
use Rattle.mem_guard.proofs.at_hand.store_at_hand.Goals as goal

pub returns-in-Stack-clause-hit : goal.returns-in-Stack-clause-hit
returns-in-Stack-clause-hit c =
    let is : class_of c.args.a ≡ Stack = search rules in
    λ yes. stores_stack c.args.sram.now c.args.a c.args.v is

pub returns-in-Stack-clause-after : goal.returns-in-Stack-clause-after
returns-in-Stack-clause-after c =
    let is : class_of c.args.a ≡ Stack = search rules in
    λ yes. c.set.ensures.after ∙ stack_after c.args.sram.now c.args.a c.args.v is

pub returns-in-Heap-clause-hit : goal.returns-in-Heap-clause-hit
returns-in-Heap-clause-hit c =
    let is : class_of c.args.a ≡ Heap = search rules in
    λ yes. stores_heap c.args.sram.now c.args.a c.args.v is (c.store_in_frame.ensures.hit yes)

pub returns-in-Heap-clause-after : goal.returns-in-Heap-clause-after
returns-in-Heap-clause-after c =
    let is : class_of c.args.a ≡ Heap = search rules in
    λ yes. c.store_in_frame.ensures.after yes ∙ heap_after c.args.sram.now c.args.a c.args.v is
