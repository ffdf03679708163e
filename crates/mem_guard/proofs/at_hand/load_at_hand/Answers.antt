use Rattle.std.proofs.Common.{◌≡◌, rules, sym, subst}
use Rattle.flat_machine.specs.declared.address.AddrClass.TheVariants.{Stack, Heap}
use Rattle.flat_machine.specs.Classes.{class_of}
use Rattle.mem_guard.specs.AtHand.{LoadsAtHand}
use Rattle.mem_guard.proofs.AtHandLaws.{loads_stack, loads_found}
use Rattle.mem_guard.proofs.at_hand.load_at_hand.Goals as goal

pub returns-in-Stack : goal.returns-in-Stack
returns-in-Stack c =
    let is : class_of c.args.a ≡ Stack = search rules in
    record { hit = subst (λ b. LoadsAtHand c.args.sram.now c.args.a b) (sym c.byte.ensures.value) (loads_stack c.args.sram.now c.args.a is) }

pub returns-in-Heap : goal.returns-in-Heap
returns-in-Heap c =
    let is : class_of c.args.a ≡ Heap = search rules in
    record { hit = loads_found c.args.sram.now c.args.a c.load_in_frame.result is c.load_in_frame.ensures.hit }
