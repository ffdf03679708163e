use Rattle.std.proofs.Common.{sym, ◌∙◌, arith}
use Rattle.heap_frames.proofs.MemoryLaws.{page_byte, stack_byte, stack_from, stack_to, vmem_byte}
use Rattle.flat_machine.proofs.ClassLaws.{class_heap, class_stack}
use Rattle.tk_watch.proofs.HeldBytes.{no_memory_byte}
use Rattle.tk_watch.proofs.reading.memory_byte.Goals as goal

pub byte-requires : goal.byte-requires
byte-requires c =
    let stack = class_stack c.args.a (sym c.class.ensures.value ∙ c.in-Stack.is) in
    let from = stack_from c.args.a stack in
    let to = stack_to c.args.a stack in
    (omega (arith, from), omega (arith, to))

pub returns-in-Stack : goal.returns-in-Stack
returns-in-Stack c =
    let m = c.args.mote.now in
    let stack = class_stack c.args.a (sym c.class.ensures.value ∙ c.in-Stack.is) in
    record { value = c.byte.ensures.value ∙ sym (vmem_byte m.sram m.swap c.args.a (omega arith) ∙ stack_byte m.sram m.swap c.args.a stack) }

pub returns-in-Heap : goal.returns-in-Heap
returns-in-Heap c =
    let m = c.args.mote.now in
    let heap = class_heap c.args.a (sym c.class.ensures.value ∙ c.in-Heap.is) in
    record { value = c.heap_byte.ensures.value ∙ sym (vmem_byte m.sram m.swap c.args.a (omega arith) ∙ page_byte m.sram m.swap c.args.a heap) }

pub returns-in_default : goal.returns-in_default
returns-in_default c =
    let m = c.args.mote.now in
    record { value = sym (no_memory_byte m.sram m.swap c.args.a (omega arith) (λ is. c.in_default.not-Stack (c.class.ensures.value ∙ is)) (λ is. c.in_default.not-Heap (c.class.ensures.value ∙ is))) }
