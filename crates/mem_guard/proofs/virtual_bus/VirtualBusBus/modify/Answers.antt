use Rattle.mem_guard.proofs.Alike.{modify_alike}
use Rattle.mem_guard.proofs.Leaves.{modify_leaves_kept}
use Rattle.mem_guard.proofs.FlatCalls.{flat_answer, kept_by, heap_by}
use Rattle.mem_guard.proofs.virtual_bus.VirtualBusBus.modify.Goals as goal

pub returns-clause-flat : goal.returns-clause-flat
returns-clause-flat c = flat_answer _ _ _ _ c.modify_register.ensures.answer (modify_alike _ c.args.a c.args.clear c.args.set)

pub returns-clause-kept : goal.returns-clause-kept
returns-clause-kept c = kept_by _ _ _ _ _ c.requires.ready.paged c.modify_register.ensures.answer
    (modify_leaves_kept _ c.args.a c.args.clear c.args.set c.requires.ready.paged) c.modify_register.ensures.stop

pub returns-clause-heap : goal.returns-clause-heap
returns-clause-heap c = heap_by _ _ _ _ _ c.modify_register.ensures.answer (modify_leaves_kept _ c.args.a c.args.clear c.args.set c.requires.ready.paged)
