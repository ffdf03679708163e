use Rattle.mem_guard.proofs.Alike.{pop_return_alike}
use Rattle.mem_guard.proofs.Leaves.{pop_return_leaves_kept}
use Rattle.mem_guard.proofs.FlatCalls.{flat_answer, kept_by, heap_by}
use Rattle.mem_guard.proofs.virtual_bus.VirtualBusBus.pop_ret.Goals as goal

pub returns-clause-flat : goal.returns-clause-flat
returns-clause-flat c = flat_answer _ _ _ _ c.pop_return.ensures.answer (pop_return_alike _ c.args.sp c.requires.ready.paged)

pub returns-clause-kept : goal.returns-clause-kept
returns-clause-kept c = kept_by _ _ _ _ _ c.requires.ready.paged c.pop_return.ensures.answer (pop_return_leaves_kept _ c.args.sp c.requires.ready.paged) c.pop_return.ensures.stop

pub returns-clause-heap : goal.returns-clause-heap
returns-clause-heap c = heap_by _ _ _ _ _ c.pop_return.ensures.answer (pop_return_leaves_kept _ c.args.sp c.requires.ready.paged)
