use Rattle.mem_guard.proofs.Alike.{load_alike}
use Rattle.mem_guard.proofs.Leaves.{load_leaves_kept}
use Rattle.mem_guard.proofs.FlatCalls.{flat_answer, kept_by, heap_by}
use Rattle.mem_guard.proofs.virtual_bus.VirtualBusBus.load.Goals as goal

pub returns-clause-flat : goal.returns-clause-flat
returns-clause-flat c = flat_answer _ _ _ _ c.load_byte.ensures.answer (load_alike _ c.args.a c.requires.ready.paged)

pub returns-clause-kept : goal.returns-clause-kept
returns-clause-kept c = kept_by _ _ _ _ _ c.requires.ready.paged c.load_byte.ensures.answer (load_leaves_kept _ c.args.a c.requires.ready.paged) c.load_byte.ensures.stop

pub returns-clause-heap : goal.returns-clause-heap
returns-clause-heap c = heap_by _ _ _ _ _ c.load_byte.ensures.answer (load_leaves_kept _ c.args.a c.requires.ready.paged)
