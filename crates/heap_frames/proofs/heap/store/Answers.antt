use Rattle.std.proofs.Common.{◌≡◌, rules, subst, sym, Some}
use Rattle.heap_frames.specs.Paging.{Store, heap_store}
use Rattle.heap_frames.specs.Changes.{StoredOr}
use Rattle.heap_frames.proofs.StoreLaws.{store_leaves}
use Rattle.heap_frames.proofs.heap.store.Goals as goal

pub returns-then-slot-clause-stored : goal.returns-then-slot-clause-stored
unfolding heap_store
returns-then-slot-clause-stored c =
    let before : Store = record { sram = c.args.sram.now; swap = c.args.swap.now } in
    let after : Store = record { sram = c.put_byte.new.sram; swap = c.seat-frame.new.swap } in
    let effect : Some after ≡ heap_store before c.args.a c.args.v = search rules in
    subst (StoredOr before c.args.a c.args.v) (sym effect) (store_leaves before c.args.a c.args.v c.requires.heap c.requires.paged)

pub returns-then-given-slots-clause-stored : goal.returns-then-given-slots-clause-stored
unfolding heap_store
returns-then-given-slots-clause-stored c =
    let before : Store = record { sram = c.args.sram.now; swap = c.args.swap.now } in
    let after : Store = record { sram = c.put_byte-then-given-slots.new.sram; swap = c.begin-frame.new.swap } in
    let effect : Some after ≡ heap_store before c.args.a c.args.v = search rules in
    subst (StoredOr before c.args.a c.args.v) (sym effect) (store_leaves before c.args.a c.args.v c.requires.heap c.requires.paged)

pub returns-then-slot-clause-paged : goal.returns-then-slot-clause-paged
returns-then-slot-clause-paged c = (returns-then-slot-clause-stored c).paged

pub returns-then-given-slots-clause-paged : goal.returns-then-given-slots-clause-paged
returns-then-given-slots-clause-paged c = (returns-then-given-slots-clause-stored c).paged
