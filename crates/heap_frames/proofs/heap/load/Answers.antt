use Rattle.std.proofs.Common.{◌≡◌, ℕ, rules, subst, sym}
use Rattle.heap_frames.specs.Paging.{Store, heap_load}
use Rattle.heap_frames.specs.Changes.{Loaded}
use Rattle.heap_frames.proofs.LoadLaws.{load_leaves}
use Rattle.heap_frames.proofs.heap.load.Goals as goal

pub returns-then-slot-clause-loaded : goal.returns-then-slot-clause-loaded
unfolding heap_load
returns-then-slot-clause-loaded c =
    let before : Store = record { sram = c.args.sram.now; swap = c.args.swap.now } in
    let effect : (0, before) ≡ heap_load before c.args.a = search rules in
    subst (λ (r : ℕ × Store). Loaded before c.args.a r.0 r.1) (sym effect) (load_leaves before c.args.a c.requires.heap c.requires.paged)

pub returns-clause-loaded : goal.returns-clause-loaded
unfolding heap_load
returns-clause-loaded c =
    let before : Store = record { sram = c.args.sram.now; swap = c.args.swap.now } in
    let after : Store = record { sram = c.seat-frame.new.sram; swap = c.seat-frame.new.swap } in
    let effect : (c.byte.result, after) ≡ heap_load before c.args.a = search rules in
    subst (λ (r : ℕ × Store). Loaded before c.args.a r.0 r.1) (sym effect) (load_leaves before c.args.a c.requires.heap c.requires.paged)

pub returns-clause-paged : goal.returns-clause-paged
returns-clause-paged c = (returns-clause-loaded c).paged
