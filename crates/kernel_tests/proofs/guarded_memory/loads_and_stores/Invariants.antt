use Rattle.heap_frames.specs.Paged.{IsPaged}
use Rattle.kernel_tests.proofs.guarded_memory.loads_and_stores.Given as goal

abbrev pub invariant-loop-a : goal.invariant-loop-a
invariant-loop-a g l = IsPaged l.parts.value.sram l.parts.value.swap

abbrev pub invariant-loop-a-2 : goal.invariant-loop-a-2
invariant-loop-a-2 g l = IsPaged l.parts.value.sram l.parts.value.swap
