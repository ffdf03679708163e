use Rattle.heap_frames.specs.Paged.{IsPaged}
use Rattle.kernel_tests.proofs.guarded_memory.past_the_last_address.Given as goal

abbrev pub invariant-loop-z : goal.invariant-loop-z
invariant-loop-z g l = IsPaged l.parts.value.sram l.parts.value.swap
