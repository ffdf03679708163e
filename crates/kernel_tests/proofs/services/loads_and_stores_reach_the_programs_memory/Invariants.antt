use Rattle.heap_frames.specs.Paged.{IsPaged}
use Rattle.kernel_tests.proofs.services.loads_and_stores_reach_the_programs_memory.Given as goal

abbrev pub invariant-loop-access : goal.invariant-loop-access
invariant-loop-access g l = IsPaged l.k.value.mote.sram l.k.value.mote.swap
