use Rattle.heap_frames.specs.Paged.{IsPaged}
use Rattle.kernel_tests.proofs.services.ends_and_steps_of_the_kernel.Given as goal

abbrev pub invariant-loop-entry : goal.invariant-loop-entry
invariant-loop-entry g l = IsPaged l.k.value.mote.sram l.k.value.mote.swap
