use Rattle.heap_frames.specs.Paged.{IsPaged}
use Rattle.kernel_tests.proofs.services.calls_and_returns_use_the_stack_window.Given as goal

abbrev pub invariant-loop-entry : goal.invariant-loop-entry
invariant-loop-entry g l = IsPaged l.k.value.mote.sram l.k.value.mote.swap
