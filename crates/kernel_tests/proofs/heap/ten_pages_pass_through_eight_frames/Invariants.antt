use Rattle.heap_frames.specs.Paged.{IsPaged}
use Rattle.kernel_tests.proofs.heap.ten_pages_pass_through_eight_frames.Given as goal

abbrev pub invariant-loop-page : goal.invariant-loop-page
invariant-loop-page g l = IsPaged l.sram l.swap

abbrev pub invariant-loop-page-2 : goal.invariant-loop-page-2
invariant-loop-page-2 g l = IsPaged l.sram l.swap
