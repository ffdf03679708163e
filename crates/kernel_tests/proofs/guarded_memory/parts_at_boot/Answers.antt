use Rattle.heap_frames.proofs.BootLaws.{boot_paged}
use Rattle.kernel_tests.proofs.guarded_memory.parts_at_boot.Goals as goal

pub returns : goal.returns
returns c = record { paged = rw (c.new-3.ensures.value, c.in_ok-swap.ensures.value) (boot_paged c.args.slots c.requires) }
