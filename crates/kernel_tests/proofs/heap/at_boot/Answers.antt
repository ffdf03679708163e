use Rattle.heap_frames.proofs.BootLaws.{boot_paged}
use Rattle.kernel_tests.proofs.heap.at_boot.Goals as goal

pub returns-in-Ok : goal.returns-in-Ok
returns-in-Ok c = record { paged = rw (c.new-in-Ok.ensures.value, c.in-Ok.ensures.value) (boot_paged c.args.slots c.requires) }
