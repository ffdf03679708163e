use Rattle.heap_frames.proofs.BootLaws.{boot_paged}
use Rattle.kernel_tests.proofs.services.kernel_at_boot.Goals as goal

pub returns : goal.returns
returns c = record { paged = rw (c.in_ok-mote.ensures.reset.sram, c.in_ok-mote.ensures.reset.swap) (boot_paged c.args.slots c.requires) }
