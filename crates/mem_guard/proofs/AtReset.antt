-- The mote at boot is the original program's machine at reset: its memory and its pages.
use Rattle.std.proofs.Common.{◌≡◌, ℕ, List}
use Rattle.base.specs.Lists.{zeros}
use Rattle.sram_layout.specs.Boot.{at_boot}
use Rattle.heap_frames.specs.Frames.{pages}
use Rattle.heap_frames.specs.Memory.{vmem}
use Rattle.heap_frames.proofs.BootLaws.{boot_memory, boot_pages}
use Rattle.flat_machine.specs.FlatMachine.{no_pages}

-- whatever the swap holds, all of the memory is 0
pub memory_at_reset : (w : List (List ℕ)) → vmem at_boot w ≡ zeros 65536
memory_at_reset w = boot_memory w

-- and no page was stored to
pub pages_at_reset : pages at_boot ≡ no_pages
unfolding no_pages
pages_at_reset = boot_pages
