-- Serves the contracts of `VirtualBus`: what one stands for.
use Rattle.std.specs.Borrow.{GName}
use Rattle.flash_words.specs.Memory.{Memory}
use Rattle.flash_words.specs.declared.layout.Layout.{Layout}
use Rattle.mem_guard.specs.declared.virtual_bus.VirtualBus.{VirtualBus}
use Rattle.flat_machine.specs.FlatSpace.{FlatSpace}
use Rattle.mem_guard.specs.Guarded.{Guarded, flat_of}

-- what it reaches, as plain data
abbrev pub guarded_of : VirtualBus → Guarded
guarded_of b = record {
  sram = b.sram.now;
  swap = b.swap.now;
  devices = b.devices.now;
  words = b.flash.now.words;
  layout = b.layout.now;
  line = b.line;
}

-- what the program sees of it: flat memory
abbrev pub seen_of : VirtualBus → FlatSpace
seen_of b = flat_of (guarded_of b)

-- which objects it borrows
abbrev pub Lent : Type 0
Lent = GName × GName × GName × Memory × Layout

abbrev pub lent_of : VirtualBus → Lent
lent_of b = (b.sram.ghost_name, b.swap.ghost_name, b.devices.ghost_name, b.flash.now, b.layout.now)
