-- Serves the contracts of `VirtualBus`: when the guarded space may be used.
use Rattle.std.specs.Prelude.{◌<◌, ◌^◌}
use Rattle.heap_frames.specs.Paged.{IsPaged}
use Rattle.mem_guard.specs.Guarded.{Guarded}

-- the heap is kept in order, and the devices can be polled once more
pub record IsReady (g : Guarded) : Type 0 where
  pub paged : IsPaged g.sram g.swap
  pub room : g.devices.polls < 2 ^ 63
