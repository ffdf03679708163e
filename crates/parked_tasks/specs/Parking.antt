-- What a task has of the mote (docs/TASKS.md, "What is shared, and what is exchanged"): it is parked while another task runs.
use Rattle.std.specs.Prelude.{◌≡◌, ℕ, ◌-◌, length}
use Rattle.sram_layout.specs.Bytes.{part_at, with_part}
use Rattle.sram_layout.specs.Regions.{Region, template_cells, frame_cells, swap_map, stack_window, through, between, KeepsRegion}
use Rattle.heap_frames.specs.Paged.{IsPaged}
use Rattle.mote_core.specs.declared.mote.Mote.{Mote}
use Rattle.kernel_entry.specs.declared.kernel.Kernel.{Kernel}
use Rattle.kernel_entry.specs.Seen.{state_at}
use Rattle.parked_tasks.specs.declared.parked.Parked.{Parked}

-- the kernel's cells and frame table: COUNT, what rewritten code saves, the frames, and what is to come of them
abbrev pub low_region : Region
low_region = through template_cells frame_cells

abbrev pub low_first : ℕ
low_first = low_region.first

abbrev pub low_count : ℕ
low_count = low_region.behind - low_first

-- the swap map, the frames and the stack window
abbrev pub high_region : Region
high_region = through swap_map stack_window

abbrev pub high_first : ℕ
high_first = high_region.first

abbrev pub high_count : ℕ
high_count = high_region.behind - high_first

-- its bytes of SRAM are as many
abbrev pub IsSized : Parked → Type 0
IsSized parked = (length parked.low ≡ low_count) × (length parked.high ≡ high_count)

-- what is parked of a mote
abbrev pub parked_of : Mote → Parked
parked_of m = record {
  cpu = m.cpu;
  low = part_at m.sram low_first low_count;
  high = part_at m.sram high_first high_count;
  swap = m.swap;
  devices = m.devices;
}

-- a mote that takes up what is parked; its flash and its other SRAM stay
abbrev pub taken_up : Mote → Parked → Mote
taken_up m parked = record m {
  cpu = parked.cpu;
  sram = with_part (with_part m.sram low_first parked.low) high_first parked.high;
  swap = parked.swap;
  devices = parked.devices;
}

-- what all tasks share: flash, and the kernel's tables of places with what stands before them
pub record Shares (old new : Mote) : Type 0 where
  pub flash : new.flash ≡ old.flash
  pub size : length new.sram ≡ length old.sram
  pub tables : KeepsRegion (between low_region high_region) old.sram new.sram

-- The task that was parked of the mote m stands in n: its core, each byte of SRAM that is its own, its devices and its swap,
-- so that its program has the state that it had, and its heap is paged as it was.
pub record IsBack (m n : Mote) : Type 0 where
  pub core : n.cpu ≡ m.cpu
  pub devices : n.devices ≡ m.devices
  pub swap : n.swap ≡ m.swap
  pub low : KeepsRegion low_region m.sram n.sram
  pub high : KeepsRegion high_region m.sram n.sram
  pub program : (k : Kernel) → (pc steps crossings : ℕ) → state_at (record k { mote = n }) pc steps crossings ≡ state_at (record k { mote = m }) pc steps crossings
  pub paged : IsPaged m.sram m.swap → IsPaged n.sram n.swap
