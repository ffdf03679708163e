-- The regions of SRAM, and what it is that one of them stays (docs/MEMORY.md, "SRAM"; docs/MOTE.md, "SRAM").
use Rattle.std.specs.Prelude.{◌≡◌, ℕ, ◌+◌, ◌<◌, ◌≤◌, ◌⊎◌, ◌&&◌, nat_le, nat_lt, Bool, List, length}
use Rattle.sram_layout.specs.Bytes.{first_address, byte_count, byte_at}

-- the data addresses from `first` on, before `behind`
pub record Region : Type 0 where
  pub first : ℕ
  pub behind : ℕ

-- All of SRAM (ATmega128 datasheet, "SRAM Data Memory"), and its regions from the first byte on. -----

abbrev pub whole_sram : Region
whole_sram = record { first = first_address; behind = first_address + byte_count }

-- what stubs and templates write of the kernel's: COUNT and R24, which crossings use; SREG, the program's stack pointer
-- and its Z, which inline templates use; and one byte to spare
abbrev pub template_cells : Region
template_cells = record { first = 0x0100; behind = 0x0108 }

abbrev pub crossing_cells : Region
crossing_cells = record { first = 0x0100; behind = 0x0102 }

abbrev pub inline_cells : Region
inline_cells = record { first = 0x0102; behind = 0x0107 }

-- the kernel's own stack
abbrev pub kernel_stack : Region
kernel_stack = record { first = 0x011E; behind = 0x0120 }

-- the frame table, the frame to replace next, and how many slots are given
abbrev pub frame_cells : Region
frame_cells = record { first = 0x0120; behind = 0x0142 }

-- RING and the tables of places; and of these the two tables alone
abbrev pub place_cells : Region
place_cells = record { first = 0x0142; behind = 0x0400 }

abbrev pub place_tables : Region
place_tables = record { first = 0x0180; behind = 0x0400 }

abbrev pub swap_map : Region
swap_map = record { first = 0x0400; behind = 0x0500 }

-- the eight frames of the heap
abbrev pub frames : Region
frames = record { first = 0x0500; behind = 0x0D00 }

abbrev pub stack_window : Region
stack_window = record { first = 0x0D00; behind = 0x1100 }

-- from the first of one region to the last of another, and what lies between two
abbrev pub through : Region → Region → Region
through low high = record { first = low.first; behind = high.behind }

abbrev pub between : Region → Region → Region
between low high = record { first = low.behind; behind = high.first }

-- Addresses and bytes. ------------------------------------------------------------------------------

-- the address lies in the region
abbrev pub is_within : Region → ℕ → Bool
is_within region a = nat_le region.first a && nat_lt a region.behind

-- the bytes of the region stay
abbrev pub KeepsRegion : Region → (old new : List ℕ) → Type 0
KeepsRegion region old new = (a : ℕ) → region.first ≤ a → a < region.behind → byte_at new a ≡ byte_at old a

-- all other bytes stay, and as many as there were
pub record KeepsOutside (region : Region) (old new : List ℕ) : Type 0 where
  pub size : length new ≡ length old
  pub rest : (a : ℕ) → first_address ≤ a → (a < region.first) ⊎ (region.behind ≤ a) → byte_at new a ≡ byte_at old a
