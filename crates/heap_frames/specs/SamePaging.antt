-- Two states of SRAM with the same frames and slots. m and n are lists of SRAM's bytes.
use Rattle.std.specs.Prelude.{◌≡◌, ℕ, List, length}
use Rattle.sram_layout.specs.Regions.{frame_cells, swap_map, frames, through, KeepsRegion}

-- the frame table, the two counts, the swap map and the frames are the same
pub record SamePaging (m n : List ℕ) : Type 0 where
  pub size : length n ≡ length m
  pub cells : KeepsRegion frame_cells m n
  pub tables : KeepsRegion (through swap_map frames) m n
