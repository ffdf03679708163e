-- What a load and a store of the heap leave (docs/MEMORY.md, "How a page is found"). The heap is SRAM's bytes and the swap's pages.
use Rattle.std.specs.Prelude.{◌≡◌, ◌≢◌, ℕ, ◌+◌, ◌/◌, ◌%◌, ◌<◌, true, false, is_some, Option, None, Some, List, length, slice_index, slice_set, slice_index_or}
use Rattle.sram_layout.specs.Regions.{template_cells, kernel_stack, place_cells, stack_window, through, KeepsRegion}
use Rattle.heap_frames.specs.Frames.{resident_pages, frame_of, victim, given, slot_of, has_slot, pages}
use Rattle.heap_frames.specs.Memory.{vmem}
use Rattle.heap_frames.specs.Paged.{IsPaged}
use Rattle.heap_frames.specs.Paging.{Store}

-- SRAM's bytes stay, but for the cells of frames and slots, the swap map and the frames themselves
pub record LeavesOthers (m n : List ℕ) : Type 0 where
  pub cells : KeepsRegion (through template_cells kernel_stack) m n
  pub tables : KeepsRegion place_cells m n
  pub window : KeepsRegion stack_window m n

-- a frame holds the page in n. Where one did in m, all frames stay; else the next frame was replaced, and it alone
pub record TakesFrame (m n : List ℕ) (page : ℕ) : Type 0 where
  pub holds : (i : ℕ) × (i < 8) × (slice_index_or (resident_pages n) i None ≡ Some page)
  pub stays : is_some (frame_of m page) ≡ true → (resident_pages n ≡ resident_pages m) × (victim n ≡ victim m)
  pub comes : is_some (frame_of m page) ≡ false → (resident_pages n ≡ slice_set (resident_pages m) (victim m) (Some page)) × (victim n ≡ (victim m + 1) % 8)

-- a load at address a gave this byte, and left the heap so
pub record Loaded (before : Store) (a byte : ℕ) (after : Store) : Type 0 where
  pub value : byte ≡ slice_index (vmem before.sram before.swap) a
  pub memory : vmem after.sram after.swap ≡ vmem before.sram before.swap
  pub paged : IsPaged after.sram after.swap
  -- the slots stay
  pub pages : pages after.sram ≡ pages before.sram
  pub slots : (page : ℕ) → page < 256 → slot_of after.sram page ≡ slot_of before.sram page
  pub given : given after.sram ≡ given before.sram
  pub count : length after.swap ≡ length before.swap
  pub others : LeavesOthers before.sram after.sram
  pub frames : has_slot before.sram (a / 256) ≡ true → TakesFrame before.sram after.sram (a / 256)
  -- where the page has no slot, nothing changes
  pub idle : has_slot before.sram (a / 256) ≡ false → after ≡ before

-- a byte was stored at address a, and the heap is left so
pub record Stored (before : Store) (a byte : ℕ) (after : Store) : Type 0 where
  pub memory : vmem after.sram after.swap ≡ slice_set (vmem before.sram before.swap) a byte
  pub paged : IsPaged after.sram after.swap
  -- the page has a slot: its own, or else the next one
  pub pages : pages after.sram ≡ slice_set (pages before.sram) (a / 256) true
  pub slots : (page : ℕ) → page < 256 → page ≢ a / 256 → slot_of after.sram page ≡ slot_of before.sram page
  pub kept : has_slot before.sram (a / 256) ≡ true → (slot_of after.sram (a / 256) ≡ slot_of before.sram (a / 256)) × (given after.sram ≡ given before.sram)
  pub next : has_slot before.sram (a / 256) ≡ false → (slot_of after.sram (a / 256) ≡ given before.sram) × (given after.sram ≡ given before.sram + 1)
  pub count : length after.swap ≡ length before.swap
  pub others : LeavesOthers before.sram after.sram
  pub frames : TakesFrame before.sram after.sram (a / 256)

-- the page has no slot, and all slots are given
pub record IsFull (m : List ℕ) (w : List (List ℕ)) (page : ℕ) : Type 0 where
  pub absent : has_slot m page ≡ false
  pub spent : given m ≡ length w

-- what a store at address a did: it stored the byte, or it was refused for want of a slot
abbrev pub StoredOr : Store → ℕ → ℕ → Option Store → Type 0
StoredOr before a byte (Some after) = Stored before a byte after
StoredOr before a byte None = IsFull before.sram before.swap (a / 256)
