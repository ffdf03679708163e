-- When the kernel's cells, the frames and the swap fit together (docs/MEMORY.md, "How a page is found"). m is the list of SRAM's bytes, w the list of the swap's pages.
use Rattle.std.specs.Prelude.{◌≡◌, ℕ, ◌<◌, ◌≤◌, true, List, length}
use Rattle.sram_layout.specs.Bytes.{byte_count, block_at}
use Rattle.swap_store.specs.Slots.{page_in, IsWhole}
use Rattle.flat_machine.specs.Addresses.{is_heap_page}
use Rattle.heap_frames.specs.Frames.{clean, frame_bytes, page_held, state_of, is_occupied, victim, given, slot_of, has_slot}

-- the lists have the sizes that an SRAM and a swap area always have
pub record IsSized (m : List ℕ) (w : List (List ℕ)) : Type 0 where
  pub sram : length m ≡ byte_count
  pub swap : IsWhole w

-- frames, slots and the kernel's cells fit together
pub record IsPaged (m : List ℕ) (w : List (List ℕ)) : Type 0 where
  pub sized : IsSized m w
  -- the slots of the swap map are exactly 0 to given - 1, each once, all of heap pages; given is at most the number of slots that there are
  pub slots : (page : ℕ) → page < 256 → has_slot m page ≡ true → slot_of m page < given m
  pub each : (slot : ℕ) → slot < given m → (page : ℕ) × (page < 256) × (slot_of m page ≡ slot)
  pub once : (page other : ℕ) → page < 256 → other < 256 → has_slot m page ≡ true → slot_of m page ≡ slot_of m other → page ≡ other
  pub heap : (page : ℕ) → page < 256 → has_slot m page ≡ true → is_heap_page page ≡ true
  pub room : given m ≤ length w
  -- each frame is empty, clean or dirty, and the frame to be replaced next is one of the eight
  pub states : (i : ℕ) → i < 8 → state_of m i ≤ 2
  pub next : victim m ≤ 7
  -- the occupied frames hold different heap pages that have slots
  pub held : (i : ℕ) → i < 8 → is_occupied m i ≡ true → is_heap_page (page_held m i) ≡ true
  pub backed : (i : ℕ) → i < 8 → is_occupied m i ≡ true → has_slot m (page_held m i) ≡ true
  pub different : (i j : ℕ) → i < 8 → j < 8 → is_occupied m i ≡ true → is_occupied m j ≡ true → page_held m i ≡ page_held m j → i ≡ j
  -- a clean frame equals its slot
  pub equal : (i : ℕ) → i < 8 → state_of m i ≡ clean → block_at m (frame_bytes i) ≡ page_in w (slot_of m (page_held m i))
