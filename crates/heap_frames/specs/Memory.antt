-- The one memory that a program sees (docs/MEMORY.md, "Address classes"). m is the list of SRAM's bytes, w the list of the swap's pages.
use Rattle.std.specs.Prelude.{ℕ, ◌+◌, ◌/◌, ◌%◌, if◌then◌else◌, Option, None, Some, List, slice_index}
use Rattle.sram_layout.specs.Bytes.{byte_at}
use Rattle.swap_store.specs.Slots.{page_in}
use Rattle.flat_machine.specs.Addresses.{is_stack, is_heap}
use Rattle.heap_frames.specs.Frames.{table, frame_bytes, frame_of, has_slot, slot_of}

-- a page's byte in its slot, 0 where the page has none
abbrev pub slot_byte : List ℕ → List (List ℕ) → ℕ → ℕ → ℕ
slot_byte m w page offset = if has_slot m page then slice_index (page_in w (slot_of m page)) offset else 0

-- a page's byte in the frame that holds the page, else in its slot
abbrev pub held_byte : List ℕ → List (List ℕ) → ℕ → ℕ → Option ℕ → ℕ
held_byte m w page offset (Some frame) = byte_at m (frame_bytes frame + offset)
held_byte m w page offset None = slot_byte m w page offset

-- byte `offset` of a heap page
unfoldable pub heap_byte : List ℕ → List (List ℕ) → ℕ → ℕ → ℕ
heap_byte m w page offset = held_byte m w page offset (frame_of m page)

-- the byte at an address: in the stack window SRAM's own, in the heap the page's, elsewhere 0
unfoldable pub virtual_byte : List ℕ → List (List ℕ) → ℕ → ℕ
virtual_byte m w a = if is_stack a then byte_at m a else if is_heap a then heap_byte m w (a / 256) (a % 256) else 0

-- all 65,536 bytes
unfoldable pub vmem : List ℕ → List (List ℕ) → List ℕ
vmem m w = table 65536 (virtual_byte m w)
