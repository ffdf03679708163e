-- What the kernel's cells say of frames and slots (docs/MEMORY.md, "SRAM"). m is the list of SRAM's bytes.
use Rattle.std.specs.Prelude.{ℕ, ◌+◌, ◌*◌, Bool, ◌&&◌, not, ◌==◌, if◌then◌else◌, Option, None, Some, List, map}
use Rattle.std.specs.List.{range_with_len, find}
use Rattle.sram_layout.specs.Bytes.{byte_at}
use Rattle.sram_layout.specs.Cells.{frame_cell, victim_cell, given_cell, no_slot, slot_cell}
use Rattle.sram_layout.specs.Regions.{frames}

-- a list of n items, of which f gives item i
unfoldable pub table : {A : Type 0} → ℕ → (ℕ → A) → List A
table n f = map f (range_with_len 0 n)

-- a frame's states: it is empty, it holds a page as the page's slot has it, or it may hold more than the slot
abbrev pub empty : ℕ
empty = 0

abbrev pub clean : ℕ
clean = 1

abbrev pub dirty : ℕ
dirty = 2

-- the address of frame i's 256 bytes, i from 0 to 7
abbrev pub frame_bytes : ℕ → ℕ
frame_bytes i = frames.first + 256 * i

-- the page that frame i's table entry names, and the frame's state
abbrev pub page_held : List ℕ → ℕ → ℕ
page_held m i = byte_at m (frame_cell i)

abbrev pub state_of : List ℕ → ℕ → ℕ
state_of m i = byte_at m (frame_cell i + 1)

abbrev pub is_occupied : List ℕ → ℕ → Bool
is_occupied m i = not (state_of m i == empty)

-- the occupied frame i holds the page
abbrev pub holds : List ℕ → ℕ → ℕ → Bool
holds m page i = is_occupied m i && page_held m i == page

-- the frame that holds the page, None where none does
unfoldable pub frame_of : List ℕ → ℕ → Option ℕ
frame_of m page = find (holds m page) (range_with_len 0 8)

-- the page of each of the eight frames, None where the frame is empty
unfoldable pub resident_pages : List ℕ → List (Option ℕ)
resident_pages m = table 8 (λ i. if is_occupied m i then Some (page_held m i) else None)

-- the frame that is replaced next, and the number of slots given
abbrev pub victim : List ℕ → ℕ
victim m = byte_at m victim_cell

abbrev pub given : List ℕ → ℕ
given m = byte_at m given_cell

-- the slot of a page
abbrev pub slot_of : List ℕ → ℕ → ℕ
slot_of m page = byte_at m (slot_cell page)

abbrev pub has_slot : List ℕ → ℕ → Bool
has_slot m page = not (slot_of m page == no_slot)

-- for each of the 256 pages, whether it has a slot
unfoldable pub pages : List ℕ → List Bool
pages m = table 256 (has_slot m)
