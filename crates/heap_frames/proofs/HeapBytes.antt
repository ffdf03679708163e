-- The bytes of heap pages, in frames and in slots.
use Rattle.std.proofs.Common.{◌≡◌, ℕ, ◌+◌, List, refl, ap, ◌∙◌}
use Rattle.std.specs.Prelude.{true, false, Option, Some, None, slice_index}
use Rattle.sram_layout.specs.Bytes.{byte_at}
use Rattle.swap_store.specs.Slots.{page_in}
use Rattle.heap_frames.specs.Frames.{frame_bytes, frame_of, slot_of, has_slot}
use Rattle.heap_frames.specs.Memory.{slot_byte, held_byte, heap_byte}

-- of a page in a frame
pub byte_in_frame : (m : List ℕ) (w : List (List ℕ)) (page offset i : ℕ) → frame_of m page ≡ Some i → heap_byte m w page offset ≡ byte_at m (frame_bytes i + offset)
unfolding heap_byte
byte_in_frame m w page offset i found = ap (held_byte m w page offset) found

-- of a page that is in no frame
pub byte_in_slot : (m : List ℕ) (w : List (List ℕ)) (page offset : ℕ) → frame_of m page ≡ None → heap_byte m w page offset ≡ slot_byte m w page offset
unfolding heap_byte
byte_in_slot m w page offset missed = ap (held_byte m w page offset) missed

pub byte_of_slot : (m : List ℕ) (w : List (List ℕ)) (page offset : ℕ) → has_slot m page ≡ true → slot_byte m w page offset ≡ slice_index (page_in w (slot_of m page)) offset
byte_of_slot m w page offset has = rw has

pub byte_of_no_slot : (m : List ℕ) (w : List (List ℕ)) (page offset : ℕ) → has_slot m page ≡ false → slot_byte m w page offset ≡ 0
byte_of_no_slot m w page offset none = rw none

-- a page's byte in its slot, where the map and the slot are the same
pub slot_byte_same : (m n : List ℕ) (w w' : List (List ℕ)) (page offset : ℕ) → slot_of n page ≡ slot_of m page → page_in w' (slot_of m page) ≡ page_in w (slot_of m page)
    → slot_byte n w' page offset ≡ slot_byte m w page offset
slot_byte_same m n w w' page offset slots swaps = rw (slots, swaps)

-- a byte that is the same in its page's frame, or else in the page's slot
same_held : (m n : List ℕ) (w w' : List (List ℕ)) (page offset : ℕ) (found : Option ℕ) → (found ≡ None → slot_byte n w' page offset ≡ slot_byte m w page offset)
    → ((i : ℕ) → found ≡ Some i → byte_at n (frame_bytes i + offset) ≡ byte_at m (frame_bytes i + offset)) → held_byte n w' page offset found ≡ held_byte m w page offset found
same_held m n w w' page offset None slot frame = slot refl
same_held m n w w' page offset (Some i) slot frame = frame i refl

pub same_heap_byte : (m n : List ℕ) (w w' : List (List ℕ)) (page offset : ℕ) → frame_of n page ≡ frame_of m page → (frame_of m page ≡ None → slot_byte n w' page offset ≡ slot_byte m w page offset)
    → ((i : ℕ) → frame_of m page ≡ Some i → byte_at n (frame_bytes i + offset) ≡ byte_at m (frame_bytes i + offset)) → heap_byte n w' page offset ≡ heap_byte m w page offset
unfolding heap_byte
same_heap_byte m n w w' page offset same slot frame = ap (held_byte n w' page offset) same ∙ same_held m n w w' page offset (frame_of m page) slot frame
