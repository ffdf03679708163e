-- What a load and a store of the heap do, as functions of SRAM's bytes and the swap's pages.
use Rattle.std.specs.Prelude.{ℕ, ◌+◌, ◌/◌, ◌%◌, ◌==◌, nat_lt, if◌then◌else◌, unwrap_or, is_some, Option, None, Some, Result, Ok, Err, List, length}
use Rattle.sram_layout.specs.Bytes.{byte_at, with_byte, block_at, with_block}
use Rattle.sram_layout.specs.Cells.{frame_cell, victim_cell, given_cell, slot_cell, with_frame}
use Rattle.swap_store.specs.Slots.{page_in, with_page, zero_page}
use Rattle.heap_frames.specs.declared.heap.SwapFull.{SwapFull}
use Rattle.heap_frames.specs.Frames.{clean, dirty, frame_bytes, page_held, state_of, frame_of, victim, given, slot_of, has_slot}

-- what holds the heap: SRAM's bytes and the swap's pages
pub record Store : Type 0 where
  pub sram : List ℕ
  pub swap : List (List ℕ)

abbrev pub store_of : List ℕ → List (List ℕ) → Store
store_of m w = record { sram = m; swap = w }

-- the swap, with the page of frame i in its slot where the frame is dirty
unfoldable pub written_back : List ℕ → List (List ℕ) → ℕ → List (List ℕ)
written_back m w i = if state_of m i == dirty then with_page w (slot_of m (page_held m i)) (block_at m (frame_bytes i)) else w

-- SRAM with a page of these bytes in frame i, in this state; the frame that is replaced next is the one after
unfoldable pub with_page_in_frame : List ℕ → ℕ → ℕ → List ℕ → ℕ → List ℕ
with_page_in_frame m i page bytes state =
    with_byte (with_frame (with_block m (frame_bytes i) bytes) (frame_cell i) page state) victim_cell ((i + 1) % 8)

-- the frame in which a page is used: the one that holds it, else the one that is replaced next
unfoldable pub frame_for : List ℕ → ℕ → ℕ
frame_for m page = unwrap_or (frame_of m page) (victim m)

-- the heap with a frame that holds the page, which has a slot
unfoldable pub seated : Store → ℕ → Store
seated h page = if is_some (frame_of h.sram page) then h else record {
  sram = with_page_in_frame h.sram (victim h.sram) page (page_in h.swap (slot_of h.sram page)) clean;
  swap = written_back h.sram h.swap (victim h.sram);
}

-- SRAM with the next slot given to a page
unfoldable pub with_slot_given : List ℕ → ℕ → List ℕ
with_slot_given m page = with_byte (with_byte m (slot_cell page) (given m)) given_cell (given m + 1)

-- the heap with a frame that holds a page of zeros, to which the next slot is given
unfoldable pub first_touched : Store → ℕ → Store
first_touched h page = record {
  sram = with_page_in_frame (with_slot_given h.sram page) (victim h.sram) page zero_page dirty;
  swap = written_back h.sram h.swap (victim h.sram);
}

-- SRAM with v at an offset of frame i, which holds the page and is then dirty
unfoldable pub with_byte_in_frame : List ℕ → ℕ → ℕ → ℕ → ℕ → List ℕ
with_byte_in_frame m i page offset v = with_frame (with_byte m (frame_bytes i + offset) v) (frame_cell i) page dirty

-- a load: the byte, and the heap after it
unfoldable pub heap_load : Store → ℕ → ℕ × Store
heap_load h a = if has_slot h.sram (a / 256) then (byte_at (seated h (a / 256)).sram (frame_bytes (frame_for h.sram (a / 256)) + a % 256), seated h (a / 256)) else (0, h)

-- a store: the heap after it, None where the page has no slot and none is left
unfoldable pub heap_store : Store → ℕ → ℕ → Option Store
heap_store h a v =
    if has_slot h.sram (a / 256) then Some (record {
      sram = with_byte_in_frame (seated h (a / 256)).sram (frame_for h.sram (a / 256)) (a / 256) (a % 256) v;
      swap = (seated h (a / 256)).swap;
    }) else if nat_lt (given h.sram) (length h.swap) then Some (record {
      sram = with_byte_in_frame (first_touched h (a / 256)).sram (victim h.sram) (a / 256) (a % 256) v;
      swap = (first_touched h (a / 256)).swap;
    }) else None

-- what a store answered and left, in the words of heap_store: None where it was refused
abbrev pub stored_or_full : Result (Unit {0}) SwapFull → Store → Option Store
stored_or_full (Ok done) after = Some after
stored_or_full (Err full) after = None
