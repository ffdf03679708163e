-- A load and a store of a byte whose page is in a frame: no page moves.
use Rattle.std.proofs.Common.{◌≡◌, ℕ, ◌+◌, ◌/◌, ◌%◌, true, List, ap, ◌∙◌}
use Rattle.std.specs.Prelude.{Option, Some, is_some, unwrap_or, if◌then◌else◌}
use Rattle.std.proofs.lemmas.Bool.{cond-true}
use Rattle.sram_layout.specs.Bytes.{byte_at}
use Rattle.swap_store.specs.Slots.{page_in}
use Rattle.heap_frames.specs.Frames.{clean, frame_bytes, frame_of, victim, slot_of, has_slot}
use Rattle.heap_frames.specs.Paged.{IsPaged}
use Rattle.heap_frames.specs.Paging.{Store, store_of, written_back, with_page_in_frame, frame_for, seated, with_byte_in_frame, heap_load, heap_store}
use Rattle.heap_frames.specs.InFrame.{stored_in_frame}
use Rattle.heap_frames.proofs.FrameLaws.{frame_holds}

-- a page in a frame has a slot
slot_of_held : (m : List ℕ) (w : List (List ℕ)) (page i : ℕ) → IsPaged m w → frame_of m page ≡ Some i → has_slot m page ≡ true
slot_of_held m w page i paged found =
    let here = frame_holds m page i found in
    rw here.names at (paged.backed i here.inside here.occupied)

-- the heap after the page is seated, by the frame that was found
abbrev seated_by : List ℕ → List (List ℕ) → ℕ → Option ℕ → Store
seated_by m w page found = if is_some found then store_of m w else record {
  sram = with_page_in_frame m (victim m) page (page_in w (slot_of m page)) clean;
  swap = written_back m w (victim m);
}

pub load_hit : (m : List ℕ) (w : List (List ℕ)) (a i : ℕ) → IsPaged m w → frame_of m (a / 256) ≡ Some i
    → heap_load (store_of m w) a ≡ (byte_at m (frame_bytes i + a % 256), store_of m w)
unfolding heap_load seated frame_for
load_hit m w a i paged found =
    cond-true (has_slot m (a / 256)) _ _ (slot_of_held m w (a / 256) i paged found)
    ∙ ap (λ o. (byte_at (seated_by m w (a / 256) o).sram (frame_bytes (unwrap_or o (victim m)) + a % 256), seated_by m w (a / 256) o)) found

pub store_hit : (m : List ℕ) (w : List (List ℕ)) (a v i : ℕ) → IsPaged m w → frame_of m (a / 256) ≡ Some i
    → heap_store (store_of m w) a v ≡ Some (store_of (stored_in_frame m a v) w)
unfolding heap_store seated stored_in_frame
store_hit m w a v i paged found =
    let page = a / 256 in
    cond-true (has_slot m page) _ _ (slot_of_held m w page i paged found)
    ∙ ap (λ o. Some (store_of (with_byte_in_frame (seated_by m w page o).sram (frame_for m page) page (a % 256) v) (seated_by m w page o).swap)) found
