-- The swap after the page of the frame that is replaced was written back.
use Rattle.std.proofs.Common.{◌≡◌, ℕ, ◌<◌, List, length, arith, refl, sym}
use Rattle.std.specs.Prelude.{◌≢◌, true, ◌==◌}
use Rattle.std.proofs.lemmas.Bool.{cond_both, eqb-true, eqb-false}
use Rattle.sram_layout.specs.Bytes.{block_at}
use Rattle.sram_layout.proofs.Laws.{length-block_at}
use Rattle.swap_store.specs.Slots.{page_in, with_page, IsWhole}
use Rattle.swap_store.proofs.Laws.{length-with_page, page_same, page_other, written_whole}
use Rattle.heap_frames.specs.Frames.{dirty, frame_bytes, page_held, state_of, is_occupied, slot_of}
use Rattle.heap_frames.specs.Paged.{IsPaged}
use Rattle.heap_frames.specs.Paging.{written_back}
use Rattle.heap_frames.proofs.FrameLaws.{occupied_state, state_occupied}
use Rattle.heap_frames.proofs.EntryLaws.{held_below}

-- what holds of the swap where the frame is dirty, and where it isn't
back_by : (m : List ℕ) (w : List (List ℕ)) (i : ℕ) (P : List (List ℕ) → Type 0) → (state_of m i ≡ dirty → P (with_page w (slot_of m (page_held m i)) (block_at m (frame_bytes i))))
    → (state_of m i ≢ dirty → P w) → P (written_back m w i)
unfolding written_back
back_by m w i P written same = cond_both (state_of m i == dirty) _ w P (λ is. written (eqb-true (state_of m i) dirty is)) (λ is. same (eqb-false (state_of m i) dirty is))

-- the slot of an occupied frame's page is one of the swap's
pub backed_slot : (m : List ℕ) (w : List (List ℕ)) (i : ℕ) → IsPaged m w → i < 8 → is_occupied m i ≡ true → slot_of m (page_held m i) < length w
backed_slot m w i paged inside occupied =
    omega (arith, paged.slots (page_held m i) (held_below paged i inside occupied) (paged.backed i inside occupied), paged.room)

pub back_length : (m : List ℕ) (w : List (List ℕ)) (i : ℕ) → length (written_back m w i) ≡ length w
back_length m w i = back_by m w i (λ swap. length swap ≡ length w) (λ is. length-with_page w (slot_of m (page_held m i)) (block_at m (frame_bytes i))) (λ apart. refl)

pub back_whole : (m : List ℕ) (w : List (List ℕ)) (i : ℕ) → IsPaged m w → i < 8 → IsWhole (written_back m w i)
back_whole m w i paged inside = back_by m w i IsWhole (λ is.
    let slot = backed_slot m w i paged inside (occupied_state m i (λ none. omega arith)) in
    written_whole w (slot_of m (page_held m i)) (block_at m (frame_bytes i)) paged.sized.swap slot (length-block_at m (frame_bytes i) (omega arith) (omega (arith, paged.sized.sram))))
    (λ apart. paged.sized.swap)

-- the slot of the frame's page then equals the frame
pub back_same : (m : List ℕ) (w : List (List ℕ)) (i : ℕ) → IsPaged m w → i < 8 → is_occupied m i ≡ true → page_in (written_back m w i) (slot_of m (page_held m i)) ≡ block_at m (frame_bytes i)
back_same m w i paged inside occupied = back_by m w i (λ swap. page_in swap (slot_of m (page_held m i)) ≡ block_at m (frame_bytes i))
    (λ is. page_same w (slot_of m (page_held m i)) (block_at m (frame_bytes i)) (backed_slot m w i paged inside occupied))
    (λ apart. let some = state_occupied m i occupied in sym (paged.equal i inside (omega (arith, some, paged.states i inside))))

-- every other slot stays
pub back_other : (m : List ℕ) (w : List (List ℕ)) (i slot : ℕ) → (is_occupied m i ≡ true → slot ≢ slot_of m (page_held m i)) → page_in (written_back m w i) slot ≡ page_in w slot
back_other m w i slot elsewhere = back_by m w i (λ swap. page_in swap slot ≡ page_in w slot)
    (λ is. page_other w (slot_of m (page_held m i)) slot (block_at m (frame_bytes i)) (elsewhere (occupied_state m i (λ none. omega arith)))) (λ apart. refl)

-- so does the slot of a page that the frame does not hold
pub back_other_page : (m : List ℕ) (w : List (List ℕ)) (i page : ℕ) → IsPaged m w → i < 8 → page < 256 → (is_occupied m i ≡ true → page_held m i ≢ page)
    → page_in (written_back m w i) (slot_of m page) ≡ page_in w (slot_of m page)
back_other_page m w i page paged inside below elsewhere =
    back_other m w i (slot_of m page) (λ occupied same.
    elsewhere occupied (paged.once (page_held m i) page (held_below paged i inside occupied) below (paged.backed i inside occupied) (sym same)))
