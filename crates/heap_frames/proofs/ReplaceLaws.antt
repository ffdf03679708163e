-- A page brought into the frame that is replaced next.
use Rattle.std.proofs.Common.{◌≡◌, ℕ, ◌+◌, ◌<◌, ◌≤◌, List, length, arith, ap, ◌∙◌, sym, refl, inl, inr}
use Rattle.std.specs.Prelude.{◌≢◌, true, false, Option, Some, None, slice_index}
use Rattle.std.proofs.lemmas.Bool.{cases_eq, cases_lt, false_from_ne_true}
use Rattle.sram_layout.specs.Bytes.{byte_count}
use Rattle.sram_layout.specs.Cells.{frame_cell, given_cell, slot_cell}
use Rattle.sram_layout.proofs.Laws.{block_byte}
use Rattle.swap_store.specs.Slots.{page_in}
use Rattle.flat_machine.specs.Addresses.{is_heap_page}
use Rattle.heap_frames.specs.Frames.{clean, frame_bytes, page_held, holds, frame_of, victim, slot_of, has_slot}
use Rattle.heap_frames.specs.Memory.{heap_byte}
use Rattle.heap_frames.specs.Paged.{IsPaged}
use Rattle.heap_frames.specs.Paging.{written_back, with_page_in_frame}
use Rattle.heap_frames.proofs.FrameLaws.{Holds, holds_both, holds_occupied, holds_page, holds_other, frame_holds, no_frame_holds, no_frame, paged_frame, same_occupied, occupied_state}
use Rattle.heap_frames.proofs.WriteLaws.{OutOfFrame, page_length, page_victim, page_names, page_state, page_elsewhere, page_block}
use Rattle.heap_frames.proofs.EntryLaws.{Entered, Entry, page_below, held_below, same_slot, same_holds_other, entry_paged}
use Rattle.heap_frames.proofs.BackLaws.{back_length, back_whole, back_same, back_other_page}
use Rattle.heap_frames.proofs.HeapBytes.{byte_in_frame, byte_in_slot, byte_of_slot, slot_byte_same}

-- a page with a slot that is in no frame, and what its frame is to hold
pub record Replaces (m : List ℕ) (w : List (List ℕ)) (page : ℕ) (bytes : List ℕ) (state : ℕ) : Type 0 where
  pub paged : IsPaged m w
  pub heap : is_heap_page page ≡ true
  pub slot : has_slot m page ≡ true
  pub absent : frame_of m page ≡ None
  pub long : length bytes ≡ 256
  pub full : 0 < state
  pub known : state ≤ 2
  pub equal : state ≡ clean → bytes ≡ page_in w (slot_of m page)

-- addresses outside a frame
pub out_below : (i b : ℕ) → i < 8 → b < 0x0120 → OutOfFrame i b
out_below i b inside below = record { bytes = inl (omega arith); page = λ same. omega arith; state = λ same. omega arith }

pub out_between : (i b : ℕ) → i < 8 → 0x013F < b → b < 0x0500 → OutOfFrame i b
out_between i b inside above below = record { bytes = inl (omega arith); page = λ same. omega arith; state = λ same. omega arith }

pub out_above : (i b : ℕ) → i < 8 → 0x0D00 ≤ b → OutOfFrame i b
out_above i b inside above = record { bytes = inr (omega arith); page = λ same. omega arith; state = λ same. omega arith }

out_bytes : (i j k : ℕ) → i < 8 → j < 8 → j ≢ i → k < 256 → OutOfFrame i (frame_bytes j + k)
out_bytes i j k inside inside' apart below = record {
  bytes = elim (cases_lt j i) [ inl before ↦ inl (omega arith) | inr after ↦ inr (omega arith) ];
  page = λ same. omega arith;
  state = λ same. omega arith;
}

pub put_entered : (m bytes : List ℕ) (i page state : ℕ) → length m ≡ byte_count → length bytes ≡ 256 → i < 8 → Entered m (with_page_in_frame m i page bytes state) i page state
put_entered m bytes i page state size fits inside =
    let elsewhere = page_elsewhere m bytes i page state size fits inside in
    record {
      size = page_length m bytes i page state size fits inside;
      inside = inside;
      names = page_names m bytes i page state size fits inside;
      has_state = page_state m bytes i page state size fits inside;
      pages = λ j below apart. elsewhere (frame_cell j) (omega arith) (record { bytes = inl (omega arith); page = λ same. apart (omega arith); state = λ same. omega arith }) (λ same. omega arith);
      states = λ j below apart. elsewhere (frame_cell j + 1) (omega arith) (record { bytes = inl (omega arith); page = λ same. omega arith; state = λ same. apart (omega arith) })
          (λ same. omega arith);
      slots = λ p below. elsewhere (slot_cell p) (omega arith) (out_between i (slot_cell p) inside (omega arith) (omega arith)) (λ same. omega arith);
      same_given = elsewhere given_cell (omega arith) (out_between i given_cell inside (omega arith) (omega arith)) (λ same. omega arith);
      bytes = λ j k below apart within. elsewhere (frame_bytes j + k) (omega arith) (out_bytes i j k inside below apart within) (λ same. omega arith);
    }

-- SRAM and the swap, once it is brought in
abbrev pub next_sram : List ℕ → ℕ → List ℕ → ℕ → List ℕ
next_sram m page bytes state = with_page_in_frame m (victim m) page bytes state

abbrev pub next_swap : List ℕ → List (List ℕ) → List (List ℕ)
next_swap m w = written_back m w (victim m)

module _ {m : List ℕ} {w : List (List ℕ)} {page : ℕ} {bytes : List ℕ} {state : ℕ} (r : Replaces m w page bytes state) where
  pub entered_next : Entered m (next_sram m page bytes state) (victim m) page state
  entered_next = put_entered m bytes (victim m) page state r.paged.sized.sram r.long (omega (arith, r.paged.next))

  pub next_entry : Entry m (next_sram m page bytes state) w (next_swap m w) (victim m) page state
  next_entry =
      let v = victim m in
      let inside : v < 8 = omega (arith, r.paged.next) in
      record {
        entered = entered_next;
        paged = r.paged;
        heap = r.heap;
        slot = r.slot;
        alone = λ j below apart. no_frame_holds m page j r.absent below;
        full = r.full;
        known = r.known;
        next = omega (arith, page_victim m bytes v page state r.paged.sized.sram r.long inside);
        sized = record { sram = page_length m bytes v page state r.paged.sized.sram r.long inside ∙ r.paged.sized.sram; swap = back_whole m w v r.paged inside };
        count = back_length m w v;
        equal = λ is_clean.
            page_block m bytes v page state r.paged.sized.sram r.long inside ∙ r.equal is_clean ∙ sym (back_other_page m w v page r.paged inside (page_below page r.heap) (λ occupied same.
            let there = holds_both m page v occupied same in
            let none = no_frame_holds m page v r.absent inside in
            absurd (cc)));
        others = λ j below apart occupied.
            back_other_page m w v (page_held m j) r.paged inside (held_below r.paged j below occupied) (λ occupied' same.
            apart (r.paged.different j v below inside occupied occupied' (sym same)));
      }

  pub next_paged : IsPaged (next_sram m page bytes state) (next_swap m w)
  next_paged = entry_paged next_entry

  -- the frame then holds the page
  pub next_holds : Holds (next_sram m page bytes state) page (victim m)
  next_holds =
      let e = entered_next in
      record { inside = e.inside; occupied = occupied_state (next_sram m page bytes state) (victim m) (λ none. omega (arith, e.has_state, r.full)); names = e.names }

  pub next_frame : frame_of (next_sram m page bytes state) page ≡ Some (victim m)
  next_frame = paged_frame (next_sram m page bytes state) (next_swap m w) page (victim m) next_paged next_holds

  -- its bytes are those that were put
  pub next_bytes : (w' : List (List ℕ)) (offset : ℕ) → offset < 256 → heap_byte (next_sram m page bytes state) w' page offset ≡ slice_index bytes offset
  next_bytes w' offset below =
      let n = next_sram m page bytes state in
      byte_in_frame n w' page offset (victim m) next_frame
      ∙ sym (block_byte n (frame_bytes (victim m)) offset (omega arith) below)
      ∙ ap (λ block. slice_index block offset) (page_block m bytes (victim m) page state r.paged.sized.sram r.long (omega (arith, r.paged.next)))

  -- a page that no other frame held is in none then
  gone : (q : ℕ) → q ≢ page → ((j : ℕ) → j < 8 → j ≢ victim m → holds m q j ≡ false) → frame_of (next_sram m page bytes state) q ≡ None
  gone q apart alone =
      let n = next_sram m page bytes state in
      no_frame n q (λ j low. elim (cases_eq j (victim m)) [
        | inl same ↦ holds_other n q j (λ names. apart (sym names ∙ ap (page_held n) same ∙ entered_next.names))
        | inr other ↦ same_holds_other entered_next q j low other ∙ alone j low other
      ])

  -- so is one that the frame held, and one that none did
  evicted : (q : ℕ) → q ≢ page → Holds m q (victim m) → frame_of (next_sram m page bytes state) q ≡ None
  evicted q apart there = gone q apart (λ j low other. false_from_ne_true (holds m q j) (λ held.
      other (r.paged.different j (victim m) low there.inside (holds_occupied m q j held) there.occupied (holds_page m q j held ∙ sym there.names))))

  absent_still : (q : ℕ) → q ≢ page → frame_of m q ≡ None → frame_of (next_sram m page bytes state) q ≡ None
  absent_still q apart is = gone q apart (λ j low other. no_frame_holds m q j is low)

  -- the bytes of a page that was written back
  evicted_bytes : (q offset : ℕ) → q < 256 → q ≢ page → offset < 256 → frame_of m q ≡ Some (victim m)
      → heap_byte (next_sram m page bytes state) (next_swap m w) q offset ≡ heap_byte m w q offset
  evicted_bytes q offset small apart below found =
      let v = victim m in
      let n = next_sram m page bytes state in
      let w' = next_swap m w in
      let there = frame_holds m q v found in
      let slots : slot_of n q ≡ slot_of m q = entered_next.slots q small in
      byte_in_slot n w' q offset (evicted q apart there)
      ∙ byte_of_slot n w' q offset (same_slot m n q slots ∙ (rw there.names at (r.paged.backed v there.inside there.occupied)))
      ∙ ap (λ (slot : ℕ). slice_index (page_in w' slot) offset) slots
      ∙ ap (λ (block : List ℕ). slice_index block offset) (rw there.names at (back_same m w v r.paged there.inside there.occupied))
      ∙ block_byte m (frame_bytes v) offset (omega arith) below
      ∙ sym (byte_in_frame m w q offset v found)

  -- another page, by the frame that held it
  kept_bytes : (q offset : ℕ) (found : Option ℕ) → frame_of m q ≡ found → q < 256 → q ≢ page → offset < 256
      → heap_byte (next_sram m page bytes state) (next_swap m w) q offset ≡ heap_byte m w q offset
  kept_bytes q offset None is small apart below =
      let n = next_sram m page bytes state in
      let inside : victim m < 8 = omega (arith, r.paged.next) in
      let swaps = back_other_page m w (victim m) q r.paged inside small (λ occupied names.
      let there = holds_both m q (victim m) occupied names in
      let none = no_frame_holds m q (victim m) is inside in
      absurd (cc)) in
      byte_in_slot n (next_swap m w) q offset (absent_still q apart is) ∙ slot_byte_same m n w (next_swap m w) q offset (entered_next.slots q small) swaps ∙ sym (byte_in_slot m w q offset is)
  kept_bytes q offset (Some i) is small apart below =
      let n = next_sram m page bytes state in
      let e = entered_next in
      let here = frame_holds m q i is in
      elim (cases_eq i (victim m)) [
        | inl same ↦ evicted_bytes q offset small apart below (is ∙ ap (λ k. Some k) same)
        | inr other ↦
            let kept : Holds n q i = record { inside = here.inside; occupied = same_occupied m n i (e.states i here.inside other) ∙ here.occupied; names = e.pages i here.inside other ∙ here.names } in
            byte_in_frame n (next_swap m w) q offset i (paged_frame n (next_swap m w) q i next_paged kept) ∙ e.bytes i offset here.inside other below ∙ sym (byte_in_frame m w q offset i is)
      ]

  pub next_other_bytes : (q offset : ℕ) → q < 256 → q ≢ page → offset < 256 → heap_byte (next_sram m page bytes state) (next_swap m w) q offset ≡ heap_byte m w q offset
  next_other_bytes q offset small apart below = kept_bytes q offset (frame_of m q) refl small apart below
