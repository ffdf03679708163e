-- A byte stored in a page that a frame holds.
use Rattle.std.proofs.Common.{◌≡◌, ℕ, ◌+◌, ◌<◌, List, arith, ap, ap₂, ◌∙◌, sym, refl, inl, inr}
use Rattle.std.specs.Prelude.{◌≢◌, Bool, ◌&&◌, ◌==◌}
use Rattle.std.proofs.lemmas.Bool.{cases_eq, false_from_ne_true}
use Rattle.sram_layout.specs.Cells.{frame_cell, victim_cell, given_cell, slot_cell}
use Rattle.heap_frames.specs.Frames.{dirty, frame_bytes, page_held, is_occupied, holds, frame_of, resident_pages, victim}
use Rattle.heap_frames.specs.Memory.{heap_byte}
use Rattle.heap_frames.specs.Paged.{IsPaged}
use Rattle.heap_frames.specs.Paging.{with_byte_in_frame}
use Rattle.heap_frames.proofs.FrameLaws.{Holds, holds_occupied, holds_page, frame_holds, paged_frame, same_frame, same_occupied, occupied_state}
use Rattle.heap_frames.proofs.WriteLaws.{byte_length, byte_there, byte_names, byte_state, byte_elsewhere}
use Rattle.heap_frames.proofs.EntryLaws.{Entered, Entry, entry_paged, same_resident_pages}
use Rattle.heap_frames.proofs.HeapBytes.{byte_in_frame, same_heap_byte, slot_byte_same}

-- the page is in the frame, and the offset in the page
pub record Puts (m : List ℕ) (w : List (List ℕ)) (i page offset : ℕ) : Type 0 where
  pub paged : IsPaged m w
  pub here : Holds m page i
  pub below : offset < 256

module _ {m : List ℕ} {w : List (List ℕ)} {i page offset : ℕ} (v : ℕ) (p : Puts m w i page offset) where
  pub stored_entered : Entered m (with_byte_in_frame m i page offset v) i page dirty
  stored_entered =
      let inside = p.here.inside in
      record {
        size = byte_length m i page offset v;
        inside = inside;
        names = byte_names m i page offset v p.paged.sized.sram inside;
        has_state = byte_state m i page offset v p.paged.sized.sram inside;
        pages = λ j low apart. byte_elsewhere m i page offset v (frame_cell j) (omega arith) (λ same. omega arith) (λ same. apart (omega arith)) (λ same. omega arith);
        states = λ j low apart. byte_elsewhere m i page offset v (frame_cell j + 1) (omega arith) (λ same. omega arith) (λ same. omega arith) (λ same. apart (omega arith));
        slots = λ q low. byte_elsewhere m i page offset v (slot_cell q) (omega arith) (λ same. omega arith) (λ same. omega arith) (λ same. omega arith);
        same_given = byte_elsewhere m i page offset v given_cell (omega arith) (λ same. omega arith) (λ same. omega arith) (λ same. omega arith);
        bytes = λ j k low apart within. byte_elsewhere m i page offset v (frame_bytes j + k) (omega arith) (λ same. apart (omega arith)) (λ same. omega arith) (λ same. omega arith);
      }

  pub stored_victim : victim (with_byte_in_frame m i page offset v) ≡ victim m
  stored_victim =
      let inside = p.here.inside in
      let below = p.below in
      byte_elsewhere m i page offset v victim_cell (omega arith) (λ same. omega arith) (λ same. omega arith) (λ same. omega arith)

  stored_entry : Entry m (with_byte_in_frame m i page offset v) w w i page dirty
  stored_entry =
      let e = stored_entered in
      record {
        entered = e;
        paged = p.paged;
        heap = rw p.here.names at (p.paged.held i p.here.inside p.here.occupied);
        slot = rw p.here.names at (p.paged.backed i p.here.inside p.here.occupied);
        alone = λ j low apart. false_from_ne_true (holds m page j) (λ held.
            apart (p.paged.different j i low p.here.inside (holds_occupied m page j held) p.here.occupied (holds_page m page j held ∙ sym p.here.names)));
        full = omega arith;
        known = omega arith;
        next = omega (arith, stored_victim, p.paged.next);
        sized = record { sram = e.size ∙ p.paged.sized.sram; swap = p.paged.sized.swap };
        count = refl;
        equal = λ same. absurd (omega arith);
        others = λ j low apart occupied. refl;
      }

  pub stored_paged : IsPaged (with_byte_in_frame m i page offset v) w
  stored_paged = entry_paged stored_entry

  -- the frames hold the same pages
  stored_page_held : (j : ℕ) → j < 8 → page_held (with_byte_in_frame m i page offset v) j ≡ page_held m j
  stored_page_held j low = elim (cases_eq j i) [ inl same ↦ rw same (stored_entered.names ∙ sym p.here.names) | inr apart ↦ stored_entered.pages j low apart ]

  stored_occupied : (j : ℕ) → j < 8 → is_occupied (with_byte_in_frame m i page offset v) j ≡ is_occupied m j
  stored_occupied j low =
      let n = with_byte_in_frame m i page offset v in
      elim (cases_eq j i) [
        | inl same ↦ rw same (occupied_state n i (λ none. omega (arith, stored_entered.has_state)) ∙ sym p.here.occupied)
        | inr apart ↦ same_occupied m n j (stored_entered.states j low apart)
      ]

  pub stored_resident_pages : resident_pages (with_byte_in_frame m i page offset v) ≡ resident_pages m
  stored_resident_pages = same_resident_pages m (with_byte_in_frame m i page offset v) stored_occupied stored_page_held

  pub stored_frame : (q : ℕ) → frame_of (with_byte_in_frame m i page offset v) q ≡ frame_of m q
  stored_frame q =
      same_frame m (with_byte_in_frame m i page offset v) q (λ j low.
      ap₂ (λ (occupied : Bool) (held : ℕ). occupied && held == q) (stored_occupied j low) (stored_page_held j low))

  -- the byte that was stored
  pub stored_byte : heap_byte (with_byte_in_frame m i page offset v) w page offset ≡ v
  stored_byte =
      byte_in_frame (with_byte_in_frame m i page offset v) w page offset i (stored_frame page ∙ paged_frame m w page i p.paged p.here)
      ∙ byte_there m i page offset v p.paged.sized.sram p.here.inside p.below

  -- every other byte
  pub stored_other : (q o : ℕ) → q < 256 → o < 256 → (q ≡ page → o ≢ offset) → heap_byte (with_byte_in_frame m i page offset v) w q o ≡ heap_byte m w q o
  stored_other q o small low apart =
      same_heap_byte m (with_byte_in_frame m i page offset v) w w q o (stored_frame q)
      (λ is. slot_byte_same m (with_byte_in_frame m i page offset v) w w q o (stored_entered.slots q small) refl) (λ k is.
      let there = frame_holds m q k is in
      elim (cases_eq k i) [
        | inl same ↦
            let away : o ≢ offset = apart (sym there.names ∙ ap (page_held m) same ∙ p.here.names) in
            let inside = there.inside in
            byte_elsewhere m i page offset v (frame_bytes k + o) (omega arith) (λ same'. away (omega arith)) (λ same'. omega (arith, p.here.inside)) (λ same'. omega (arith, p.here.inside))
        | inr other ↦ stored_entered.bytes k o there.inside other low
      ])
