-- The next slot given to a page that has none.
use Rattle.std.proofs.Common.{◌≡◌, ℕ, ◌+◌, ◌<◌, List, length, arith, ap, ◌∙◌, sym, refl, inl, inr}
use Rattle.std.specs.Prelude.{◌≢◌, true, false, ◌==◌, None}
use Rattle.std.proofs.lemmas.Bool.{cases_eq, false_from_ne_true}
use Rattle.sram_layout.specs.Bytes.{byte_at, block_at}
use Rattle.sram_layout.specs.Cells.{frame_cell, victim_cell, slot_cell}
use Rattle.sram_layout.proofs.Laws.{block_alike}
use Rattle.flat_machine.specs.Addresses.{is_heap_page}
use Rattle.heap_frames.specs.Frames.{clean, dirty, frame_bytes, page_held, state_of, is_occupied, holds, frame_of, resident_pages, victim, given, slot_of, has_slot}
use Rattle.heap_frames.specs.Memory.{heap_byte}
use Rattle.heap_frames.specs.Paged.{IsPaged}
use Rattle.heap_frames.specs.Paging.{written_back, with_slot_given}
use Rattle.heap_frames.proofs.FrameLaws.{clean_occupied, no_frame, holds_page, holds_occupied, same_frame, same_holds, same_occupied, occupied_state, other_number, slot_held, slot_absent}
use Rattle.heap_frames.proofs.FrameLaws.{same_slot_number}
use Rattle.heap_frames.proofs.WriteLaws.{given_length, given_more, given_slot, given_elsewhere}
use Rattle.heap_frames.proofs.EntryLaws.{page_below, held_below, same_slot, same_resident_pages}
use Rattle.heap_frames.proofs.HeapBytes.{same_heap_byte, slot_byte_same}

-- a heap page without a slot, while a slot is left
pub record Gives (m : List ℕ) (w : List (List ℕ)) (page : ℕ) : Type 0 where
  pub paged : IsPaged m w
  pub heap : is_heap_page page ≡ true
  pub none : has_slot m page ≡ false
  pub left : given m < length w

module _ {m : List ℕ} {w : List (List ℕ)} {page : ℕ} (g : Gives m w page) where
  small : page < 256
  small = page_below page g.heap

  -- a page in a frame has a slot, so it is another
  pub held_apart : (i : ℕ) → i < 8 → is_occupied m i ≡ true → page_held m i ≢ page
  held_apart i inside occupied = λ same.
      let has : has_slot m page ≡ true = rw same at (g.paged.backed i inside occupied) in
      let none = g.none in
      absurd (cc)

  pub give_held : (i : ℕ) → i < 8 → page_held (with_slot_given m page) i ≡ page_held m i
  give_held i inside = let low = small in given_elsewhere m page (frame_cell i) (omega arith) (λ same. omega arith) (λ same. omega arith)

  pub give_state : (i : ℕ) → i < 8 → state_of (with_slot_given m page) i ≡ state_of m i
  give_state i inside = let low = small in given_elsewhere m page (frame_cell i + 1) (omega arith) (λ same. omega arith) (λ same. omega arith)

  pub give_victim : victim (with_slot_given m page) ≡ victim m
  give_victim = let low = small in given_elsewhere m page victim_cell (omega arith) (λ same. omega arith) (λ same. omega arith)

  pub give_bytes : (i k : ℕ) → k < 256 → byte_at (with_slot_given m page) (frame_bytes i + k) ≡ byte_at m (frame_bytes i + k)
  give_bytes i k below = let low = small in given_elsewhere m page (frame_bytes i + k) (omega arith) (λ same. omega arith) (λ same. omega arith)

  pub give_block : (i : ℕ) → block_at (with_slot_given m page) (frame_bytes i) ≡ block_at m (frame_bytes i)
  give_block i =
      let low = small in
      block_alike (with_slot_given m page) m (frame_bytes i) (omega arith) (given_length m page) (λ b from to.
      given_elsewhere m page b (omega arith) (λ same. omega arith) (λ same. omega arith))

  pub give_other : (q : ℕ) → q < 256 → q ≢ page → slot_of (with_slot_given m page) q ≡ slot_of m q
  give_other q low apart = given_elsewhere m page (slot_cell q) (omega arith) (λ same. apart (omega arith)) (λ same. omega arith)

  pub give_slot_of : slot_of (with_slot_given m page) page ≡ given m
  give_slot_of = given_slot m page g.paged.sized.sram small

  pub give_more : given (with_slot_given m page) ≡ given m + 1
  give_more = given_more m page g.paged.sized.sram

  pub give_has : has_slot (with_slot_given m page) page ≡ true
  give_has = slot_held (with_slot_given m page) page (λ same. omega (arith, give_slot_of, g.left, g.paged.sized.swap.count))

  -- a page with a slot, but for this one, had it before
  had : (q : ℕ) → q < 256 → q ≢ page → has_slot (with_slot_given m page) q ≡ true → has_slot m q ≡ true
  had q low apart has = sym (same_slot m (with_slot_given m page) q (give_other q low apart)) ∙ has

  -- the slot of a page in a frame is the same
  held_slot : (i : ℕ) → i < 8 → is_occupied m i ≡ true → slot_of (with_slot_given m page) (page_held m i) ≡ slot_of m (page_held m i)
  held_slot i inside occupied = give_other (page_held m i) (held_below g.paged i inside occupied) (held_apart i inside occupied)

  was_occupied : (i : ℕ) → i < 8 → is_occupied (with_slot_given m page) i ≡ true → is_occupied m i ≡ true
  was_occupied i inside occupied = sym (same_occupied m (with_slot_given m page) i (give_state i inside)) ∙ occupied

  -- the frames are the same
  pub give_frame : (q : ℕ) → frame_of (with_slot_given m page) q ≡ frame_of m q
  give_frame q = same_frame m (with_slot_given m page) q (λ i inside. same_holds m (with_slot_given m page) q i (give_held i inside) (give_state i inside))

  pub give_resident_pages : resident_pages (with_slot_given m page) ≡ resident_pages m
  give_resident_pages = same_resident_pages m (with_slot_given m page) (λ j inside. same_occupied m (with_slot_given m page) j (give_state j inside)) give_held

  -- and what is written back
  pub give_back : (i : ℕ) → i < 8 → written_back (with_slot_given m page) w i ≡ written_back m w i
  unfolding written_back
  give_back i inside =
      elim (cases_eq (state_of m i) dirty) [
        | inl is ↦ rw (give_state i inside, give_held i inside, held_slot i inside (occupied_state m i (λ none. omega arith)), give_block i)
        | inr apart ↦ rw (ap (λ (state : ℕ). state == dirty) (give_state i inside), other_number (state_of m i) dirty apart)
      ]

  -- no page is in a frame without a slot
  pub give_absent : frame_of m page ≡ None
  give_absent = no_frame m page (λ i inside. false_from_ne_true (holds m page i) (λ held. held_apart i inside (holds_occupied m page i held) (holds_page m page i held)))

  -- the bytes of other pages stay
  pub give_other_bytes : (q o : ℕ) → q < 256 → q ≢ page → o < 256 → heap_byte (with_slot_given m page) w q o ≡ heap_byte m w q o
  give_other_bytes q o low apart below =
      same_heap_byte m (with_slot_given m page) w w q o (give_frame q) (λ is. slot_byte_same m (with_slot_given m page) w w q o (give_other q low apart) refl) (λ i is. give_bytes i o below)

  give_once : (q p : ℕ) → q < 256 → p < 256 → has_slot (with_slot_given m page) q ≡ true → slot_of (with_slot_given m page) q ≡ slot_of (with_slot_given m page) p → q ≡ p
  give_once q p low low' has same =
      let n = with_slot_given m page in
      let before = λ (k : ℕ) (low : k < 256) (apart : k ≢ page) (has : has_slot n k ≡ true). g.paged.slots k low (had k low apart has) in
      elim (cases_eq q page) [
        | inl here ↦ elim (cases_eq p page) [
          | inl here' ↦ here ∙ sym here'
          | inr apart' ↦ absurd (omega (arith, same, ap (slot_of n) here, give_slot_of, give_other p low' apart', before p low' apart' (sym (same_slot_number n q p same) ∙ has)))
        ]
        | inr apart ↦ elim (cases_eq p page) [
          | inl here' ↦ absurd (omega (arith, same, ap (slot_of n) here', give_slot_of, give_other q low apart, before q low apart has))
          | inr apart' ↦ g.paged.once q p low low' (had q low apart has) (sym (give_other q low apart) ∙ same ∙ give_other p low' apart')
        ]
      ]

  pub give_paged : IsPaged (with_slot_given m page) w
  give_paged =
      let n = with_slot_given m page in
      record {
        sized = record { sram = given_length m page ∙ g.paged.sized.sram; swap = g.paged.sized.swap };
        slots = λ q low has. elim (cases_eq q page) [
          | inl same ↦ omega (arith, ap (slot_of n) same ∙ give_slot_of, give_more)
          | inr apart ↦ omega (arith, give_other q low apart, give_more, g.paged.slots q low (had q low apart has))
        ];
        each = λ slot below. elim (cases_eq slot (given m)) [
          | inl same ↦ (page, small, give_slot_of ∙ sym same)
          | inr apart ↦
              let there = g.paged.each slot (omega (arith, give_more)) in
              let other : there.0 ≢ page = λ same. omega (arith, give_more, ap (slot_of m) same, there.2, slot_absent m page g.none, g.paged.room, g.paged.sized.swap.count) in
              (there.0, there.1, give_other there.0 there.1 other ∙ there.2)
        ];
        once = give_once;
        heap = λ q low has. elim (cases_eq q page) [ inl same ↦ rw same g.heap | inr apart ↦ g.paged.heap q low (had q low apart has) ];
        room = omega (arith, give_more, g.left);
        states = λ i inside. rw (give_state i inside) (g.paged.states i inside);
        next = rw give_victim g.paged.next;
        held = λ i inside occupied. rw (give_held i inside) (g.paged.held i inside (was_occupied i inside occupied));
        backed = λ i inside occupied.
            let before = was_occupied i inside occupied in
            rw (give_held i inside, same_slot m n (page_held m i) (held_slot i inside before)) (g.paged.backed i inside before);
        different = λ i j inside inside' occupied occupied' same.
            g.paged.different i j inside inside' (was_occupied i inside occupied) (was_occupied j inside' occupied') (sym (give_held i inside) ∙ same ∙ give_held j inside');
        equal = λ i inside is_clean.
            let was : state_of m i ≡ clean = sym (give_state i inside) ∙ is_clean in
            rw (give_held i inside, held_slot i inside (clean_occupied m i was), give_block i) (g.paged.equal i inside was);
      }
