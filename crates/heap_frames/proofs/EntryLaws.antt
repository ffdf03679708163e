-- SRAM with one entry of the frame table replaced: how the frames then fit together.
use Rattle.std.proofs.Common.{◌≡◌, ℕ, ◌+◌, ◌-◌, ◌<◌, ◌≤◌, List, length, arith, ap, ap₂, ◌∙◌, sym, inl, inr}
use Rattle.std.specs.Prelude.{◌≢◌, Bool, true, false, not, ◌==◌, Some, None, if◌then◌else◌}
use Rattle.std.proofs.lemmas.Bool.{cases_eq}
use Rattle.std.proofs.lemmas.Bool.Decides.{nat_tests}
use Rattle.sram_layout.specs.Bytes.{byte_at, block_at}
use Rattle.sram_layout.proofs.Laws.{block_alike}
use Rattle.swap_store.specs.Slots.{page_in}
use Rattle.flat_machine.specs.Addresses.{is_heap_page}
use Rattle.sram_layout.specs.Cells.{no_slot}
use Rattle.heap_frames.specs.Frames.{clean, frame_bytes, page_held, state_of, is_occupied, resident_pages, holds, victim, given, slot_of, has_slot}
use Rattle.heap_frames.specs.Paged.{IsSized, IsPaged}
use Rattle.heap_frames.proofs.Tables.{table_same}
use Rattle.heap_frames.proofs.FrameLaws.{holds_both, same_holds, same_occupied, occupied_state}

-- n is m with another entry and other bytes for frame v
pub record Entered (m n : List ℕ) (v page state : ℕ) : Type 0 where
  pub size : length n ≡ length m
  pub inside : v < 8
  pub names : page_held n v ≡ page
  pub has_state : state_of n v ≡ state
  pub pages : (j : ℕ) → j < 8 → j ≢ v → page_held n j ≡ page_held m j
  pub states : (j : ℕ) → j < 8 → j ≢ v → state_of n j ≡ state_of m j
  pub slots : (p : ℕ) → p < 256 → slot_of n p ≡ slot_of m p
  pub same_given : given n ≡ given m
  pub bytes : (j k : ℕ) → j < 8 → j ≢ v → k < 256 → byte_at n (frame_bytes j + k) ≡ byte_at m (frame_bytes j + k)

-- the entry is that of a page which has a slot and is in no other frame
pub record Entry (m n : List ℕ) (w w' : List (List ℕ)) (v page state : ℕ) : Type 0 where
  pub entered : Entered m n v page state
  pub paged : IsPaged m w
  pub heap : is_heap_page page ≡ true
  pub slot : has_slot m page ≡ true
  pub alone : (j : ℕ) → j < 8 → j ≢ v → holds m page j ≡ false
  pub full : 0 < state
  pub known : state ≤ 2
  pub next : victim n ≤ 7
  pub sized : IsSized n w'
  pub count : length w' ≡ length w
  pub equal : state ≡ clean → block_at n (frame_bytes v) ≡ page_in w' (slot_of m page)
  pub others : (j : ℕ) → j < 8 → j ≢ v → is_occupied m j ≡ true → page_in w' (slot_of m (page_held m j)) ≡ page_in w (slot_of m (page_held m j))

pub page_below : (page : ℕ) → is_heap_page page ≡ true → page < 256
page_below page heap = grind (arith, nat_tests)

-- the page of an occupied frame is one of the 256
pub held_below : {m : List ℕ} {w : List (List ℕ)} → IsPaged m w → (i : ℕ) → i < 8 → is_occupied m i ≡ true → page_held m i < 256
held_below {m} paged i inside occupied = page_below (page_held m i) (paged.held i inside occupied)

-- the same occupied frames with the same pages
pub same_resident_pages : (m n : List ℕ) → ((j : ℕ) → j < 8 → is_occupied n j ≡ is_occupied m j) → ((j : ℕ) → j < 8 → page_held n j ≡ page_held m j) → resident_pages n ≡ resident_pages m
unfolding resident_pages
same_resident_pages m n occupied held =
    table_same 8 (λ j. if is_occupied n j then Some (page_held n j) else None) (λ j. if is_occupied m j then Some (page_held m j) else None)
    (λ j low. ap₂ (λ (occupied : Bool) (held : ℕ). if occupied then Some held else None) (occupied j low) (held j low))

pub same_slot : (m n : List ℕ) (page : ℕ) → slot_of n page ≡ slot_of m page → has_slot n page ≡ has_slot m page
same_slot m n page same = ap (λ (slot : ℕ). not (slot == no_slot)) same

module _ {m n : List ℕ} {v page state : ℕ} (e : Entered m n v page state) where
  pub same_holds_other : (q j : ℕ) → j < 8 → j ≢ v → holds n q j ≡ holds m q j
  same_holds_other q j inside apart = same_holds m n q j (e.pages j inside apart) (e.states j inside apart)

  pub same_block_other : (j : ℕ) → j < 8 → j ≢ v → block_at n (frame_bytes j) ≡ block_at m (frame_bytes j)
  same_block_other j inside apart =
      block_alike n m (frame_bytes j) (omega arith) e.size (λ b from to.
      let place : frame_bytes j + (b - frame_bytes j) ≡ b = omega arith in
      rw (← place) (e.bytes j (b - frame_bytes j) inside apart (omega arith)))

module _ {m n : List ℕ} {w w' : List (List ℕ)} {v page state : ℕ} (e : Entry m n w w' v page state) where
  was_occupied : (i : ℕ) → i < 8 → i ≢ v → is_occupied n i ≡ true → is_occupied m i ≡ true
  was_occupied i inside apart occupied = sym (same_occupied m n i (e.entered.states i inside apart)) ∙ occupied

  had : (p : ℕ) → p < 256 → has_slot n p ≡ true → has_slot m p ≡ true
  had p below has = sym (same_slot m n p (e.entered.slots p below)) ∙ has

  held_after : (i : ℕ) → i < 8 → is_occupied n i ≡ true → is_heap_page (page_held n i) ≡ true
  held_after i inside occupied = elim (cases_eq i v) [
    | inl same ↦ rw (same, e.entered.names) e.heap
    | inr apart ↦ rw (e.entered.pages i inside apart) (e.paged.held i inside (was_occupied i inside apart occupied))
  ]

  backed_after : (i : ℕ) → i < 8 → is_occupied n i ≡ true → has_slot n (page_held n i) ≡ true
  backed_after i inside occupied =
      same_slot m n (page_held n i) (e.entered.slots (page_held n i) (page_below (page_held n i) (held_after i inside occupied))) ∙ elim (cases_eq i v) [
        | inl same ↦ rw (same, e.entered.names) e.slot
        | inr apart ↦ rw (e.entered.pages i inside apart) (e.paged.backed i inside (was_occupied i inside apart occupied))
      ]

  -- another frame holds another page
  other_page : (j : ℕ) → j < 8 → j ≢ v → is_occupied n j ≡ true → page_held n j ≢ page
  other_page j inside apart occupied = λ same.
      let there : holds m page j ≡ true = sym (same_holds_other e.entered page j inside apart) ∙ holds_both n page j occupied same in
      let none = e.alone j inside apart in
      absurd (cc)

  different_after : (i j : ℕ) → i < 8 → j < 8 → is_occupied n i ≡ true → is_occupied n j ≡ true → page_held n i ≡ page_held n j → i ≡ j
  different_after i j below below' occupied occupied' same = elim (cases_eq i v) [
    | inl here ↦ elim (cases_eq j v) [
      | inl here' ↦ here ∙ sym here'
      | inr apart' ↦ absurd (other_page j below' apart' occupied' (sym same ∙ ap (page_held n) here ∙ e.entered.names))
    ]
    | inr apart ↦ elim (cases_eq j v) [
      | inl here' ↦ absurd (other_page i below apart occupied (same ∙ ap (page_held n) here' ∙ e.entered.names))
      | inr apart' ↦ e.paged.different i j below below' (was_occupied i below apart occupied) (was_occupied j below' apart' occupied')
          (sym (e.entered.pages i below apart) ∙ same ∙ e.entered.pages j below' apart')
    ]
  ]

  equal_after : (i : ℕ) → i < 8 → state_of n i ≡ clean → block_at n (frame_bytes i) ≡ page_in w' (slot_of n (page_held n i))
  equal_after i inside is_clean =
      let occupied : is_occupied n i ≡ true = occupied_state n i (λ none. omega arith) in
      rw (e.entered.slots (page_held n i) (page_below (page_held n i) (held_after i inside occupied))) (elim (cases_eq i v) [
        | inl same ↦ rw (same, e.entered.names) (e.equal (sym e.entered.has_state ∙ ap (state_of n) (sym same) ∙ is_clean))
        | inr apart ↦ rw (e.entered.pages i inside apart)
            (same_block_other e.entered i inside apart ∙ e.paged.equal i inside (sym (e.entered.states i inside apart) ∙ is_clean)
            ∙ sym (e.others i inside apart (was_occupied i inside apart occupied)))
      ])

  pub entry_paged : IsPaged n w'
  entry_paged = record {
    sized = e.sized;
    slots = λ p below has. rw (e.entered.slots p below, e.entered.same_given) (e.paged.slots p below (had p below has));
    each = λ slot below.
        let place = e.paged.each slot (rw e.entered.same_given at below) in
        (place.0, place.1, e.entered.slots place.0 place.1 ∙ place.2);
    once = λ p q below below' has same. e.paged.once p q below below' (had p below has) (sym (e.entered.slots p below) ∙ same ∙ e.entered.slots q below');
    heap = λ p below has. e.paged.heap p below (had p below has);
    room = rw (e.entered.same_given, e.count) e.paged.room;
    states = λ i inside. elim (cases_eq i v) [ inl same ↦ rw (same, e.entered.has_state) e.known | inr apart ↦ rw (e.entered.states i inside apart) (e.paged.states i inside) ];
    next = e.next;
    held = held_after;
    backed = backed_after;
    different = different_after;
    equal = equal_after;
  }
