-- The frame that holds a page. m and n are lists of SRAM's bytes.
use Rattle.std.proofs.Common.{◌≡◌, ℕ, ◌<◌, List, arith, ap, ap₂, ◌∙◌, sym}
use Rattle.std.specs.Prelude.{◌≢◌, true, false, not, ◌&&◌, ◌==◌, Some, None, is_some, slice_index_or}
use Rattle.std.proofs.lemmas.Bool.Decides.{nat_tests}
use Rattle.std.proofs.lemmas.List.FromFn.{get_or-map-range_with_len}
use Rattle.sram_layout.specs.Cells.{no_slot}
use Rattle.heap_frames.specs.Frames.{empty, clean, page_held, state_of, is_occupied, holds, frame_of, slot_of, has_slot, pages, table}
use Rattle.heap_frames.specs.Paged.{IsPaged}
use Rattle.heap_frames.proofs.Searches.{found_passes, missed_passes, found_same, none_found, only_found}

-- an occupied frame, and the page that it holds
pub record Holds (m : List ℕ) (page i : ℕ) : Type 0 where
  pub inside : i < 8
  pub occupied : is_occupied m i ≡ true
  pub names : page_held m i ≡ page

pub holds_both : (m : List ℕ) (page i : ℕ) → is_occupied m i ≡ true → page_held m i ≡ page → holds m page i ≡ true
holds_both m page i occupied held = grind (arith, nat_tests)

pub holds_occupied : (m : List ℕ) (page i : ℕ) → holds m page i ≡ true → is_occupied m i ≡ true
holds_occupied m page i held = grind (arith, nat_tests)

pub holds_page : (m : List ℕ) (page i : ℕ) → holds m page i ≡ true → page_held m i ≡ page
holds_page m page i held = grind (arith, nat_tests)

pub holds_other : (m : List ℕ) (page i : ℕ) → page_held m i ≢ page → holds m page i ≡ false
holds_other m page i apart = grind (arith, nat_tests)

-- occupied frames by their state
pub occupied_state : (m : List ℕ) (i : ℕ) → state_of m i ≢ 0 → is_occupied m i ≡ true
occupied_state m i full = grind (arith, nat_tests)

pub state_occupied : (m : List ℕ) (i : ℕ) → is_occupied m i ≡ true → state_of m i ≢ 0
state_occupied m i occupied = λ none. grind (arith, nat_tests)

-- pages with slots
pub slot_held : (m : List ℕ) (page : ℕ) → slot_of m page ≢ 0xFF → has_slot m page ≡ true
slot_held m page some = grind (arith, nat_tests)

pub slot_there : (m : List ℕ) (page : ℕ) → has_slot m page ≡ true → slot_of m page ≢ 0xFF
slot_there m page has = λ none. grind (arith, nat_tests)

pub slot_absent : (m : List ℕ) (page : ℕ) → has_slot m page ≡ false → slot_of m page ≡ 0xFF
slot_absent m page none = grind (arith, nat_tests)

pub same_slot_number : (m : List ℕ) (page other : ℕ) → slot_of m page ≡ slot_of m other → has_slot m page ≡ has_slot m other
same_slot_number m page other same = ap (λ (slot : ℕ). not (slot == no_slot)) same

-- the table of pages with slots
pub page_of_table : (m : List ℕ) (page : ℕ) → page < 256 → slice_index_or (pages m) page false ≡ has_slot m page
unfolding pages table
page_of_table m page below = get_or-map-range_with_len (has_slot m) 0 256 page page false below (omega arith)

pub other_number : (a b : ℕ) → a ≢ b → (a == b) ≡ false
other_number a b apart = grind (arith, nat_tests)

-- the frame that was found holds the page
pub frame_holds : (m : List ℕ) (page i : ℕ) → frame_of m page ≡ Some i → Holds m page i
unfolding frame_of
frame_holds m page i found =
    let passes = found_passes (holds m page) 0 8 i found in
    record { inside = omega (arith, passes.to); occupied = holds_occupied m page i passes.test; names = holds_page m page i passes.test }

-- where none was found, none holds it
pub no_frame_holds : (m : List ℕ) (page i : ℕ) → frame_of m page ≡ None → i < 8 → holds m page i ≡ false
unfolding frame_of
no_frame_holds m page i missed inside = missed_passes (holds m page) 0 8 i missed (omega arith) (omega arith)

pub no_frame : (m : List ℕ) (page : ℕ) → ((i : ℕ) → i < 8 → holds m page i ≡ false) → frame_of m page ≡ None
unfolding frame_of
no_frame m page fail = none_found (holds m page) 0 8 (λ i from to. fail i (omega arith))

-- the only one that holds it is found
pub only_frame : (m : List ℕ) (page i : ℕ) → Holds m page i → ((j : ℕ) → j < 8 → holds m page j ≡ true → j ≡ i) → frame_of m page ≡ Some i
unfolding frame_of
only_frame m page i here alone =
    only_found (holds m page) 0 8 i (omega arith) (omega (arith, here.inside)) (holds_both m page i here.occupied here.names) (λ j from to held. alone j (omega arith) held)

-- where the frames fit together, each that holds a page is found
pub paged_frame : (m : List ℕ) (w : List (List ℕ)) (page i : ℕ) → IsPaged m w → Holds m page i → frame_of m page ≡ Some i
paged_frame m w page i paged here =
    only_frame m page i here (λ j inside held. paged.different j i inside here.inside (holds_occupied m page j held) here.occupied (holds_page m page j held ∙ sym here.names))

-- the same entries find the same frame
pub same_frame : (m n : List ℕ) (page : ℕ) → ((i : ℕ) → i < 8 → holds n page i ≡ holds m page i) → frame_of n page ≡ frame_of m page
unfolding frame_of
same_frame m n page agree = found_same (holds n page) (holds m page) 0 8 (λ i from to. agree i (omega arith))

-- the test by its two bytes
pub same_holds : (m n : List ℕ) (page i : ℕ) → page_held n i ≡ page_held m i → state_of n i ≡ state_of m i → holds n page i ≡ holds m page i
same_holds m n page i pages states = ap₂ (λ (held : ℕ) (state : ℕ). not (state == empty) && held == page) pages states

pub same_occupied : (m n : List ℕ) (i : ℕ) → state_of n i ≡ state_of m i → is_occupied n i ≡ is_occupied m i
same_occupied m n i states = ap (λ (state : ℕ). not (state == empty)) states

-- what was found, as a test
pub none_some : (m : List ℕ) (page : ℕ) → frame_of m page ≡ None → is_some (frame_of m page) ≡ false
none_some m page missed = ap is_some missed

-- a clean frame is occupied
pub clean_occupied : (m : List ℕ) (i : ℕ) → state_of m i ≡ clean → is_occupied m i ≡ true
clean_occupied m i is_clean = occupied_state m i (λ none. omega arith)
