-- A page brought into use: in a frame, with a slot.
use Rattle.std.proofs.Common.{◌≡◌, ℕ, ◌+◌, ◌%◌, ◌<◌, List, length, arith, ap, ap₂, ◌∙◌, sym, refl, inl, inr}
use Rattle.std.specs.Prelude.{◌≢◌, Bool, true, Option, Some, None, is_some, slice_index_or, slice_set, if◌then◌else◌}
use Rattle.std.proofs.lemmas.Bool.{cases_eq}
use Rattle.swap_store.specs.Slots.{page_in, zero_page}
use Rattle.swap_store.proofs.Laws.{length-zero_page, zero_page_byte}
use Rattle.flat_machine.specs.Addresses.{is_heap_page}
use Rattle.heap_frames.specs.Frames.{clean, dirty, page_held, is_occupied, frame_of, resident_pages, victim, given, slot_of, has_slot}
use Rattle.heap_frames.specs.Memory.{heap_byte}
use Rattle.heap_frames.specs.Paged.{IsPaged}
use Rattle.heap_frames.specs.Paging.{Store, written_back, with_page_in_frame, with_slot_given, frame_for, seated, first_touched}
use Rattle.heap_frames.specs.Changes.{LeavesOthers, TakesFrame}
use Rattle.heap_frames.proofs.Tables.{table_item, table_set}
use Rattle.heap_frames.proofs.FrameLaws.{Holds, frame_holds, same_occupied, none_some}
use Rattle.heap_frames.proofs.WriteLaws.{page_elsewhere, page_victim, given_elsewhere}
use Rattle.heap_frames.proofs.EntryLaws.{page_below}
use Rattle.heap_frames.proofs.BackLaws.{back_length}
use Rattle.heap_frames.proofs.HeapBytes.{byte_in_slot, byte_of_slot, byte_of_no_slot}
use Rattle.heap_frames.proofs.ReplaceLaws.{Replaces, next_sram, next_swap, out_below, out_between, out_above, entered_next, next_paged, next_holds, next_bytes, next_other_bytes}
use Rattle.heap_frames.proofs.GivenLaws.{Gives, give_paged, give_has, give_absent, give_frame, give_resident_pages, give_victim, give_back, give_other_bytes, give_slot_of, give_more, give_other}

-- after, frame i holds the page, and the memory is as before
pub record Ready (before after : Store) (page i : ℕ) : Type 0 where
  pub paged : IsPaged after.sram after.swap
  pub here : Holds after.sram page i
  pub bytes : (q o : ℕ) → q < 256 → o < 256 → heap_byte after.sram after.swap q o ≡ heap_byte before.sram before.swap q o
  pub others : LeavesOthers before.sram after.sram
  pub count : length after.swap ≡ length before.swap
  pub frames : TakesFrame before.sram after.sram page

-- the slots stay
pub record SameSlots (m n : List ℕ) : Type 0 where
  pub slots : (p : ℕ) → p < 256 → slot_of n p ≡ slot_of m p
  pub same_given : given n ≡ given m

-- a frame that holds a page, among the resident_pages
pub seat_item : (m : List ℕ) (page i : ℕ) → Holds m page i → slice_index_or (resident_pages m) i None ≡ Some page
unfolding resident_pages
seat_item m page i here =
    table_item 8 (λ j. if is_occupied m j then Some (page_held m j) else None) i None here.inside
    ∙ ap₂ (λ (occupied : Bool) (held : ℕ). if occupied then Some held else None) here.occupied here.names

module _ {m : List ℕ} {w : List (List ℕ)} {page : ℕ} {bytes : List ℕ} {state : ℕ} (r : Replaces m w page bytes state) where
  put_others : LeavesOthers m (next_sram m page bytes state)
  put_others =
      let inside : victim m < 8 = omega (arith, r.paged.next) in
      let elsewhere = page_elsewhere m bytes (victim m) page state r.paged.sized.sram r.long inside in
      record {
        cells = λ b from below. elsewhere b from (out_below (victim m) b inside below) (λ same. omega arith);
        tables = λ b above below. elsewhere b (omega arith) (out_between (victim m) b inside (omega arith) (omega arith)) (λ same. omega arith);
        window = λ b from to. elsewhere b (omega arith) (out_above (victim m) b inside from) (λ same. omega arith);
      }

  put_resident_pages : resident_pages (next_sram m page bytes state) ≡ slice_set (resident_pages m) (victim m) (Some page)
  unfolding resident_pages
  put_resident_pages =
      let n = next_sram m page bytes state in
      let e = entered_next r in
      let there = next_holds r in
      table_set 8 (λ j. if is_occupied m j then Some (page_held m j) else None) (λ j. if is_occupied n j then Some (page_held n j) else None) (victim m) (Some page) there.inside
      (ap₂ (λ (occupied : Bool) (held : ℕ). if occupied then Some held else None) there.occupied there.names)
      (λ j low apart. ap₂ (λ (occupied : Bool) (held : ℕ). if occupied then Some held else None) (same_occupied m n j (e.states j low apart)) (e.pages j low apart))

  put_takes : TakesFrame m (next_sram m page bytes state) page
  put_takes =
      let there = next_holds r in
      record {
        holds = (victim m, there.inside, seat_item (next_sram m page bytes state) page (victim m) there);
        stays = λ held. let none = none_some m page r.absent in absurd (cc);
        comes = λ missed. (put_resident_pages, page_victim m bytes (victim m) page state r.paged.sized.sram r.long there.inside);
      }

-- the page is in a frame already
seated_there : (h : Store) (page i : ℕ) → IsPaged h.sram h.swap → frame_of h.sram page ≡ Some i → Ready h h page i
seated_there h page i paged found =
    let there = frame_holds h.sram page i found in
    record {
      paged = paged;
      here = there;
      bytes = λ q o low below. refl;
      others = record { cells = λ b from below. refl; tables = λ b above below. refl; window = λ b from to. refl };
      count = refl;
      frames = record {
        holds = (i, there.inside, seat_item h.sram page i there);
        stays = λ held. (refl, refl);
        comes = λ missed. let some : is_some (frame_of h.sram page) ≡ true = ap is_some found in absurd (cc);
      };
    }

-- the page comes from its slot
slot_replaces : (h : Store) (page : ℕ) → IsPaged h.sram h.swap → is_heap_page page ≡ true → has_slot h.sram page ≡ true → frame_of h.sram page ≡ None
    → Replaces h.sram h.swap page (page_in h.swap (slot_of h.sram page)) clean
slot_replaces h page paged heap has missed = record {
  paged = paged;
  heap = heap;
  slot = has;
  absent = missed;
  long = paged.sized.swap.sizes (slot_of h.sram page) (omega (arith, paged.slots page (page_below page heap) has, paged.room));
  full = omega arith;
  known = omega arith;
  equal = λ is_clean. refl;
}

from_slot : Store → ℕ → Store
from_slot h page = record {
  sram = with_page_in_frame h.sram (victim h.sram) page (page_in h.swap (slot_of h.sram page)) clean;
  swap = written_back h.sram h.swap (victim h.sram);
}

seated_from : (h : Store) (page : ℕ) → IsPaged h.sram h.swap → is_heap_page page ≡ true → has_slot h.sram page ≡ true → frame_of h.sram page ≡ None
    → Ready h (from_slot h page) page (victim h.sram) × SameSlots h.sram (from_slot h page).sram
unfolding from_slot
seated_from h page paged heap has missed =
    let r = slot_replaces h page paged heap has missed in (
      record {
        paged = next_paged r;
        here = next_holds r;
        bytes = λ q o low below. elim (cases_eq q page) [
          | inl same ↦ rw same (next_bytes r (written_back h.sram h.swap (victim h.sram)) o below ∙ sym (byte_in_slot h.sram h.swap page o missed ∙ byte_of_slot h.sram h.swap page o has))
          | inr apart ↦ next_other_bytes r q o low apart below
        ];
        others = put_others r;
        count = back_length h.sram h.swap (victim h.sram);
        frames = put_takes r;
      },
      record { slots = (entered_next r).slots; same_given = (entered_next r).same_given },
    )

is_there : (h : Store) (page i : ℕ) → frame_of h.sram page ≡ Some i → seated h page ≡ h
unfolding seated
is_there h page i found = rw found

is_from : (h : Store) (page : ℕ) → frame_of h.sram page ≡ None → seated h page ≡ from_slot h page
unfolding seated from_slot
is_from h page missed = rw missed

pub frame_there : (m : List ℕ) (page i : ℕ) → frame_of m page ≡ Some i → frame_for m page ≡ i
unfolding frame_for
frame_there m page i found = rw found

frame_next : (m : List ℕ) (page : ℕ) → frame_of m page ≡ None → frame_for m page ≡ victim m
unfolding frame_for
frame_next m page missed = rw missed

seated_by : (h : Store) (page : ℕ) (found : Option ℕ) → frame_of h.sram page ≡ found → IsPaged h.sram h.swap → is_heap_page page ≡ true → has_slot h.sram page ≡ true
    → Ready h (seated h page) page (frame_for h.sram page) × SameSlots h.sram (seated h page).sram
seated_by h page (Some i) is paged heap has = rw (is_there h page i is, frame_there h.sram page i is) (seated_there h page i paged is, record { slots = λ p low. refl; same_given = refl })
seated_by h page None is paged heap has = rw (is_from h page is, frame_next h.sram page is) (seated_from h page paged heap has is)

pub seated_leaves : (h : Store) (page : ℕ) → IsPaged h.sram h.swap → is_heap_page page ≡ true → has_slot h.sram page ≡ true
    → Ready h (seated h page) page (frame_for h.sram page) × SameSlots h.sram (seated h page).sram
seated_leaves h page paged heap has = seated_by h page (frame_of h.sram page) refl paged heap has

-- the page gets a slot, and is all zeros
first_touched_replaces : {m : List ℕ} {w : List (List ℕ)} {page : ℕ} → Gives m w page → Replaces (with_slot_given m page) w page zero_page dirty
first_touched_replaces {m} {w} {page} g = record {
  paged = give_paged g;
  heap = g.heap;
  slot = give_has g;
  absent = give_frame g page ∙ give_absent g;
  long = length-zero_page;
  full = omega arith;
  known = omega arith;
  equal = λ is_clean. absurd (omega arith);
}

first_touched_at : Store → ℕ → Store
first_touched_at h page = record {
  sram = with_page_in_frame (with_slot_given h.sram page) (victim (with_slot_given h.sram page)) page zero_page dirty;
  swap = written_back (with_slot_given h.sram page) h.swap (victim (with_slot_given h.sram page));
}

is_first_touched : (h : Store) (page : ℕ) → Gives h.sram h.swap page → first_touched h page ≡ first_touched_at h page
unfolding first_touched first_touched_at
is_first_touched h page g = rw (give_victim g, give_back g (victim h.sram) (omega (arith, g.paged.next)))

module _ {m : List ℕ} {w : List (List ℕ)} {page : ℕ} (g : Gives m w page) where
  first_touched_byte : (q o : ℕ) → q < 256 → o < 256 → heap_byte (next_sram (with_slot_given m page) page zero_page dirty) (next_swap (with_slot_given m page) w) q o ≡ heap_byte m w q o
  first_touched_byte q o low below =
      let r = first_touched_replaces g in
      elim (cases_eq q page) [
        | inl same ↦ rw same (next_bytes r (next_swap (with_slot_given m page) w) o below ∙ zero_page_byte o below ∙ sym (byte_in_slot m w page o (give_absent g) ∙ byte_of_no_slot m w page o g.none))
        | inr apart ↦ next_other_bytes r q o low apart below ∙ give_other_bytes g q o low apart below
      ]

  first_touched_takes : TakesFrame m (next_sram (with_slot_given m page) page zero_page dirty) page
  first_touched_takes =
      let t = put_takes (first_touched_replaces g) in
      let come = t.comes (none_some (with_slot_given m page) page (give_frame g page ∙ give_absent g)) in
      record {
        holds = t.holds;
        stays = λ held. let none = none_some m page (give_absent g) in absurd (cc);
        comes = λ missed.
            (come.0 ∙ ap₂ (λ (before : List (Option ℕ)) (v : ℕ). slice_set before v (Some page)) (give_resident_pages g) (give_victim g), come.1 ∙ ap (λ (v : ℕ). (v + 1) % 8) (give_victim g));
      }

-- the next slot is the page's, and the other slots stay
pub record NextSlot (m n : List ℕ) (page : ℕ) : Type 0 where
  pub own : slot_of n page ≡ given m
  pub more : given n ≡ given m + 1
  pub others : (p : ℕ) → p < 256 → p ≢ page → slot_of n p ≡ slot_of m p

first_touched_at_leaves : (h : Store) (page : ℕ) → Gives h.sram h.swap page
    → Ready h (first_touched_at h page) page (victim (with_slot_given h.sram page)) × NextSlot h.sram (first_touched_at h page).sram page
unfolding first_touched_at
first_touched_at_leaves h page g =
    let r = first_touched_replaces g in
    let e = entered_next r in
    let low = page_below page g.heap in
    let put = put_others r in (
      record {
        paged = next_paged r;
        here = next_holds r;
        bytes = first_touched_byte g;
        others = record {
          cells = λ b from below. put.cells b from below ∙ given_elsewhere h.sram page b from (λ same. omega arith) (λ same. omega arith);
          tables = λ b above below. put.tables b above below ∙ given_elsewhere h.sram page b (omega arith) (λ same. omega arith) (λ same. omega arith);
          window = λ b from to. put.window b from to ∙ given_elsewhere h.sram page b (omega arith) (λ same. omega arith) (λ same. omega arith);
        };
        count = back_length (with_slot_given h.sram page) h.swap (victim (with_slot_given h.sram page));
        frames = first_touched_takes g;
      },
      record { own = e.slots page low ∙ give_slot_of g; more = e.same_given ∙ give_more g; others = λ p below apart. e.slots p below ∙ give_other g p below apart },
    )

pub first_touched_leaves : (h : Store) (page : ℕ) → Gives h.sram h.swap page → Ready h (first_touched h page) page (victim h.sram) × NextSlot h.sram (first_touched h page).sram page
first_touched_leaves h page g = rw (is_first_touched h page g, ← give_victim g) (first_touched_at_leaves h page g)
