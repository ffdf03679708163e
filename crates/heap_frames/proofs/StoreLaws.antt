-- What a store leaves.
use Rattle.std.proofs.Common.{◌≡◌, ℕ, ◌/◌, ◌%◌, ◌<◌, List, length, arith, ap, ◌∙◌, refl}
use Rattle.std.specs.Prelude.{◌≢◌, Bool, true, false, None, Option, nat_lt, slice_index_or, slice_set}
use Rattle.std.proofs.lemmas.Bool.{ltb-true, ltb-false}
use Rattle.flat_machine.specs.Addresses.{is_heap}
use Rattle.heap_frames.specs.Frames.{resident_pages, victim, given, slot_of, has_slot, pages}
use Rattle.heap_frames.specs.Memory.{vmem}
use Rattle.heap_frames.specs.Paged.{IsPaged}
use Rattle.heap_frames.specs.Paging.{Store, frame_for, seated, first_touched, with_byte_in_frame, heap_store}
use Rattle.heap_frames.specs.Changes.{LeavesOthers, TakesFrame, Stored, StoredOr}
use Rattle.heap_frames.proofs.Tables.{table_set}
use Rattle.heap_frames.proofs.FrameLaws.{slot_held}
use Rattle.heap_frames.proofs.WriteLaws.{byte_elsewhere}
use Rattle.heap_frames.proofs.EntryLaws.{page_below, same_slot}
use Rattle.heap_frames.proofs.MemoryLaws.{heap_below, stack_from, stack_to, page_byte, one_byte}
use Rattle.heap_frames.proofs.PutLaws.{Puts, stored_entered, stored_paged, stored_resident_pages, stored_victim, stored_byte, stored_other}
use Rattle.heap_frames.proofs.GivenLaws.{Gives}
use Rattle.heap_frames.proofs.SeatLaws.{Ready, seated_leaves, first_touched_leaves}

-- a byte put into a page that is ready
putting : Store → ℕ → ℕ → ℕ → Store
putting g i a v = record { sram = with_byte_in_frame g.sram i (a / 256) (a % 256) v; swap = g.swap }

puts_there : {h g : Store} {i : ℕ} (a : ℕ) → Ready h g (a / 256) i → Puts g.sram g.swap i (a / 256) (a % 256)
puts_there a ready = record { paged = ready.paged; here = ready.here; below = omega arith }

module _ {h g : Store} {i : ℕ} (a v : ℕ) (ready : Ready h g (a / 256) i) where
  abbrev after : List ℕ
  after = with_byte_in_frame g.sram i (a / 256) (a % 256) v

  put_leaves : LeavesOthers h.sram (with_byte_in_frame g.sram i (a / 256) (a % 256) v)
  put_leaves =
      let elsewhere = byte_elsewhere g.sram i (a / 256) (a % 256) v in
      record {
        cells = λ b from below. elsewhere b from (λ same. omega arith) (λ same. omega arith) (λ same. omega arith) ∙ ready.others.cells b from below;
        tables = λ b above below. elsewhere b (omega arith) (λ same. omega arith) (λ same. omega arith) (λ same. omega arith) ∙ ready.others.tables b above below;
        window = λ b from to. elsewhere b (omega arith) (λ same. omega arith) (λ same. omega arith) (λ same. omega arith) ∙ ready.others.window b from to;
      }

  put_memory : is_heap a ≡ true → vmem (with_byte_in_frame g.sram i (a / 256) (a % 256) v) g.swap ≡ slice_set (vmem h.sram h.swap) a v
  put_memory heap =
      one_byte {m = h.sram} {n = after} {w = h.swap} {w' = g.swap} a v (record {
        window = λ b stack apart. put_leaves.window b (stack_from b stack) (stack_to b stack);
        heap = λ b inside in_heap apart.
            stored_other v (puts_there a ready) (b / 256) (b % 256) (omega arith) (omega arith) (λ same_page same_offset. apart (omega arith))
            ∙ ready.bytes (b / 256) (b % 256) (omega arith) (omega arith);
      }) (heap_below a heap) (page_byte after g.swap a heap ∙ stored_byte v (puts_there a ready))

  put_takes : TakesFrame h.sram (with_byte_in_frame g.sram i (a / 256) (a % 256) v) (a / 256)
  put_takes =
      let s : resident_pages after ≡ resident_pages g.sram = stored_resident_pages v (puts_there a ready) in
      let next : victim after ≡ victim g.sram = stored_victim v (puts_there a ready) in
      let holds = ready.frames.holds in
      record {
        holds = (holds.0, holds.1, ap (λ (before : List (Option ℕ)). slice_index_or before holds.0 None) s ∙ holds.2);
        stays = λ held. let stay = ready.frames.stays held in (s ∙ stay.0, next ∙ stay.1);
        comes = λ missed. let come = ready.frames.comes missed in (s ∙ come.0, next ∙ come.1);
      }

  put_slots : (p : ℕ) → p < 256 → slot_of (with_byte_in_frame g.sram i (a / 256) (a % 256) v) p ≡ slot_of g.sram p
  put_slots = (stored_entered v (puts_there a ready)).slots

  put_given : given (with_byte_in_frame g.sram i (a / 256) (a % 256) v) ≡ given g.sram
  put_given = (stored_entered v (puts_there a ready)).same_given

-- the page has a slot after, and the others as before
put_pages : (m n : List ℕ) (page : ℕ) → page < 256 → has_slot n page ≡ true → ((p : ℕ) → p < 256 → p ≢ page → slot_of n p ≡ slot_of m p) → pages n ≡ slice_set (pages m) page true
unfolding pages
put_pages m n page low has others = table_set 256 (has_slot m) (has_slot n) page true low has (λ p below apart. same_slot m n p (others p below apart))

stored_there : (h : Store) (a v : ℕ) → has_slot h.sram (a / 256) ≡ true → is_heap a ≡ true → IsPaged h.sram h.swap → Stored h a v (putting (seated h (a / 256)) (frame_for h.sram (a / 256)) a v)
unfolding putting
stored_there h a v has heap paged =
    let page = a / 256 in
    let low : page < 256 = page_below page heap in
    let leaves = seated_leaves h page paged heap has in
    let ready = leaves.0 in
    let same = leaves.1 in
    let n = with_byte_in_frame (seated h page).sram (frame_for h.sram page) page (a % 256) v in
    let slots = λ (p : ℕ) (below : p < 256). put_slots a v ready p below ∙ same.slots p below in
    record {
      memory = put_memory a v ready heap;
      paged = stored_paged v (puts_there a ready);
      pages = put_pages h.sram n page low (same_slot h.sram n page (slots page low) ∙ has) (λ p below apart. slots p below);
      slots = λ p below apart. slots p below;
      kept = λ had. (slots page low, put_given a v ready ∙ same.same_given);
      next = λ none. absurd (cc);
      count = ready.count;
      others = put_leaves a v ready;
      frames = put_takes a v ready;
    }

stored_first : (h : Store) (a v : ℕ) → Gives h.sram h.swap (a / 256) → is_heap a ≡ true → Stored h a v (putting (first_touched h (a / 256)) (victim h.sram) a v)
unfolding putting
stored_first h a v gives heap =
    let page = a / 256 in
    let low : page < 256 = page_below page heap in
    let leaves = first_touched_leaves h page gives in
    let ready = leaves.0 in
    let first = leaves.1 in
    let n = with_byte_in_frame (first_touched h page).sram (victim h.sram) page (a % 256) v in
    let own : slot_of n page ≡ given h.sram = put_slots a v ready page low ∙ first.own in
    let others = λ (p : ℕ) (below : p < 256) (apart : p ≢ page). put_slots a v ready p below ∙ first.others p below apart in
    record {
      memory = put_memory a v ready heap;
      paged = stored_paged v (puts_there a ready);
      pages = put_pages h.sram n page low (slot_held n page (λ none. omega (arith, own, gives.left, gives.paged.sized.swap.count))) others;
      slots = others;
      kept = λ had. let none = gives.none in absurd (cc);
      next = λ none. (own, put_given a v ready ∙ first.more);
      count = ready.count;
      others = put_leaves a v ready;
      frames = put_takes a v ready;
    }

store_by : (h : Store) (a v : ℕ) (has left : Bool) → has_slot h.sram (a / 256) ≡ has → nat_lt (given h.sram) (length h.swap) ≡ left → is_heap a ≡ true → IsPaged h.sram h.swap
    → StoredOr h a v (heap_store h a v)
unfolding heap_store putting
store_by h a v true left is is_left heap paged = rw is (stored_there h a v is heap paged)
store_by h a v false true is is_left heap paged =
    rw (is, is_left) (stored_first h a v (record { paged = paged; heap = heap; none = is; left = ltb-true (given h.sram) (length h.swap) is_left }) heap)
store_by h a v false false is is_left heap paged =
    rw (is, is_left) (record { absent = is; spent = omega (arith, ltb-false (given h.sram) (length h.swap) is_left, paged.room) })

pub store_leaves : (h : Store) (a v : ℕ) → is_heap a ≡ true → IsPaged h.sram h.swap → StoredOr h a v (heap_store h a v)
store_leaves h a v heap paged = store_by h a v (has_slot h.sram (a / 256)) (nat_lt (given h.sram) (length h.swap)) refl refl heap paged
