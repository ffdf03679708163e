-- What a load leaves.
use Rattle.std.proofs.Common.{◌≡◌, ℕ, ◌+◌, ◌/◌, ◌%◌, List, arith, ◌∙◌, sym, refl}
use Rattle.std.specs.Prelude.{Bool, true, false, None}
use Rattle.std.proofs.lemmas.Bool.{false_from_ne_true}
use Rattle.sram_layout.specs.Bytes.{byte_at}
use Rattle.flat_machine.specs.Addresses.{is_heap}
use Rattle.heap_frames.specs.Frames.{frame_bytes, frame_of, holds, has_slot, pages}
use Rattle.heap_frames.specs.Paged.{IsPaged}
use Rattle.heap_frames.specs.Paging.{Store, frame_for, seated, heap_load}
use Rattle.heap_frames.specs.Changes.{Loaded}
use Rattle.heap_frames.proofs.Tables.{table_same}
use Rattle.heap_frames.proofs.FrameLaws.{no_frame, holds_occupied, holds_page, paged_frame}
use Rattle.heap_frames.proofs.EntryLaws.{page_below, same_slot}
use Rattle.heap_frames.proofs.HeapBytes.{byte_in_frame, byte_in_slot, byte_of_no_slot}
use Rattle.heap_frames.proofs.MemoryLaws.{heap_below, stack_from, stack_to, page_byte, vmem_byte, same_memory}
use Rattle.heap_frames.proofs.SeatLaws.{seated_leaves, SameSlots}

-- a page without a slot is in no frame
pub absent_without_slot : (m : List ℕ) (w : List (List ℕ)) (page : ℕ) → IsPaged m w → has_slot m page ≡ false → frame_of m page ≡ None
absent_without_slot m w page paged none =
    no_frame m page (λ i inside. false_from_ne_true (holds m page i) (λ held.
    let has : has_slot m page ≡ true = rw (holds_page m page i held) at (paged.backed i inside (holds_occupied m page i held)) in
    absurd (cc)))

-- the same slots, page by page
pub same_pages : (m n : List ℕ) → SameSlots m n → pages n ≡ pages m
unfolding pages
same_pages m n same = table_same 256 (has_slot n) (has_slot m) (λ p low. same_slot m n p (same.slots p low))

load_there : (h : Store) (a : ℕ) → has_slot h.sram (a / 256) ≡ true → is_heap a ≡ true → IsPaged h.sram h.swap
    → Loaded h a (byte_at (seated h (a / 256)).sram (frame_bytes (frame_for h.sram (a / 256)) + a % 256)) (seated h (a / 256))
load_there h a has heap paged =
    let page = a / 256 in
    let g = seated h page in
    let i = frame_for h.sram page in
    let leaves = seated_leaves h page paged heap has in
    let ready = leaves.0 in
    let same = leaves.1 in
    record {
      value =
          sym (byte_in_frame g.sram g.swap page (a % 256) i (paged_frame g.sram g.swap page i ready.paged ready.here))
          ∙ ready.bytes page (a % 256) (page_below page heap) (omega arith)
          ∙ sym (vmem_byte h.sram h.swap a (heap_below a heap) ∙ page_byte h.sram h.swap a heap);
      memory = same_memory {m = h.sram} {n = g.sram} {w = h.swap} {w' = g.swap} (record {
        window = λ b stack always. ready.others.window b (stack_from b stack) (stack_to b stack);
        heap = λ b inside in_heap always. ready.bytes (b / 256) (b % 256) (omega arith) (omega arith);
      });
      paged = ready.paged;
      pages = same_pages h.sram g.sram same;
      slots = same.slots;
      given = same.same_given;
      count = ready.count;
      others = ready.others;
      frames = λ there. ready.frames;
      idle = λ none. absurd (cc);
    }

load_idle : (h : Store) (a : ℕ) → has_slot h.sram (a / 256) ≡ false → is_heap a ≡ true → IsPaged h.sram h.swap → Loaded h a 0 h
load_idle h a none heap paged = record {
  value = sym (vmem_byte h.sram h.swap a (heap_below a heap) ∙ page_byte h.sram h.swap a heap ∙ byte_in_slot h.sram h.swap (a / 256) (a % 256) (absent_without_slot h.sram h.swap (a / 256) paged none)
      ∙ byte_of_no_slot h.sram h.swap (a / 256) (a % 256) none);
  memory = refl;
  paged = paged;
  pages = refl;
  slots = λ p low. refl;
  given = refl;
  count = refl;
  others = record { cells = λ b from to. refl; tables = λ b from to. refl; window = λ b from to. refl };
  frames = λ there. absurd (cc);
  idle = λ absent. refl;
}

load_by : (h : Store) (a : ℕ) (has : Bool) → has_slot h.sram (a / 256) ≡ has → is_heap a ≡ true → IsPaged h.sram h.swap → Loaded h a (heap_load h a).0 (heap_load h a).1
unfolding heap_load
load_by h a true is heap paged = rw is (load_there h a is heap paged)
load_by h a false is heap paged = rw is (load_idle h a is heap paged)

pub load_leaves : (h : Store) (a : ℕ) → is_heap a ≡ true → IsPaged h.sram h.swap → Loaded h a (heap_load h a).0 (heap_load h a).1
load_leaves h a heap paged = load_by h a (has_slot h.sram (a / 256)) refl heap paged
