-- The heap's laws in the words of the flat memory: a byte of the stack window, and a store with and without room.
use Rattle.std.proofs.Common.{◌≡◌, ℕ, ◌/◌, ◌<◌, Bool, true, false, ◌||◌, cond, List, length, slice_set, slice_index, refl, ap₂, ◌∙◌, arith, inr, subst}
use Rattle.std.specs.Prelude.{Some, None, nat_lt, count_by, slice_index_or}
use Rattle.std.proofs.lemmas.Bool.Decides.{nat_tests}
use Rattle.sram_layout.specs.Bytes.{byte_at, with_byte}
use Rattle.flat_machine.specs.Addresses.{is_stack, is_heap}
use Rattle.heap_frames.specs.Changes.{Stored, StoredOr}
use Rattle.heap_frames.specs.Frames.{pages, has_slot, given}
use Rattle.heap_frames.specs.Memory.{vmem}
use Rattle.heap_frames.specs.Paged.{IsPaged}
use Rattle.heap_frames.specs.Paging.{Store, heap_store}
use Rattle.heap_frames.specs.SamePaging.{SamePaging}
use Rattle.heap_frames.proofs.FrameLaws.{page_of_table}
use Rattle.heap_frames.proofs.MemoryLaws.{vmem_byte, stack_byte, stack_from, stack_to}
use Rattle.heap_frames.proofs.SamePagingLaws.{same_paging_byte, paged_same, pages_same, vmem_window}
use Rattle.heap_frames.proofs.StoreLaws.{store_leaves}
use Rattle.heap_frames.proofs.CountLaws.{number_of_pages}

-- a byte of the stack window is SRAM's byte
pub stack_read : (m : List ℕ) (w : List (List ℕ)) (a : ℕ) → is_stack a ≡ true → slice_index (vmem m w) a ≡ byte_at m a
stack_read m w a stack = vmem_byte m w a (let to = stack_to a stack in omega arith) ∙ stack_byte m w a stack

-- a byte written there leaves frames and slots, and is the memory's byte
pub stack_paging : (m : List ℕ) (a v : ℕ) → is_stack a ≡ true → SamePaging m (with_byte m a v)
stack_paging m a v stack =
    let from = stack_from a stack in
    same_paging_byte m a v (omega arith) (inr (inr from))

pub stack_write : (m : List ℕ) (w : List (List ℕ)) (a v : ℕ) → IsPaged m w → is_stack a ≡ true → vmem (with_byte m a v) w ≡ slice_set (vmem m w) a v
stack_write m w a v paged stack = vmem_window m w a v paged.sized.sram (stack_from a stack) (stack_to a stack)

pub stack_pages : (m : List ℕ) (a v : ℕ) → is_stack a ≡ true → pages (with_byte m a v) ≡ pages m
stack_pages m a v stack = pages_same m (with_byte m a v) (stack_paging m a v stack)

pub stack_paged : (m : List ℕ) (w : List (List ℕ)) (a v : ℕ) → IsPaged m w → is_stack a ≡ true → IsPaged (with_byte m a v) w
stack_paged m w a v paged stack = paged_same m (with_byte m a v) w (stack_paging m a v stack) paged

-- a page of the heap is one of the 256
page_below : (a : ℕ) → is_heap a ≡ true → a / 256 < 256
page_below a heap = grind (arith, nat_tests)

-- whether the flat memory has room for a store: the page was stored to, or one more page may be
abbrev pub has_room : Store → ℕ → Bool
has_room h a = slice_index_or (pages h.sram) (a / 256) false || nat_lt (count_by (λ b. b) (pages h.sram)) (length h.swap)

room_is : (h : Store) (a : ℕ) → IsPaged h.sram h.swap → is_heap a ≡ true → has_room h a ≡ (has_slot h.sram (a / 256) || nat_lt (given h.sram) (length h.swap))
room_is h a paged heap =
    ap₂ (λ b n. b || nat_lt n (length h.swap)) (page_of_table h.sram (a / 256) (page_below a heap)) (number_of_pages h.sram h.swap paged)

-- a store finds room exactly where there is some
some_room : (b c : Bool) (s t g : Store) → cond b (Some s) (cond c (Some t) None) ≡ Some g → b || c ≡ true
some_room true c s t g is = refl
some_room false true s t g is = refl
some_room false false s t g is = absurd (cc)

no_room : (b c : Bool) (s t : Store) → cond b (Some s) (cond c (Some t) None) ≡ None → b || c ≡ false
no_room true c s t is = absurd (cc)
no_room false true s t is = absurd (cc)
no_room false false s t is = refl

pub stored_some : (h : Store) (a v : ℕ) (g : Store) → IsPaged h.sram h.swap → is_heap a ≡ true → heap_store h a v ≡ Some g → Stored h a v g × (has_room h a ≡ true)
unfolding heap_store
stored_some h a v g paged heap is = (
  subst (StoredOr h a v) is (store_leaves h a v heap paged),
  room_is h a paged heap ∙ some_room (has_slot h.sram (a / 256)) (nat_lt (given h.sram) (length h.swap)) _ _ g is,
)

pub stored_none : (h : Store) (a v : ℕ) → IsPaged h.sram h.swap → is_heap a ≡ true → heap_store h a v ≡ None → has_room h a ≡ false
unfolding heap_store
stored_none h a v paged heap is = room_is h a paged heap ∙ no_room (has_slot h.sram (a / 256)) (nat_lt (given h.sram) (length h.swap)) _ _ is
