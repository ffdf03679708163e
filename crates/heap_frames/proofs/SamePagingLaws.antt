-- Writes to SRAM elsewhere leave frames, slots and the heap's bytes. m and n are lists of SRAM's bytes, w the swap's pages.
use Rattle.std.proofs.Common.{◌≡◌, ℕ, ◌+◌, ◌/◌, ◌%◌, ◌<◌, ◌≤◌, ◌⊎◌, List, length, arith, ◌∙◌, sym, refl, inl, inr}
use Rattle.std.specs.Prelude.{true, slice_set}
use Rattle.sram_layout.specs.Bytes.{byte_count, with_byte, block_at, with_word}
use Rattle.sram_layout.specs.Cells.{frame_cell, victim_cell, given_cell, slot_cell}
use Rattle.sram_layout.specs.Regions.{frame_cells, swap_map, frames, stack_window, through, KeepsRegion}
use Rattle.sram_layout.proofs.RegionLaws.{region_beside}
use Rattle.sram_layout.proofs.Laws.{length-with_byte, byte_same, byte_other, byte_out_of_word, block_alike}
use Rattle.heap_frames.specs.Frames.{frame_bytes, page_held, state_of, is_occupied, frame_of, victim, given, slot_of, has_slot, pages}
use Rattle.heap_frames.specs.Memory.{heap_byte, vmem}
use Rattle.heap_frames.specs.Paged.{IsPaged}
use Rattle.heap_frames.specs.SamePaging.{SamePaging}
use Rattle.heap_frames.proofs.Tables.{table_same}
use Rattle.heap_frames.proofs.FrameLaws.{clean_occupied, frame_holds, same_frame, same_holds, same_occupied}
use Rattle.heap_frames.proofs.EntryLaws.{held_below, same_slot}
use Rattle.heap_frames.proofs.HeapBytes.{same_heap_byte, slot_byte_same}
use Rattle.heap_frames.proofs.MemoryLaws.{stack_from, stack_to, in_window, stack_byte, same_memory, one_byte}

pub same_paging_refl : (m : List ℕ) → SamePaging m m
same_paging_refl m = record { size = refl; cells = λ b from to. refl; tables = λ b from to. refl }

pub same_paging_trans : (l m n : List ℕ) → SamePaging l m → SamePaging m n → SamePaging l n
same_paging_trans l m n first second = record {
  size = second.size ∙ first.size;
  cells = λ b from to. second.cells b from to ∙ first.cells b from to;
  tables = λ b from to. second.tables b from to ∙ first.tables b from to;
}

-- the addresses from one to another lie outside of what paging reads
abbrev pub LieElsewhere : (from to : ℕ) → Type 0
LieElsewhere from to = (to < frame_cells.first) ⊎ ((frame_cells.behind ≤ from) × (to < swap_map.first)) ⊎ (stack_window.first ≤ from)

part_elsewhere : (a b c d : ℕ) → a ≤ c → d ≤ b → LieElsewhere a b → LieElsewhere c d
part_elsewhere a b c d from to (inl low) = inl (omega arith)
part_elsewhere a b c d from to (inr (inl (above, below))) = inr (inl (omega arith, omega arith))
part_elsewhere a b c d from to (inr (inr high)) = inr (inr (omega arith))

-- an address outside lies outside both regions
beside : (a : ℕ) → LieElsewhere a a → ((a < frame_cells.first) ⊎ (frame_cells.behind ≤ a)) × ((a < swap_map.first) ⊎ (frames.behind ≤ a))
beside a (inl low) = (inl low, inl (omega arith))
beside a (inr (inl (above, below))) = (inr above, inl below)
beside a (inr (inr high)) = (inr (omega arith), inr high)

-- a byte written outside
pub same_paging_byte : (m : List ℕ) (a v : ℕ) → 0x0100 ≤ a → LieElsewhere a a → SamePaging m (with_byte m a v)
same_paging_byte m a v from outside =
    let apart = beside a outside in
    record { size = length-with_byte m a v; cells = region_beside frame_cells m a v from (omega arith) apart.0; tables = region_beside (through swap_map frames) m a v from (omega arith) apart.1 }

-- a word written outside
pub same_paging_word : (m : List ℕ) (a w : ℕ) → 0x0100 ≤ a → LieElsewhere a (a + 1) → SamePaging m (with_word m a w)
unfolding with_word
same_paging_word m a w from outside =
    let low = with_byte m a (w % 256) in
    same_paging_trans m low (with_byte low (a + 1) (w / 256)) (same_paging_byte m a (w % 256) from (part_elsewhere a (a + 1) a a (omega arith) (omega arith) outside))
    (same_paging_byte low (a + 1) (w / 256) (omega arith) (part_elsewhere a (a + 1) (a + 1) (a + 1) (omega arith) (omega arith) outside))

pub victim_same : (m n : List ℕ) → SamePaging m n → victim n ≡ victim m
victim_same m n same = same.cells victim_cell (omega arith) (omega arith)

pub given_same : (m n : List ℕ) → SamePaging m n → given n ≡ given m
given_same m n same = same.cells given_cell (omega arith) (omega arith)

pub slot_same : (m n : List ℕ) (page : ℕ) → SamePaging m n → page < 256 → slot_of n page ≡ slot_of m page
slot_same m n page same below = same.tables (slot_cell page) (omega arith) (omega arith)

has_same : (m n : List ℕ) (page : ℕ) → SamePaging m n → page < 256 → has_slot n page ≡ has_slot m page
has_same m n page same below = same_slot m n page (slot_same m n page same below)

held_same : (m n : List ℕ) (i : ℕ) → SamePaging m n → i < 8 → page_held n i ≡ page_held m i
held_same m n i same inside = same.cells (frame_cell i) (omega arith) (omega arith)

state_same : (m n : List ℕ) (i : ℕ) → SamePaging m n → i < 8 → state_of n i ≡ state_of m i
state_same m n i same inside = same.cells (frame_cell i + 1) (omega arith) (omega arith)

occupied_same : (m n : List ℕ) (i : ℕ) → SamePaging m n → i < 8 → is_occupied n i ≡ is_occupied m i
occupied_same m n i same inside = same_occupied m n i (state_same m n i same inside)

block_same : (m n : List ℕ) (i : ℕ) → SamePaging m n → i < 8 → block_at n (frame_bytes i) ≡ block_at m (frame_bytes i)
block_same m n i same inside = block_alike n m (frame_bytes i) (omega arith) same.size (λ b from to. same.tables b (omega arith) (omega arith))

pub pages_same : (m n : List ℕ) → SamePaging m n → pages n ≡ pages m
unfolding pages
pages_same m n same = table_same 256 (has_slot n) (has_slot m) (λ page below. has_same m n page same below)

pub frame_of_same : (m n : List ℕ) (page : ℕ) → SamePaging m n → frame_of n page ≡ frame_of m page
frame_of_same m n page same = same_frame m n page (λ i inside. same_holds m n page i (held_same m n i same inside) (state_same m n i same inside))

pub paged_same : (m n : List ℕ) (w : List (List ℕ)) → SamePaging m n → IsPaged m w → IsPaged n w
paged_same m n w same paged =
    let was = λ (i : ℕ) (inside : i < 8) (occupied : is_occupied n i ≡ true). sym (occupied_same m n i same inside) ∙ occupied in
    let had = λ (page : ℕ) (below : page < 256) (has : has_slot n page ≡ true). sym (has_same m n page same below) ∙ has in
    record {
      sized = record { sram = same.size ∙ paged.sized.sram; swap = paged.sized.swap };
      slots = λ page below has. rw (slot_same m n page same below, given_same m n same) (paged.slots page below (had page below has));
      each = λ slot below.
          let there = paged.each slot (rw (given_same m n same) at below) in
          (there.0, there.1, slot_same m n there.0 same there.1 ∙ there.2);
      once = λ page other below below' has equal.
          paged.once page other below below' (had page below has) (sym (slot_same m n page same below) ∙ equal ∙ slot_same m n other same below');
      heap = λ page below has. paged.heap page below (had page below has);
      room = rw (given_same m n same) paged.room;
      states = λ i inside. rw (state_same m n i same inside) (paged.states i inside);
      next = rw (victim_same m n same) paged.next;
      held = λ i inside occupied. rw (held_same m n i same inside) (paged.held i inside (was i inside occupied));
      backed = λ i inside occupied.
          let before = was i inside occupied in
          rw (held_same m n i same inside, has_same m n (page_held m i) same (held_below paged i inside before)) (paged.backed i inside before);
      different = λ i j inside inside' occupied occupied' equal.
          paged.different i j inside inside' (was i inside occupied) (was j inside' occupied') (sym (held_same m n i same inside) ∙ equal ∙ held_same m n j same inside');
      equal = λ i inside is_clean.
          let was_clean = sym (state_same m n i same inside) ∙ is_clean in
          rw (held_same m n i same inside, slot_same m n (page_held m i) same (held_below paged i inside (clean_occupied m i was_clean)), block_same m n i same inside)
          (paged.equal i inside was_clean);
    }

pub heap_byte_same : (m n : List ℕ) (w : List (List ℕ)) (page offset : ℕ) → SamePaging m n → page < 256 → offset < 256 → heap_byte n w page offset ≡ heap_byte m w page offset
heap_byte_same m n w page offset same below inside =
    same_heap_byte m n w w page offset (frame_of_same m n page same) (λ is. slot_byte_same m n w w page offset (slot_same m n page same below) refl)
    (λ i is. same.tables (frame_bytes i + offset) (omega arith) (omega (arith, (frame_holds m page i is).inside)))

-- the whole memory, where the stack window stays too
pub vmem_same : (m n : List ℕ) (w : List (List ℕ)) → SamePaging m n → KeepsRegion stack_window m n → vmem n w ≡ vmem m w
vmem_same m n w same window = same_memory {m = m} {n = n} {w = w} {w' = w} (record {
  window = λ a stack always. window a (stack_from a stack) (stack_to a stack);
  heap = λ a below in_heap always. heap_byte_same m n w (a / 256) (a % 256) same (omega arith) (omega arith);
})

pub vmem_word_cell : (m : List ℕ) (w : List (List ℕ)) (a v : ℕ) → 0x0100 ≤ a → (a + 1 < frame_cells.first) ⊎ ((frame_cells.behind ≤ a) × (a + 1 < swap_map.first))
    → vmem (with_word m a v) w ≡ vmem m w
vmem_word_cell m w a v from outside = vmem_same m (with_word m a v) w (same_paging_word m a v from (elim outside [ inl low ↦ inl low | inr between ↦ inr (inl between) ]))
    (λ b above to. byte_out_of_word m a b v from (omega arith) (λ same. omega arith) (λ same. omega arith))

-- a byte of the stack window is the memory's byte at the same address
pub vmem_window : (m : List ℕ) (w : List (List ℕ)) (a v : ℕ) → length m ≡ byte_count → stack_window.first ≤ a → a < stack_window.behind → vmem (with_byte m a v) w ≡ slice_set (vmem m w) a v
vmem_window m w a v size from to =
    let n = with_byte m a v in
    one_byte {m = m} {n = n} {w = w} {w' = w} a v (record {
      window = λ b stack apart. byte_other m a b v (omega arith) (omega (arith, stack_from b stack)) apart;
      heap = λ b below in_heap apart. heap_byte_same m n w (b / 256) (b % 256) (same_paging_byte m a v (omega arith) (inr (inr from))) (omega arith) (omega arith);
    }) (omega arith) (stack_byte n w a (in_window a from to) ∙ byte_same m a v (omega arith) (omega arith))
