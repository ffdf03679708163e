-- What a service leaves: flash, the kernel's tables, the heap; and what the program sees after an execution.
use Rattle.std.proofs.Common.{◌≡◌, ℕ, ◌≤◌, List, refl, sym, ◌∙◌, arith, inl, inr, ◌+◌, ◌*◌, length, ap, ap₂}
use Rattle.std.proofs.lemmas.Bool.{cases_lt}
use Rattle.avr_isa.specs.declared.form.Form.{Form}
use Rattle.avr_exec.specs.declared.cpu.Cpu.{Cpu}
use Rattle.avr_exec.specs.declared.ask.Ask.{Ask}
use Rattle.avr_exec.specs.Asks.{ask_of}
use Rattle.avr_exec.specs.Spaces.{Outcome, Went, Stopped}
use Rattle.avr_exec.specs.Likeness.{Leaves as LeavesSpace}
use Rattle.sram_layout.specs.Bytes.{byte_at, with_word, data_word_at, first_address}
use Rattle.sram_layout.specs.Cells.{kernel_stack_top, vsp_cell}
use Rattle.sram_layout.specs.Regions.{frame_cells, place_cells, frames, through, KeepsRegion, stack_window}
use Rattle.sram_layout.proofs.Laws.{byte_out_of_word, length-with_word, word_same}
use Rattle.heap_frames.specs.Paged.{IsPaged}
use Rattle.heap_frames.specs.SamePaging.{SamePaging}
use Rattle.heap_frames.proofs.SamePagingLaws.{same_paging_refl, same_paging_word, paged_same, pages_same, vmem_same}
use Rattle.flat_machine.specs.FlatMachine.{next_size}
use Rattle.mem_guard.specs.Guarded.{Guarded, flat_of}
use Rattle.mem_guard.specs.Left.{IsKept, HeapAfter}
use Rattle.mem_guard.proofs.Leaves.{executed_leaves}
use Rattle.preempt_count.specs.Counting.{crossed}
use Rattle.preempt_count.proofs.CountLaws.{byte_crossed, length-crossed}
use Rattle.std.specs.Prelude.{◌≢◌}
use Rattle.kernel_entry.specs.declared.kernel.Kernel.{Kernel}
use Rattle.kernel_entry.specs.Parts.{descriptor, memory_of, core_of, rested, with_pc, with_sram, image_held, put_back}
use Rattle.kernel_entry.specs.Services.{executed, execution_by}
use Rattle.kernel_entry.specs.Left.{Leaves, LeavesHeap}
use Rattle.heap_frames.specs.Memory.{vmem}
use Rattle.kernel_entry.specs.Seen.{View, view_of, view_by}

-- the core at the descriptor's address
abbrev pub core_here : Kernel → Cpu
core_here k = core_of k (descriptor k)

-- what the memory's own laws say of an execution
abbrev pub Kept : Kernel → Ask → Guarded → Type 0
Kept k ask after = IsKept (memory_of k) after × HeapAfter (memory_of k) ask after

pub kept : (k : Kernel) (form : Form) → IsPaged k.mote.sram k.mote.swap → LeavesSpace (Kept k (ask_of form (core_here k))) (executed k form)
unfolding executed
kept k form paged = executed_leaves form (core_here k) (memory_of k) (next_size (image_held k) (descriptor k)) paged

-- the kernel with another core, as it was, and with other bytes of SRAM at another pc
pub leaves_core : (k : Kernel) (cpu : Cpu) → cpu.sp ≡ kernel_stack_top → Leaves k (record k { mote = record k.mote { cpu = cpu } })
leaves_core k cpu top = record {
  stack = top;
  flash = refl;
  layout = refl;
  part = refl;
  quantum = refl;
  slots = refl;
  size = refl;
  tables = λ b from to. refl;
  polls = omega arith;
  polled = λ apart. omega arith;
  paged = λ paged. paged;
}

pub leaves_rested : (k : Kernel) → Leaves k (rested k)
leaves_rested k = leaves_core k (rested k).mote.cpu refl

leaves_at : (k next : Kernel) (place : ℕ) (m : List ℕ) → Leaves k next → SamePaging next.mote.sram m → KeepsRegion place_cells next.mote.sram m → Leaves k (with_pc (with_sram next m) place)
leaves_at k next place m left same tables = record {
  stack = left.stack;
  flash = left.flash;
  layout = left.layout;
  part = left.part;
  quantum = left.quantum;
  slots = left.slots;
  size = same.size ∙ left.size;
  tables = λ b from to. tables b from to ∙ left.tables b from to;
  polls = left.polls;
  polled = left.polled;
  paged = λ paged. paged_same next.mote.sram m next.mote.swap same (left.paged paged);
}

pub leaves_sram : (k next : Kernel) (m : List ℕ) → Leaves k next → SamePaging next.mote.sram m → KeepsRegion place_cells next.mote.sram m → Leaves k (with_sram next m)
leaves_sram k next m left same tables = leaves_at k next next.mote.cpu.pc m left same tables

pub leaves_pc : (k next : Kernel) (place : ℕ) → Leaves k next → Leaves k (with_pc next place)
leaves_pc k next place left = leaves_at k next place next.mote.sram left (same_paging_refl next.mote.sram) (λ b from to. refl)

-- a counted step
pub same_crossed : (q pc t : ℕ) (m : List ℕ) → SamePaging m (crossed q pc t m)
same_crossed q pc t m = record {
  size = length-crossed q pc t m;
  cells = λ b from to. byte_crossed q pc t b m (omega arith) (λ e. omega arith);
  tables = λ b from to. byte_crossed q pc t b m (omega arith) (λ e. omega arith);
}

pub leaves_crossed : (k next : Kernel) (q pc t : ℕ) → Leaves k next → Leaves k (with_sram next (crossed q pc t next.mote.sram))
leaves_crossed k next q pc t left =
    leaves_sram k next (crossed q pc t next.mote.sram) left (same_crossed q pc t next.mote.sram) (λ b from to. byte_crossed q pc t b next.mote.sram (omega arith) (λ e. omega arith))

-- an execution
pub word_kept : (m : List ℕ) (sp b : ℕ) → (first_address ≤ b) × (b ≢ vsp_cell) × (b ≢ vsp_cell + 1) → byte_at (with_word m vsp_cell sp) b ≡ byte_at m b
word_kept m sp b apart = byte_out_of_word m vsp_cell b sp (omega arith) apart.0 apart.1 apart.2

pub same_stored : (m : List ℕ) (sp : ℕ) → SamePaging m (with_word m vsp_cell sp)
same_stored m sp = same_paging_word m vsp_cell sp (omega arith) (inl (omega arith))

pub leaves_execution : (k : Kernel) (ask : Ask) (o : Outcome Guarded Cpu) → IsPaged k.mote.sram k.mote.swap → LeavesSpace (Kept k ask) o → Leaves k (execution_by k o).1
leaves_execution k ask (Went core memory) paged left = record {
  stack = refl;
  flash = refl;
  layout = refl;
  part = refl;
  quantum = refl;
  slots = left.0.slots;
  size = length-with_word memory.sram vsp_cell core.sp ∙ left.0.paged.sized.sram ∙ sym paged.sized.sram;
  tables = λ b from to. word_kept memory.sram core.sp b (omega arith) ∙ left.0.tables b (omega arith) (omega arith);
  polls = omega (arith, left.0.polls);
  polled = λ apart. omega (arith, left.0.polls);
  paged = λ was. paged_same memory.sram (with_word memory.sram vsp_cell core.sp) memory.swap (same_stored memory.sram core.sp) left.0.paged;
}
leaves_execution k ask (Stopped stop) paged left = leaves_rested k

-- the heap, where the instruction asks nothing of it
heap_from : (m n : List ℕ) → SamePaging m n → KeepsRegion place_cells m n → KeepsRegion (through frame_cells frames) m n
heap_from m n same tables b from to =
    elim (cases_lt b place_cells.first) [
      | inl low ↦ same.cells b from low
      | inr high ↦ elim (cases_lt b place_cells.behind) [ inl low ↦ tables b high low | inr above ↦ same.tables b above to ]
    ]

pub leaves_heap : (k next : Kernel) → Leaves k next → SamePaging k.mote.sram next.mote.sram → next.mote.swap ≡ k.mote.swap → LeavesHeap k next
leaves_heap k next left same swap = record { frames = heap_from k.mote.sram next.mote.sram same left.tables; swap = swap }

-- the parts of a view that SRAM decides
abbrev viewed : View → (stack : ℕ) → (memory : List ℕ) → View
viewed v stack memory = record v { stack_pointer = stack; memory = memory }

-- other bytes of SRAM, of which the program sees nothing
pub view_sram : (k : Kernel) (m : List ℕ) → SamePaging k.mote.sram m → KeepsRegion stack_window k.mote.sram m → data_word_at m vsp_cell ≡ data_word_at k.mote.sram vsp_cell
    → view_of (with_sram k m) ≡ view_of k
view_sram k m same window stack =
    ap (λ p. record (viewed (view_of k) (data_word_at m vsp_cell) (vmem m k.mote.swap)) { pages = p }) (pages_same k.mote.sram m same)
    ∙ ap₂ (viewed (view_of k)) stack (vmem_same k.mote.sram m k.mote.swap same window)

-- the core and the memory that were put back
pub view_put : (k : Kernel) (core : Cpu) (memory : Guarded) → length memory.sram ≡ 4096 → view_of (put_back k core memory) ≡ view_by core (flat_of memory)
view_put k core memory size =
    let m = with_word memory.sram vsp_cell core.sp in
    let v = view_by core (flat_of memory) in
    ap (λ p. record (viewed v (data_word_at m vsp_cell) (vmem m memory.swap)) { pages = p }) (pages_same memory.sram m (same_stored memory.sram core.sp))
    ∙ ap₂ (viewed v) (word_same memory.sram vsp_cell core.sp (omega arith) (omega arith))
    (vmem_same memory.sram m memory.swap (same_stored memory.sram core.sp) (λ a from to. word_kept memory.sram core.sp a (omega arith)))

-- a counted step
word_crossed : (q pc t : ℕ) (m : List ℕ) → data_word_at (crossed q pc t m) vsp_cell ≡ data_word_at m vsp_cell
unfolding data_word_at
word_crossed q pc t m =
    ap₂ (λ low high. low + 256 * high) (byte_crossed q pc t vsp_cell m (omega arith) (λ e. omega arith)) (byte_crossed q pc t (vsp_cell + 1) m (omega arith) (λ e. omega arith))

pub view_crossed : (k : Kernel) (q pc t : ℕ) → view_of (with_sram k (crossed q pc t k.mote.sram)) ≡ view_of k
view_crossed k q pc t =
    let m = k.mote.sram in
    view_sram k (crossed q pc t m) (same_crossed q pc t m) (λ a from to. byte_crossed q pc t a m (omega arith) (λ e. omega arith)) (word_crossed q pc t m)
