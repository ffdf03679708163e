-- What an access through the guarded space leaves of the mote's own parts.
use Rattle.std.specs.Prelude.{◌≡◌, ℕ, ◌+◌, ◌≤◌, length, slice_index}
use Rattle.avr_exec.specs.declared.ask.Ask.{Ask}
use Rattle.avr_exec.specs.declared.ask.Ask.TheVariants.{Load as LoadAsk, Store as StoreAsk, Modify}
use Rattle.sram_layout.specs.Regions.{template_cells, kernel_stack, place_cells, through, KeepsRegion}
use Rattle.heap_frames.specs.Changes.{Loaded, Stored}
use Rattle.heap_frames.specs.Memory.{vmem}
use Rattle.heap_frames.specs.Paged.{IsPaged}
use Rattle.heap_frames.specs.SamePaging.{SamePaging}
use Rattle.flat_machine.specs.declared.address.AddrClass.{AddrClass}
use Rattle.flat_machine.specs.declared.address.AddrClass.TheVariants.{Stack, Heap}
use Rattle.flat_machine.specs.Classes.{class_of}
use Rattle.mem_guard.specs.Guarded.{Guarded, heap_of}

-- the heap is still in order; the kernel's cells and its tables of places, the number of slots, flash and
-- the image stay; and one poll was made at most
pub record IsKept (g next : Guarded) : Type 0 where
  pub paged : IsPaged next.sram next.swap
  pub cells : KeepsRegion (through template_cells kernel_stack) g.sram next.sram
  pub tables : KeepsRegion place_cells g.sram next.sram
  pub slots : length next.swap ≡ length g.swap
  pub words : next.words ≡ g.words
  pub image : next.layout ≡ g.layout
  pub polls : next.devices.polls ≤ g.devices.polls + 1

-- frames, slots and their tables stay as they were
pub record KeepsHeap (g next : Guarded) : Type 0 where
  pub frames : SamePaging g.sram next.sram
  pub swap : next.swap ≡ g.swap

-- a load and a store: in the heap they may move pages
abbrev pub AfterLoad : AddrClass → Guarded → ℕ → Guarded → Type 0
AfterLoad Heap g a next = Loaded (heap_of g) a (slice_index (vmem g.sram g.swap) a) (heap_of next)
AfterLoad _ g a next = KeepsHeap g next

abbrev pub AfterStore : AddrClass → Guarded → ℕ → ℕ → Guarded → Type 0
AfterStore Heap g a v next = Stored (heap_of g) a v (heap_of next)
AfterStore _ g a v next = KeepsHeap g next

-- what becomes of frames and slots by the one thing that an instruction asks
abbrev pub HeapAfter : Guarded → Ask → Guarded → Type 0
HeapAfter g (LoadAsk a) next = AfterLoad (class_of a) g a next
HeapAfter g (StoreAsk a v) next = AfterStore (class_of a) g a v next
HeapAfter g _ next = KeepsHeap g next

-- a store shows something outside only where it writes a device's register
abbrev pub LineAfterStore : AddrClass → Guarded → Guarded → Type 0
LineAfterStore Stack g next = next.line ≡ g.line
LineAfterStore Heap g next = next.line ≡ g.line
LineAfterStore _ g next = Unit {0}

-- what becomes of the line by the one thing that an instruction asks
abbrev pub LineAfter : Guarded → Ask → Guarded → Type 0
LineAfter g (StoreAsk a v) next = LineAfterStore (class_of a) g next
LineAfter g (Modify a clear set) next = Unit {0}
LineAfter g _ next = next.line ≡ g.line
