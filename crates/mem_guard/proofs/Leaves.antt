-- What the guarded space's answers leave.
use Rattle.std.proofs.Common.{◌≡◌, ℕ, ◌+◌, ◌*◌, ◌/◌, ◌%◌, ◌≤◌, Bool, true, cond, length, slice_index, refl, ◌∙◌, subst, arith}
use Rattle.std.specs.Prelude.{Option, Some, None}
use Rattle.std.proofs.lemmas.Bool.{cond_both}
use Rattle.avr_isa.specs.declared.form.Form.{Form}
use Rattle.avr_isa.specs.IoTable.{can_write, register_at}
use Rattle.avr_exec.specs.declared.cpu.Cpu.{Cpu}
use Rattle.avr_exec.specs.declared.ask.Ask.{Ask}
use Rattle.avr_exec.specs.declared.ask.Ask.TheVariants.{Load as LoadAsk, Store as StoreAsk, Modify, PushByte, PopByte, PushReturn, PopReturn, ExtendedProgramRaising}
use Rattle.avr_exec.specs.declared.stop.BusStop.{BusStop}
use Rattle.avr_exec.specs.declared.stop.BusStop.TheVariants.{Stack as StackStop}
use Rattle.avr_isa.specs.Addresses.{wrapping_sum, wrapping_difference}
use Rattle.avr_exec.specs.StackRules.{push_on, pop_from, push_return_on, pop_return_from}
use Rattle.avr_exec.specs.Spaces.{Went, Stopped}
use Rattle.avr_exec.specs.Asks.{ask_of}
use Rattle.avr_exec.specs.Execution.{answer_of, exec_of}
use Rattle.avr_exec.specs.Likeness.{Leaves}
use Rattle.avr_exec.proofs.OneAnswer.{exec_leaves, answered_by-leaves}
use Rattle.sram_layout.specs.Bytes.{byte_at, with_byte}
use Rattle.sram_layout.specs.Regions.{template_cells, kernel_stack, place_cells, through, KeepsRegion}
use Rattle.sram_layout.proofs.Laws.{byte_other}
use Rattle.flat_machine.specs.Addresses.{is_stack, is_heap}
use Rattle.heap_frames.specs.Changes.{Loaded, Stored}
use Rattle.heap_frames.specs.Memory.{vmem}
use Rattle.heap_frames.specs.Paged.{IsPaged}
use Rattle.heap_frames.specs.Paging.{Store, store_of, heap_load, heap_store}
use Rattle.heap_frames.proofs.MemoryLaws.{stack_from}
use Rattle.heap_frames.proofs.LoadLaws.{load_leaves}
use Rattle.heap_frames.proofs.SamePagingLaws.{same_paging_refl, same_paging_trans}
use Rattle.mote_devices.specs.declared.line.Line.{Line}
use Rattle.mote_devices.specs.State.{State}
use Rattle.mote_devices.specs.Accesses.{Asked, Gave, Refused, read, write, modify as modify_device}
use Rattle.mote_devices.proofs.AccessLaws.{Afterwards, polls_after_read, polls_after_write, polls_after_modify}
use Rattle.flat_machine.specs.declared.address.AddrClass.{AddrClass}
use Rattle.flat_machine.specs.declared.address.AddrClass.TheVariants.{Stack, Heap}
use Rattle.flat_machine.specs.Classes.{class_of}
use Rattle.mem_guard.specs.Guarded.{Guarded, heap_of, with_heap, with_sram, from_device, to_device, from_heap, to_heap, load_in, store_in, load, store, modify, push, pop, push_return, pop_return}
use Rattle.mem_guard.specs.Guarded.{guarded_calls}
use Rattle.mem_guard.specs.Left.{IsKept, KeepsHeap, AfterLoad, AfterStore, HeapAfter}
use Rattle.flat_machine.proofs.ClassLaws.{class_stack, class_heap}
use Rattle.mem_guard.proofs.HeapLaws.{stack_paging, stack_paged, stored_some}

-- nothing changed
pub kept_same : (g : Guarded) → IsPaged g.sram g.swap → IsKept g g
kept_same g paged = record { paged = paged; cells = λ b from to. refl; tables = λ b from to. refl; slots = refl; words = refl; image = refl; polls = omega arith }

keeps_heap : (g : Guarded) → KeepsHeap g g
keeps_heap g = record { frames = same_paging_refl g.sram; swap = refl }

-- the devices alone changed, with one poll at most
with_devices : (g : Guarded) (next : State) (line : Option Line) → IsPaged g.sram g.swap → next.polls ≤ g.devices.polls + 1 → IsKept g (record g { devices = next; line = line })
with_devices g next line paged few = record { paged = paged; cells = λ b from to. refl; tables = λ b from to. refl; slots = refl; words = refl; image = refl; polls = few }

keeps_heap_devices : (g : Guarded) (next : State) (line : Option Line) → KeepsHeap g (record g { devices = next; line = line })
keeps_heap_devices g next line = record { frames = same_paging_refl g.sram; swap = refl }

device_reads : (g : Guarded) (a : ℕ) (asked : Asked ℕ) → IsPaged g.sram g.swap → Afterwards (λ next. next.polls ≤ g.devices.polls + 1) asked
    → Leaves (λ next. IsKept g next × KeepsHeap g next) (from_device g a asked)
device_reads g a (Gave v next) paged few = (with_devices g next g.line paged few, keeps_heap_devices g next g.line)
device_reads g a Refused paged few = tt

device_writes : (g : Guarded) (a : ℕ) (asked : Asked (Option Line)) → IsPaged g.sram g.swap → Afterwards (λ next. next.polls ≤ g.devices.polls + 1) asked
    → Leaves (λ next. IsKept g next × KeepsHeap g next) (to_device g a asked)
device_writes g a (Gave line next) paged few = (with_devices g next line paged few, keeps_heap_devices g next line)
device_writes g a Refused paged few = tt

-- a write makes no poll
write_polls : (s : State) (a v : ℕ) → Afterwards (λ next. next.polls ≤ s.polls + 1) (write s a v)
unfolding write
write_polls s a v = cond_both (can_write a) _ _ (Afterwards (λ next. next.polls ≤ s.polls + 1)) (λ can. omega (arith, polls_after_write (register_at a) s a v)) (λ cannot. tt)

-- SRAM and the swap changed
heap_kept : (g : Guarded) (h : Store) → IsPaged h.sram h.swap → KeepsRegion (through template_cells kernel_stack) g.sram h.sram → KeepsRegion place_cells g.sram h.sram → length h.swap ≡ length g.swap
    → IsKept g (with_heap g h)
heap_kept g h paged cells tables count = record { paged = paged; cells = cells; tables = tables; slots = count; words = refl; image = refl; polls = omega arith }

-- .. by a byte of the stack window
stack_kept : (g : Guarded) (a v : ℕ) → IsPaged g.sram g.swap → is_stack a ≡ true → IsKept g (with_sram g a v)
stack_kept g a v paged stack =
    let above = stack_from a stack in
    heap_kept g (store_of (with_byte g.sram a v) g.swap) (stack_paged g.sram g.swap a v paged stack)
    (λ b from to. byte_other g.sram a b v (omega arith) (omega arith) (λ same. omega arith)) (λ b from to. byte_other g.sram a b v (omega arith) (omega arith) (λ same. omega arith)) refl

stack_keeps_heap : (g : Guarded) (a v : ℕ) → is_stack a ≡ true → KeepsHeap g (with_sram g a v)
stack_keeps_heap g a v stack = record { frames = stack_paging g.sram a v stack; swap = refl }

-- one after another
pub kept_twice : (f g h : Guarded) → IsKept f g → IsKept g h → h.devices.polls ≤ f.devices.polls + 1 → IsKept f h
kept_twice f g h first second few = record {
  paged = second.paged;
  cells = λ b from to. second.cells b from to ∙ first.cells b from to;
  tables = λ b from to. second.tables b from to ∙ first.tables b from to;
  slots = second.slots ∙ first.slots;
  words = second.words ∙ first.words;
  image = second.image ∙ first.image;
  polls = few;
}

-- a load
heap_loads : (g : Guarded) (a : ℕ) → IsPaged g.sram g.swap → is_heap a ≡ true
    → Leaves (λ next. IsKept g next × Loaded (heap_of g) a (slice_index (vmem g.sram g.swap) a) (heap_of next)) (from_heap g (heap_load (heap_of g) a))
heap_loads g a paged heap =
    let done = load_leaves (heap_of g) a heap paged in
    (heap_kept g (heap_load (heap_of g) a).1 done.paged done.others.cells done.others.tables done.count, subst (λ v. Loaded (heap_of g) a v (heap_load (heap_of g) a).1) done.value done)

loads : (k : AddrClass) (g : Guarded) (a : ℕ) → class_of a ≡ k → IsPaged g.sram g.swap → Leaves (λ next. IsKept g next × AfterLoad k g a next) (load_in k g a)
loads Stack g a is paged = (kept_same g paged, keeps_heap g)
loads Heap g a is paged = heap_loads g a paged (class_heap a is)
loads _ g a is paged = device_reads g a (read g.devices a) paged (polls_after_read g.devices a)

pub load_leaves_kept : (g : Guarded) (a : ℕ) → IsPaged g.sram g.swap → Leaves (λ next. IsKept g next × HeapAfter g (LoadAsk a) next) (load g a)
unfolding load
load_leaves_kept g a paged = loads (class_of a) g a refl paged

-- a store
heap_stores : (g : Guarded) (a v : ℕ) (stored : Option Store) → heap_store (heap_of g) a v ≡ stored → is_heap a ≡ true → IsPaged g.sram g.swap
    → Leaves (λ next. IsKept g next × Stored (heap_of g) a v (heap_of next)) (to_heap g a stored)
heap_stores g a v (Some h) is heap paged =
    let done = (stored_some (heap_of g) a v h paged heap is).0 in
    (heap_kept g h done.paged done.others.cells done.others.tables done.count, done)
heap_stores g a v None is heap paged = tt

stores : (k : AddrClass) (g : Guarded) (a v : ℕ) → class_of a ≡ k → IsPaged g.sram g.swap → Leaves (λ next. IsKept g next × AfterStore k g a v next) (store_in k g a v)
stores Stack g a v is paged = (stack_kept g a v paged (class_stack a is), stack_keeps_heap g a v (class_stack a is))
stores Heap g a v is paged = heap_stores g a v (heap_store (heap_of g) a v) refl (class_heap a is) paged
stores _ g a v is paged = device_writes g a (write g.devices a v) paged (write_polls g.devices a v)

pub store_leaves_kept : (g : Guarded) (a v : ℕ) → IsPaged g.sram g.swap → Leaves (λ next. IsKept g next × HeapAfter g (StoreAsk a v) next) (store g a v)
unfolding store
store_leaves_kept g a v paged = stores (class_of a) g a v refl paged

pub modify_leaves_kept : (g : Guarded) (a clear set : ℕ) → IsPaged g.sram g.swap → Leaves (λ next. IsKept g next × KeepsHeap g next) (modify g a clear set)
unfolding modify
modify_leaves_kept g a clear set paged = device_writes g a (modify_device g.devices a clear set) paged (polls_after_modify g.devices a clear set)

-- the stack: an answer is made where one address passes a test, or each of two
pub one_leaves : {A : Type 0} (P : Guarded → Type 0) (b : Bool) (answer : A) (next : Guarded) (stop : BusStop) → (b ≡ true → P next) → Leaves P (cond b (Went answer next) (Stopped stop))
one_leaves P b answer next stop left = cond_both b _ _ (Leaves P) left (λ outside. tt)

pub two_leave : {A : Type 0} (P : Guarded → Type 0) (b c : Bool) (answer : A) (next : Guarded) (stop stop' : BusStop) → (b ≡ true → c ≡ true → P next)
    → Leaves P (cond b (cond c (Went answer next) (Stopped stop)) (Stopped stop'))
two_leave P b c answer next stop stop' left = cond_both b _ _ (Leaves P) (λ first. one_leaves P c answer next stop (left first)) (λ outside. tt)

pub push_leaves_kept : (g : Guarded) (sp v : ℕ) → IsPaged g.sram g.swap → Leaves (λ next. IsKept g next × KeepsHeap g next) (push g sp v)
unfolding push push_on
push_leaves_kept g sp v paged =
    one_leaves (λ next. IsKept g next × KeepsHeap g next) (is_stack sp) tt (with_sram g sp v) (StackStop sp) (λ is. (stack_kept g sp v paged is, stack_keeps_heap g sp v is))

pub pop_leaves_kept : (g : Guarded) (sp : ℕ) → IsPaged g.sram g.swap → Leaves (λ next. IsKept g next × KeepsHeap g next) (pop g sp)
unfolding pop pop_from
pop_leaves_kept g sp paged = one_leaves (λ next. IsKept g next × KeepsHeap g next) _ _ g _ (λ is. (kept_same g paged, keeps_heap g))

two_pushed : (g : Guarded) (a below low high : ℕ) → IsPaged g.sram g.swap → is_stack a ≡ true → is_stack below ≡ true
    → IsKept g (with_sram (with_sram g a low) below high) × KeepsHeap g (with_sram (with_sram g a low) below high)
two_pushed g a below low high paged is is' =
    let first = stack_kept g a low paged is in
    let middle = with_sram g a low in (
      kept_twice g middle (with_sram middle below high) first (stack_kept middle below high first.paged is') (omega arith),
      record { frames = same_paging_trans g.sram middle.sram (with_byte middle.sram below high) (stack_paging g.sram a low is) (stack_paging middle.sram below high is'); swap = refl },
    )

pub push_return_leaves_kept : (g : Guarded) (sp ret : ℕ) → IsPaged g.sram g.swap → Leaves (λ next. IsKept g next × KeepsHeap g next) (push_return g sp ret)
unfolding push_return push_return_on
push_return_leaves_kept g sp ret paged =
    let below = wrapping_difference sp 1 in
    two_leave (λ next. IsKept g next × KeepsHeap g next) (is_stack sp) (is_stack below) tt (with_sram (with_sram g sp (ret % 256)) below (ret / 256)) (StackStop below) (StackStop sp)
    (two_pushed g sp below (ret % 256) (ret / 256) paged)

pub pop_return_leaves_kept : (g : Guarded) (sp : ℕ) → IsPaged g.sram g.swap → Leaves (λ next. IsKept g next × KeepsHeap g next) (pop_return g sp)
unfolding pop_return pop_return_from
pop_return_leaves_kept g sp paged =
    let high = wrapping_sum sp 1 in
    let low = wrapping_sum sp 2 in
    two_leave (λ next. IsKept g next × KeepsHeap g next) (is_stack high) (is_stack low) (byte_at g.sram high * 256 + byte_at g.sram low) g (StackStop low) (StackStop high)
    (λ is is'. (kept_same g paged, keeps_heap g))

-- whatever is asked, the answer leaves the mote's parts so
pub answers_leave : (g : Guarded) (ask : Ask) → IsPaged g.sram g.swap → Leaves (λ next. IsKept g next × HeapAfter g ask next) (answer_of guarded_calls g ask)
unfolding answer_of
answers_leave g (LoadAsk a) paged = answered_by-leaves _ _ (load g a) (load_leaves_kept g a paged)
answers_leave g (StoreAsk a v) paged = answered_by-leaves _ _ (store g a v) (store_leaves_kept g a v paged)
answers_leave g (Modify a clear set) paged = answered_by-leaves _ _ (modify g a clear set) (modify_leaves_kept g a clear set paged)
answers_leave g (PushByte sp v) paged = answered_by-leaves _ _ (push g sp v) (push_leaves_kept g sp v paged)
answers_leave g (PopByte sp) paged = answered_by-leaves _ _ (pop g sp) (pop_leaves_kept g sp paged)
answers_leave g (PushReturn sp ret) paged = answered_by-leaves _ _ (push_return g sp ret) (push_return_leaves_kept g sp ret paged)
answers_leave g (PopReturn sp) paged = answered_by-leaves _ _ (pop_return g sp) (pop_return_leaves_kept g sp paged)
answers_leave g (ExtendedProgramRaising z) paged = (with_devices g _ g.line paged (omega arith), keeps_heap_devices g _ g.line)
answers_leave g _ paged = (kept_same g paged, keeps_heap g)

-- and so does an instruction that is executed
pub executed_leaves : (form : Form) (cpu : Cpu) (g : Guarded) (n : ℕ) → IsPaged g.sram g.swap → Leaves (λ next. IsKept g next × HeapAfter g (ask_of form cpu) next) (exec_of guarded_calls form cpu g n)
executed_leaves form cpu g n paged = exec_leaves (λ next. IsKept g next × HeapAfter g (ask_of form cpu) next) guarded_calls form cpu g n (answers_leave g (ask_of form cpu) paged)
