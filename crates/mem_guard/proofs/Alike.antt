-- The guarded space answers as flat memory does.
use Rattle.std.proofs.Common.{◌≡◌, ℕ, ◌+◌, ◌*◌, ◌/◌, ◌%◌, Bool, true, false, cond, List, length, slice_set, slice_index, refl, sym, ap, ap₂, ◌∙◌}
use Rattle.std.specs.Prelude.{Option, Some, None}
use Rattle.avr_isa.specs.declared.form.Form.{Form}
use Rattle.avr_exec.specs.declared.cpu.Cpu.{Cpu}
use Rattle.avr_exec.specs.declared.ask.Ask.{Ask}
use Rattle.avr_exec.specs.declared.ask.Ask.TheVariants.{Load as LoadAsk, Store as StoreAsk, Modify, PushByte, PopByte, PushReturn, PopReturn}
use Rattle.avr_exec.specs.declared.stop.BusStop.TheVariants.{Stack as StackStop, SwapFull as FullStop}
use Rattle.avr_isa.specs.Addresses.{wrapping_sum, wrapping_difference}
use Rattle.avr_exec.specs.Spaces.{Outcome, Went, Stopped}
use Rattle.avr_exec.specs.StackRules.{push_on, pop_from, push_return_on, pop_return_from}
use Rattle.avr_exec.specs.Asks.{ask_of}
use Rattle.avr_exec.specs.Execution.{answered_by, answer_of, exec_of}
use Rattle.avr_exec.specs.Likeness.{over}
use Rattle.avr_exec.proofs.OneAnswer.{exec_alike}
use Rattle.sram_layout.specs.Bytes.{byte_at, with_byte}
use Rattle.flat_machine.specs.Addresses.{is_stack, is_heap}
use Rattle.heap_frames.specs.Frames.{pages}
use Rattle.heap_frames.specs.Memory.{vmem}
use Rattle.heap_frames.specs.Paged.{IsPaged}
use Rattle.heap_frames.specs.Paging.{Store, heap_load, heap_store}
use Rattle.heap_frames.proofs.LoadLaws.{load_leaves}
use Rattle.mote_devices.specs.declared.line.Line.{Line}
use Rattle.mote_devices.specs.Accesses.{Asked, Gave, Refused, read, write, modify as modify_device}
use Rattle.flat_machine.specs.declared.address.AddrClass.{AddrClass}
use Rattle.flat_machine.specs.declared.address.AddrClass.TheVariants.{Stack, Heap}
use Rattle.flat_machine.specs.Classes.{class_of}
use Rattle.flat_machine.specs.FlatSpace.{FlatSpace, with_memory, with_page, store_to_heap, flat_stack, flat_calls}
use Rattle.flat_machine.specs.FlatSpace.{from_device as flat_from_device, to_device as flat_to_device}
use Rattle.mem_guard.specs.Guarded.{Guarded, flat_of, heap_of, with_sram, from_device, to_device, to_heap, load_in, store_in, load, store, modify, push, pop, push_return, pop_return, guarded_calls}
use Rattle.flat_machine.proofs.ClassLaws.{class_stack, class_heap, load_in as flat_load_in, store_in as flat_store_in, load_by_class, store_by_class}
use Rattle.mem_guard.proofs.HeapLaws.{stack_read, stack_write, stack_pages, stack_paged, stored_some, stored_none}

-- the same answer told in other words
answered_over : {A B : Type 0} (f : A → B) (o : Outcome Guarded A) → answered_by f (over flat_of o) ≡ over flat_of (answered_by f o)
answered_over f (Went answer next) = refl
answered_over f (Stopped stop) = refl

-- two flat spaces that differ in their memory, their pages and their limit at most
same_flat : (memory memory' : List ℕ) (ps ps' : List Bool) (limit limit' : ℕ) (s : FlatSpace) → memory ≡ memory' → ps ≡ ps' → limit ≡ limit'
    → ◌≡◌ {A = FlatSpace} (record s { memory = memory; pages = ps; page_limit = limit }) (record s { memory = memory'; pages = ps'; page_limit = limit' })
same_flat memory memory' ps ps' limit limit' s m p l = rw (m, p, l)

-- the devices
device_reads : (g : Guarded) (a : ℕ) (asked : Asked ℕ) → flat_from_device (flat_of g) a asked ≡ over flat_of (from_device g a asked)
device_reads g a (Gave v next) = refl
device_reads g a Refused = refl

device_writes : (g : Guarded) (a : ℕ) (asked : Asked (Option Line)) → flat_to_device (flat_of g) a asked ≡ over flat_of (to_device g a asked)
device_writes g a (Gave line next) = refl
device_writes g a Refused = refl

-- a byte in the stack window
pub flat_with_sram : (g : Guarded) (a v : ℕ) → IsPaged g.sram g.swap → is_stack a ≡ true → flat_of (with_sram g a v) ≡ with_memory (flat_of g) a v
flat_with_sram g a v paged stack =
    same_flat (vmem (with_byte g.sram a v) g.swap) (slice_set (vmem g.sram g.swap) a v) (pages (with_byte g.sram a v)) (pages g.sram) (length g.swap) (length g.swap) (flat_of g)
    (stack_write g.sram g.swap a v paged stack) (stack_pages g.sram a v stack) refl

-- a load
loads : (k : AddrClass) (g : Guarded) (a : ℕ) → class_of a ≡ k → IsPaged g.sram g.swap → flat_load_in k (flat_of g) a ≡ over flat_of (load_in k g a)
loads Stack g a is paged = ap (λ v. Went v (flat_of g)) (stack_read g.sram g.swap a (class_stack a is))
loads Heap g a is paged =
    let done = load_leaves (heap_of g) a (class_heap a is) paged in
    let r = heap_load (heap_of g) a in
    ap₂ Went (sym done.value)
    (same_flat (vmem g.sram g.swap) (vmem r.1.sram r.1.swap) (pages g.sram) (pages r.1.sram) (length g.swap) (length r.1.swap) (flat_of g) (sym done.memory) (sym done.pages) (sym done.count))
loads _ g a is paged = device_reads g a (read g.devices a)

pub load_alike : (g : Guarded) (a : ℕ) → IsPaged g.sram g.swap → flat_calls.load (flat_of g) a ≡ over flat_of (load g a)
unfolding load
load_alike g a paged = load_by_class (flat_of g) a ∙ loads (class_of a) g a refl paged

-- a store
heap_stores : (g : Guarded) (a v : ℕ) (stored : Option Store) → heap_store (heap_of g) a v ≡ stored → is_heap a ≡ true → IsPaged g.sram g.swap
    → store_to_heap (flat_of g) a v ≡ over flat_of (to_heap g a stored)
heap_stores g a v (Some h) is heap paged =
    let done = stored_some (heap_of g) a v h paged heap is in
    ap (λ b. cond b (Went tt (with_memory (with_page (flat_of g) a) a v)) (Stopped (FullStop a))) done.1
    ∙ ap (Went tt)
    (same_flat (slice_set (vmem g.sram g.swap) a v) (vmem h.sram h.swap) (slice_set (pages g.sram) (a / 256) true) (pages h.sram) (length g.swap) (length h.swap) (flat_of g) (sym done.0.memory)
    (sym done.0.pages) (sym done.0.count))
heap_stores g a v None is heap paged =
    ap (λ b. cond b (Went tt (with_memory (with_page (flat_of g) a) a v)) (Stopped (FullStop a))) (stored_none (heap_of g) a v paged heap is)

stores : (k : AddrClass) (g : Guarded) (a v : ℕ) → class_of a ≡ k → IsPaged g.sram g.swap → flat_store_in k (flat_of g) a v ≡ over flat_of (store_in k g a v)
stores Stack g a v is paged = ap (Went tt) (sym (flat_with_sram g a v paged (class_stack a is)))
stores Heap g a v is paged = heap_stores g a v (heap_store (heap_of g) a v) refl (class_heap a is) paged
stores _ g a v is paged = device_writes g a (write g.devices a v)

pub store_alike : (g : Guarded) (a v : ℕ) → IsPaged g.sram g.swap → flat_calls.store (flat_of g) a v ≡ over flat_of (store g a v)
unfolding store
store_alike g a v paged = store_by_class (flat_of g) a v ∙ stores (class_of a) g a v refl paged

pub modify_alike : (g : Guarded) (a clear set : ℕ) → flat_calls.modify (flat_of g) a clear set ≡ over flat_of (modify g a clear set)
unfolding modify
modify_alike g a clear set = device_writes g a (modify_device g.devices a clear set)

-- the stack
over_if : {A : Type 0} (b : Bool) (o p : Outcome FlatSpace A) (o' p' : Outcome Guarded A) → (b ≡ true → o ≡ over flat_of o') → p ≡ over flat_of p' → cond b o p ≡ over flat_of (cond b o' p')
over_if true o p o' p' same other = same refl
over_if false o p o' p' same other = other

pub push_alike : (g : Guarded) (sp v : ℕ) → IsPaged g.sram g.swap → push_on flat_stack (flat_of g) sp v ≡ over flat_of (push g sp v)
unfolding push push_on
push_alike g sp v paged =
    over_if (is_stack sp) (Went tt (with_memory (flat_of g) sp v)) (Stopped (StackStop sp)) (Went tt (with_sram g sp v)) (Stopped (StackStop sp))
    (λ is. ap (Went tt) (sym (flat_with_sram g sp v paged is))) refl

pub pop_alike : (g : Guarded) (sp : ℕ) → IsPaged g.sram g.swap → pop_from flat_stack (flat_of g) sp ≡ over flat_of (pop g sp)
unfolding pop pop_from
pop_alike g sp paged =
    let a = wrapping_sum sp 1 in
    over_if (is_stack a) (Went (slice_index (vmem g.sram g.swap) a) (flat_of g)) (Stopped (StackStop a)) (Went (byte_at g.sram a) g) (Stopped (StackStop a))
    (λ is. ap (λ v. Went v (flat_of g)) (stack_read g.sram g.swap a is)) refl

pub push_return_alike : (g : Guarded) (sp ret : ℕ) → IsPaged g.sram g.swap → push_return_on flat_stack (flat_of g) sp ret ≡ over flat_of (push_return g sp ret)
unfolding push_return push_return_on
push_return_alike g sp ret paged =
    let below = wrapping_difference sp 1 in
    let middle = with_sram g sp (ret % 256) in
    over_if (is_stack sp) _ (Stopped (StackStop sp)) _ (Stopped (StackStop sp)) (λ is.
    over_if (is_stack below) (Went tt (with_memory (with_memory (flat_of g) sp (ret % 256)) below (ret / 256))) (Stopped (StackStop below)) (Went tt (with_sram middle below (ret / 256)))
    (Stopped (StackStop below)) (λ is'.
    ap (λ s. Went tt (with_memory s below (ret / 256))) (sym (flat_with_sram g sp (ret % 256) paged is))
    ∙ ap (Went tt) (sym (flat_with_sram middle below (ret / 256) (stack_paged g.sram g.swap sp (ret % 256) paged is) is'))) refl) refl

pub pop_return_alike : (g : Guarded) (sp : ℕ) → IsPaged g.sram g.swap → pop_return_from flat_stack (flat_of g) sp ≡ over flat_of (pop_return g sp)
unfolding pop_return pop_return_from
pop_return_alike g sp paged =
    let high = wrapping_sum sp 1 in
    let low = wrapping_sum sp 2 in
    let memory = vmem g.sram g.swap in
    over_if (is_stack high) _ (Stopped (StackStop high)) _ (Stopped (StackStop high)) (λ is.
    over_if (is_stack low) (Went (slice_index memory high * 256 + slice_index memory low) (flat_of g)) (Stopped (StackStop low)) (Went (byte_at g.sram high * 256 + byte_at g.sram low) g)
    (Stopped (StackStop low)) (λ is'.
    ap₂ (λ v w. Went (v * 256 + w) (flat_of g)) (stack_read g.sram g.swap high is) (stack_read g.sram g.swap low is')) refl) refl

-- whatever is asked, the guarded space answers as flat memory does
pub answers_alike : (g : Guarded) (ask : Ask) → IsPaged g.sram g.swap → answer_of flat_calls (flat_of g) ask ≡ over flat_of (answer_of guarded_calls g ask)
unfolding answer_of
answers_alike g (LoadAsk a) paged = ap (answered_by _) (load_alike g a paged) ∙ answered_over _ (load g a)
answers_alike g (StoreAsk a v) paged = ap (answered_by _) (store_alike g a v paged) ∙ answered_over _ (store g a v)
answers_alike g (Modify a clear set) paged = ap (answered_by _) (modify_alike g a clear set) ∙ answered_over _ (modify g a clear set)
answers_alike g (PushByte sp v) paged = ap (answered_by _) (push_alike g sp v paged) ∙ answered_over _ (push g sp v)
answers_alike g (PopByte sp) paged = ap (answered_by _) (pop_alike g sp paged) ∙ answered_over _ (pop g sp)
answers_alike g (PushReturn sp ret) paged = ap (answered_by _) (push_return_alike g sp ret paged) ∙ answered_over _ (push_return g sp ret)
answers_alike g (PopReturn sp) paged = ap (answered_by _) (pop_return_alike g sp paged) ∙ answered_over _ (pop_return g sp)
answers_alike g _ paged = refl

-- so an instruction executed over the guarded space is executed over flat memory
pub executed_alike : (form : Form) (cpu : Cpu) (g : Guarded) (n : ℕ) → IsPaged g.sram g.swap → exec_of flat_calls form cpu (flat_of g) n ≡ over flat_of (exec_of guarded_calls form cpu g n)
executed_alike form cpu g n paged = exec_alike guarded_calls flat_calls flat_of form cpu g n (answers_alike g (ask_of form cpu) paged)
