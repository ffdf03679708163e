-- What a bus showed outside: no access changes it but a write to a device's register.
use Rattle.std.proofs.Common.{◌≡◌, ℕ, ◌+◌, ◌*◌, ◌/◌, ◌%◌, Bool, true, false, cond, refl, subst}
use Rattle.std.specs.Prelude.{Option, Some, None}
use Rattle.avr_isa.specs.declared.form.Form.{Form}
use Rattle.avr_isa.specs.declared.form.Form.TheVariants.{Sbic, Sbis, LoadOff, StoreOff, LoadAt, StoreAt, Lds, Sts, Elpm, InIo, OutIo, Cbi, Sbi}
use Rattle.avr_exec.specs.declared.cpu.Cpu.{Cpu}
use Rattle.avr_exec.specs.declared.ask.Ask.{Ask}
use Rattle.avr_exec.specs.declared.ask.Ask.TheVariants.{Nothing, Load as LoadAsk, Store as StoreAsk, Modify, PushByte, PopByte, PushReturn, PopReturn}
use Rattle.avr_exec.specs.declared.stop.BusStop.TheVariants.{Stack as StackStop}
use Rattle.avr_isa.specs.Addresses.{wrapping_sum, wrapping_difference}
use Rattle.avr_exec.specs.Registers.{is_own}
use Rattle.avr_exec.specs.StackRules.{push_on, pop_from, push_return_on, pop_return_from}
use Rattle.avr_exec.specs.Spaces.{Went}
use Rattle.avr_exec.specs.Asks.{ask_of, load_of}
use Rattle.avr_isa.specs.IoTable.{io_address}
use Rattle.avr_exec.specs.Execution.{answer_of, exec_of}
use Rattle.avr_exec.specs.Likeness.{Leaves, is_transfer}
use Rattle.avr_exec.proofs.OneAnswer.{exec_leaves, answered_by-leaves}
use Rattle.sram_layout.specs.Bytes.{byte_at}
use Rattle.flat_machine.specs.Addresses.{is_stack}
use Rattle.heap_frames.specs.Paging.{Store, heap_store}
use Rattle.mote_devices.specs.declared.line.Line.{Line}
use Rattle.mote_devices.specs.Accesses.{Asked, Gave, Refused, read, write, modify as modify_device}
use Rattle.flat_machine.specs.declared.address.AddrClass.{AddrClass}
use Rattle.flat_machine.specs.declared.address.AddrClass.TheVariants.{Stack, Heap}
use Rattle.flat_machine.specs.Classes.{class_of}
use Rattle.mem_guard.specs.Guarded.{Guarded, heap_of, with_sram, from_device, to_device, to_heap, load_in, store_in, load, store, modify, push, pop, push_return, pop_return, guarded_calls}
use Rattle.mem_guard.specs.Left.{LineAfterStore, LineAfter}
use Rattle.mem_guard.proofs.Leaves.{one_leaves, two_leave}

-- the line stays
abbrev KeepsLine : Guarded → Guarded → Type 0
KeepsLine g next = next.line ≡ g.line

device_reads : (g : Guarded) (a : ℕ) (asked : Asked ℕ) → Leaves (KeepsLine g) (from_device g a asked)
device_reads g a (Gave v next) = refl
device_reads g a Refused = tt

device_writes : (g : Guarded) (a : ℕ) (asked : Asked (Option Line)) → Leaves (λ next. Unit {0}) (to_device g a asked)
device_writes g a (Gave line next) = tt
device_writes g a Refused = tt

loads : (k : AddrClass) (g : Guarded) (a : ℕ) → Leaves (KeepsLine g) (load_in k g a)
loads Stack g a = refl
loads Heap g a = refl
loads _ g a = device_reads g a (read g.devices a)

pub load_line : (g : Guarded) (a : ℕ) → Leaves (LineAfter g (LoadAsk a)) (load g a)
unfolding load
load_line g a = loads (class_of a) g a

heap_stores : (g : Guarded) (a : ℕ) (stored : Option Store) → Leaves (KeepsLine g) (to_heap g a stored)
heap_stores g a (Some h) = refl
heap_stores g a None = tt

stores : (k : AddrClass) (g : Guarded) (a v : ℕ) → Leaves (LineAfterStore k g) (store_in k g a v)
stores Stack g a v = refl
stores Heap g a v = heap_stores g a (heap_store (heap_of g) a v)
stores _ g a v = device_writes g a (write g.devices a v)

pub store_line : (g : Guarded) (a v : ℕ) → Leaves (LineAfter g (StoreAsk a v)) (store g a v)
unfolding store
store_line g a v = stores (class_of a) g a v

modify_line : (g : Guarded) (a clear set : ℕ) → Leaves (LineAfter g (Modify a clear set)) (modify g a clear set)
unfolding modify
modify_line g a clear set = device_writes g a (modify_device g.devices a clear set)

-- the stack
pub push_line : (g : Guarded) (sp v : ℕ) → Leaves (LineAfter g (PushByte sp v)) (push g sp v)
unfolding push push_on
push_line g sp v = one_leaves (KeepsLine g) _ _ _ _ (λ is. refl)

pub pop_line : (g : Guarded) (sp : ℕ) → Leaves (LineAfter g (PopByte sp)) (pop g sp)
unfolding pop pop_from
pop_line g sp = one_leaves (KeepsLine g) _ _ _ _ (λ is. refl)

pub push_return_line : (g : Guarded) (sp ret : ℕ) → Leaves (LineAfter g (PushReturn sp ret)) (push_return g sp ret)
unfolding push_return push_return_on
push_return_line g sp ret =
    let below = wrapping_difference sp 1 in
    two_leave (KeepsLine g) (is_stack sp) (is_stack below) tt (with_sram (with_sram g sp (ret % 256)) below (ret / 256)) (StackStop below) (StackStop sp) (λ is is'. refl)

pub pop_return_line : (g : Guarded) (sp : ℕ) → Leaves (LineAfter g (PopReturn sp)) (pop_return g sp)
unfolding pop_return pop_return_from
pop_return_line g sp =
    let high = wrapping_sum sp 1 in
    let low = wrapping_sum sp 2 in
    two_leave (KeepsLine g) (is_stack high) (is_stack low) (byte_at g.sram high * 256 + byte_at g.sram low) g (StackStop low) (StackStop high) (λ is is'. refl)

-- whatever is asked
pub answers_line : (g : Guarded) (ask : Ask) → Leaves (LineAfter g ask) (answer_of guarded_calls g ask)
unfolding answer_of
answers_line g (LoadAsk a) = answered_by-leaves _ _ (load g a) (load_line g a)
answers_line g (StoreAsk a v) = answered_by-leaves _ _ (store g a v) (store_line g a v)
answers_line g (Modify a clear set) = answered_by-leaves _ _ (modify g a clear set) (modify_line g a clear set)
answers_line g (PushByte sp v) = answered_by-leaves _ _ (push g sp v) (push_line g sp v)
answers_line g (PopByte sp) = answered_by-leaves _ _ (pop g sp) (pop_line g sp)
answers_line g (PushReturn sp ret) = answered_by-leaves _ _ (push_return g sp ret) (push_return_line g sp ret)
answers_line g (PopReturn sp) = answered_by-leaves _ _ (pop_return g sp) (pop_return_line g sp)
answers_line g _ = refl

-- an instruction that is executed changes the line as the one thing that it asks does
pub executed_line : (form : Form) (cpu cpu' : Cpu) (g next : Guarded) (n : ℕ) → exec_of guarded_calls form cpu g n ≡ Went cpu' next → LineAfter g (ask_of form cpu) next
executed_line form cpu cpu' g next n went =
    subst (Leaves (LineAfter g (ask_of form cpu))) went (exec_leaves (LineAfter g (ask_of form cpu)) guarded_calls form cpu g n (answers_line g (ask_of form cpu)))

-- a load leaves it, also one that the core answers itself
load_keeps : (b : Bool) (g next : Guarded) (a : ℕ) → LineAfter g (cond b Nothing (LoadAsk a)) next → next.line ≡ g.line
load_keeps true g next a after = after
load_keeps false g next a after = after

-- a jump, a call, a return, a branch and a skip write no line
transfer_keeps : (form : Form) (cpu : Cpu) (g next : Guarded) → is_transfer form ≡ true → LineAfter g (ask_of form cpu) next → next.line ≡ g.line
unfolding is_transfer ask_of load_of
transfer_keeps (Sbic a b) cpu g next is after = load_keeps (is_own (io_address a)) g next (io_address a) after
transfer_keeps (Sbis a b) cpu g next is after = load_keeps (is_own (io_address a)) g next (io_address a) after
transfer_keeps (LoadOff d base q) cpu g next is after = absurd (cc)
transfer_keeps (StoreOff base q d) cpu g next is after = absurd (cc)
transfer_keeps (LoadAt d pointer) cpu g next is after = absurd (cc)
transfer_keeps (StoreAt pointer d) cpu g next is after = absurd (cc)
transfer_keeps (Lds d a) cpu g next is after = absurd (cc)
transfer_keeps (Sts a d) cpu g next is after = absurd (cc)
transfer_keeps (Elpm d rises) cpu g next is after = absurd (cc)
transfer_keeps (InIo d a) cpu g next is after = absurd (cc)
transfer_keeps (OutIo a d) cpu g next is after = absurd (cc)
transfer_keeps (Cbi a b) cpu g next is after = absurd (cc)
transfer_keeps (Sbi a b) cpu g next is after = absurd (cc)
transfer_keeps _ cpu g next is after = after

pub transfer_line : (form : Form) (cpu cpu' : Cpu) (g next : Guarded) (n : ℕ) → is_transfer form ≡ true → exec_of guarded_calls form cpu g n ≡ Went cpu' next → next.line ≡ g.line
transfer_line form cpu cpu' g next n is went = transfer_keeps form cpu g next is (executed_line form cpu cpu' g next n went)
