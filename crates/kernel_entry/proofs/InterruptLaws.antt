-- An interrupt that is taken is the original program's.
use Rattle.std.specs.Prelude.{◌<◌, ◌≢◌, ◌==◌, not, None, Result, Ok, Err, ◌&&◌}
use Rattle.std.proofs.Common.{arith, ◌≡◌, ℕ, ◌+◌, Bool, true, false, cond, refl, sym, ap, ap₂, subst, ◌∙◌}
use Rattle.std.proofs.lemmas.Bool.Decides.{nat_tests}
use Rattle.std.proofs.lemmas.Bool.{and_right}
use Rattle.avr_flags.specs.Status.{has_bit, with_bit, interrupts}
use Rattle.avr_isa.specs.Addresses.{wrapping_difference}
use Rattle.avr_exec.specs.StackRules.{push_return_on}
use Rattle.avr_exec.specs.Spaces.{Outcome, Went, Stopped}
use Rattle.avr_exec.specs.Likeness.{over, Leaves}
use Rattle.avr_exec.specs.declared.stop.BusStop.{BusStop}
use Rattle.flat_machine.specs.Addresses.{is_stack}
use Rattle.heap_frames.specs.Paged.{IsPaged}
use Rattle.sram_layout.specs.Bytes.{byte_at, with_word}
use Rattle.sram_layout.specs.Cells.{count_cell, vsp_cell}
use Rattle.sram_layout.specs.Regions.{KeepsRegion, place_cells}
use Rattle.sram_layout.proofs.Laws.{word_low}
use Rattle.heap_frames.proofs.SamePagingLaws.{paged_same}
use Rattle.kernel_entry.proofs.LeftLaws.{same_stored, view_put, word_kept}
use Rattle.kernel_entry.specs.declared.kernel.Stop.{Stop}
use Rattle.mote_devices.specs.State.{State as Devices}
use Rattle.mote_devices.specs.Waking.{enabled, is_enabled, with_taken}
use Rattle.flat_machine.specs.FlatMachine.{Ends, On, next_of, interrupted, interrupted_by, lowest, vector}
use Rattle.mem_guard.specs.Guarded.{Guarded, flat_of, push_return}
use Rattle.mem_guard.specs.Left.{IsKept, KeepsHeap}
use Rattle.mem_guard.proofs.Alike.{push_return_alike}
use Rattle.mem_guard.proofs.Leaves.{push_return_leaves_kept}
use Rattle.flat_machine.proofs.MachineLaws.{next_taken}
use Rattle.kernel_entry.specs.declared.kernel.Kernel.{Kernel}
use Rattle.kernel_entry.specs.declared.kernel.Taken.{Taken}
use Rattle.kernel_entry.specs.declared.kernel.Taken.TheVariants as answers
use Rattle.kernel_entry.specs.Parts.{virtual_sp, memory_of}
use Rattle.kernel_entry.specs.Services.{stop_of}
use Rattle.kernel_entry.specs.Interrupts.{is_wanted, pushed, pushed_by, taken, taken_by}
use Rattle.kernel_entry.specs.Seen.{View, program, state_at, end_of}
use Rattle.kernel_entry.proofs.RowLaws.{end_stop}

-- a return address that is pushed leaves the devices
abbrev SameDevices : Guarded → Outcome Guarded (Unit {0}) → Type 0
SameDevices g o = Leaves (λ next. next.devices ≡ g.devices) o

two_kept : (b c : Bool) (g next : Guarded) (high low : BusStop) → next.devices ≡ g.devices → SameDevices g (cond b (cond c (Went tt next) (Stopped low)) (Stopped high))
two_kept true true g next high low same = same
two_kept true false g next high low same = tt
two_kept false c g next high low same = tt

pub push_devices : (g : Guarded) (sp ret : ℕ) → SameDevices g (push_return g sp ret)
unfolding push_return push_return_on
push_devices g sp ret = two_kept (is_stack sp) (is_stack (wrapping_difference sp 1)) g _ _ _ refl

-- what a push keeps of the memory, and the answer with the interrupt of the lowest number
abbrev KeepsAll : Kernel → Guarded → Type 0
KeepsAll k next = IsKept (memory_of k) next × KeepsHeap (memory_of k) next

abbrev taken_first : Kernel → ℕ → Taken × Kernel
taken_first k target = taken_by k (lowest (enabled k.mote.devices)) target (pushed k target).0 (pushed k target).1

-- what an answer says of the original program's next step
abbrev pub AsTaken : Kernel → ℕ → Taken × Kernel → Type 0
AsTaken k target (answers.Nothing, new) = ⊥
AsTaken k target (answers.Vector v, new) = (s c : ℕ) → next_of (program k) (record { now = state_at k target s c; due = true }) ≡ On None (record { now = state_at new v (s + 1) c; due = false })
AsTaken k target (answers.Stopped stop, new) = (s c : ℕ) → next_of (program k) (record { now = state_at k target s c; due = true }) ≡ Ends (end_of stop)

taken_as : (k : Kernel) (target : ℕ) (o : Outcome Guarded (Unit {0})) → push_return (memory_of k) (virtual_sp k) target ≡ o → IsPaged k.mote.sram k.mote.swap → Leaves (KeepsAll k) o
    → ((s c : ℕ) → next_of (program k) (record { now = state_at k target s c; due = true }) ≡ interrupted (program k) (state_at k target s c))
    → AsTaken k target (taken_by k (lowest (enabled k.mote.devices)) target (pushed_by k o).0 (pushed_by k o).1)
taken_as k target (Stopped stop) is paged left here = λ s c.
    here s c ∙ ap (interrupted_by k.part (state_at k target s c) (lowest (enabled k.mote.devices))) (push_return_alike (memory_of k) (virtual_sp k) target paged ∙ ap (over flat_of) is)
    ∙ ap Ends (end_stop target stop)
taken_as k target (Went done g) is paged left here = λ s c.
    let n = lowest (enabled k.mote.devices) in
    here s c ∙ ap (interrupted_by k.part (state_at k target s c) n) (push_return_alike (memory_of k) (virtual_sp k) target paged ∙ ap (over flat_of) is)
    ∙ ap (λ (v : View). On None (record {
      now = record {
        cpu = record { r = v.registers; sreg = v.status; sp = v.stack_pointer; pc = vector k.part n };
        memory = v.memory;
        devices = v.devices;
        pages = v.pages;
        steps = s + 1;
        crossings = c;
      };
      due = false;
    })) (sym (view_put k (record { r = k.mote.cpu.r; sreg = with_bit k.mote.cpu.sreg interrupts false; sp = wrapping_difference (virtual_sp k) 2; pc = vector k.part n })
    (record g { devices = with_taken g.devices n }) left.0.paged.sized.sram))

-- none is taken where interrupts are off, or none is enabled
untaken : (k : Kernel) (target : ℕ) → is_wanted k ≡ false → (answers.Nothing, k) ≡ taken k target
untaken k target off = sym (ap (λ b. cond b (taken_first k target) (answers.Nothing, k)) off)

pub taken_off : (k : Kernel) (target : ℕ) → has_bit k.mote.cpu.sreg interrupts ≡ false → (answers.Nothing, k) ≡ taken k target
taken_off k target off = untaken k target (ap (λ b. b && is_enabled k.mote.devices) off)

pub taken_none : (k : Kernel) (target : ℕ) → enabled k.mote.devices ≡ 0 → (answers.Nothing, k) ≡ taken k target
taken_none k target none = untaken k target (and_right (has_bit k.mote.cpu.sreg interrupts) (is_enabled k.mote.devices) (ap (λ n. not (n == 0)) none))

some_enabled : (d : Devices) (n : ℕ) → n ≡ enabled d → n ≢ 0 → is_enabled d ≡ true
some_enabled d n is some = let apart : enabled d ≢ 0 = (λ none. some (is ∙ none)) in grind (arith, nat_tests)

taken_is : (k : Kernel) (target : ℕ) → has_bit k.mote.cpu.sreg interrupts ≡ true → is_enabled k.mote.devices ≡ true
    → taken k target ≡ taken_first k target
taken_is k target on some = ap₂ (λ a b. cond (a && b) (taken_first k target) (answers.Nothing, k)) on some

pub taken_stops : (k next : Kernel) (target n : ℕ) (stop : BusStop) → n ≡ enabled k.mote.devices → n ≢ 0 → has_bit k.mote.cpu.sreg interrupts ≡ true
    → ◌≡◌ {A = Result (Unit {0}) BusStop × Kernel} (Err stop, next) (pushed k target)
    → (answers.Stopped (stop_of target stop), next) ≡ taken k target
taken_stops k next target n stop is some on told =
    ap (λ (p : Result (Unit {0}) BusStop × Kernel). taken_by k (lowest (enabled k.mote.devices)) target p.0 p.1) told ∙ sym (taken_is k target on (some_enabled k.mote.devices n is some))

-- the devices, SREG and the place are those of the one that is taken
pub taken_goes : (k next : Kernel) (target n number place sreg : ℕ) (devices : Devices) → n ≡ enabled k.mote.devices → n ≢ 0 → has_bit k.mote.cpu.sreg interrupts ≡ true
    → number ≡ lowest n → place ≡ vector k.part number → ◌≡◌ {A = Result (Unit {0}) BusStop × Kernel} (Ok tt, next) (pushed k target)
    → sreg ≡ with_bit next.mote.cpu.sreg interrupts false → devices ≡ with_taken next.mote.devices number
    → (answers.Vector place, record next { mote = record next.mote { cpu = record next.mote.cpu { sreg = sreg }; devices = devices } }) ≡ taken k target
taken_goes k next target n number place sreg devices is some on least there told off after =
    ap₂ (λ s d. (answers.Vector place, record next { mote = record next.mote { cpu = record next.mote.cpu { sreg = s }; devices = d } })) off after
    ∙ ap (λ p. (answers.Vector p, (taken_by k number target (Ok tt) next).1)) there
    ∙ ap (λ m. taken_by k m target (Ok tt) next) (least ∙ ap lowest is)
    ∙ ap (λ (p : Result (Unit {0}) BusStop × Kernel). taken_by k (lowest (enabled k.mote.devices)) target p.0 p.1) told ∙ sym (taken_is k target on (some_enabled k.mote.devices n is some))

-- where interrupts are on and one is enabled, it is taken as the original program takes it
pub interrupt_taken : (k : Kernel) (target : ℕ) → has_bit k.mote.cpu.sreg interrupts ≡ true → is_enabled k.mote.devices ≡ true → IsPaged k.mote.sram k.mote.swap → AsTaken k target (taken k target)
interrupt_taken k target on some paged =
    rw (taken_is k target on some)
    (taken_as k target (push_return (memory_of k) (virtual_sp k) target) refl paged (push_return_leaves_kept (memory_of k) (virtual_sp k) target paged)
    (λ s c. next_taken (program k) (record { now = state_at k target s c; due = true }) (ap₂ (λ a b. a && b) on some)))

-- what one that is taken leaves: all but the stack window, the stack pointer, SREG and the pending set
pub record KeepsTaken (k new : Kernel) : Type 0 where
  pub layout : new.layout ≡ k.layout
  pub part : new.part ≡ k.part
  pub quantum : new.quantum ≡ k.quantum
  pub flash : new.mote.flash ≡ k.mote.flash
  pub swap : new.mote.swap ≡ k.mote.swap
  pub registers : new.mote.cpu.r ≡ k.mote.cpu.r
  pub top : new.mote.cpu.sp ≡ k.mote.cpu.sp
  pub polls : new.mote.devices.polls ≡ k.mote.devices.polls
  pub paged : IsPaged new.mote.sram new.mote.swap
  pub count : byte_at new.mote.sram count_cell ≡ byte_at k.mote.sram count_cell
  pub tables : KeepsRegion place_cells k.mote.sram new.mote.sram
  pub pointer : byte_at new.mote.sram vsp_cell < 256

abbrev pub KeepsIf : Kernel → Taken × Kernel → Type 0
KeepsIf k (answers.Vector v, new) = KeepsTaken k new
KeepsIf k (_, new) = new ≡ k

pub keeps_as : (k : Kernel) (n target : ℕ) (o : Outcome Guarded (Unit {0})) → Leaves (KeepsAll k) o → SameDevices (memory_of k) o → KeepsIf k (taken_by k n target (pushed_by k o).0 (pushed_by k o).1)
keeps_as k n target (Stopped stop) left same = refl
keeps_as k n target (Went done g) left same = record {
  layout = refl;
  part = refl;
  quantum = refl;
  flash = refl;
  swap = left.1.swap;
  registers = refl;
  top = refl;
  polls = ap (λ (d : Devices). d.polls) same;
  paged = paged_same g.sram (with_word g.sram vsp_cell (wrapping_difference (virtual_sp k) 2)) g.swap (same_stored g.sram (wrapping_difference (virtual_sp k) 2)) left.0.paged;
  count = word_kept g.sram (wrapping_difference (virtual_sp k) 2) count_cell (omega arith) ∙ left.0.cells count_cell (omega arith) (omega arith);
  tables = λ b low high. word_kept g.sram (wrapping_difference (virtual_sp k) 2) b (omega arith) ∙ left.0.tables b (omega arith) high;
  pointer = let size = left.0.paged.sized.sram in omega (arith, word_low g.sram vsp_cell (wrapping_difference (virtual_sp k) 2) (omega arith) (omega arith));
}

keeps_first : (k : Kernel) (target : ℕ) → has_bit k.mote.cpu.sreg interrupts ≡ true → is_enabled k.mote.devices ≡ true → IsPaged k.mote.sram k.mote.swap → KeepsIf k (taken k target)
keeps_first k target on some paged =
    let g = memory_of k in
    rw (taken_is k target on some) (keeps_as k (lowest (enabled k.mote.devices)) target (push_return g (virtual_sp k) target) (push_return_leaves_kept g (virtual_sp k) target paged)
    (push_devices g (virtual_sp k) target))

pub interrupt_keeps : (k : Kernel) (target v : ℕ) (new : Kernel) → has_bit k.mote.cpu.sreg interrupts ≡ true → is_enabled k.mote.devices ≡ true → IsPaged k.mote.sram k.mote.swap
    → taken k target ≡ (answers.Vector v, new) → KeepsTaken k new
interrupt_keeps k target v new on some paged is =
    subst (KeepsIf k) is (keeps_first k target on some paged)

pub interrupt_stays : (k : Kernel) (target : ℕ) (stop : Stop) (new : Kernel) → has_bit k.mote.cpu.sreg interrupts ≡ true → is_enabled k.mote.devices ≡ true → IsPaged k.mote.sram k.mote.swap
    → taken k target ≡ (answers.Stopped stop, new) → new ≡ k
interrupt_stays k target stop new on some paged is =
    subst (KeepsIf k) is (keeps_first k target on some paged)
