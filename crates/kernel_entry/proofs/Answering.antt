-- What `exec` tells and leaves, in the words of an execution; what a service answers from that; and which condition an entry
-- gives.
use Rattle.std.proofs.Common.{◌≡◌, ℕ, List, ap, ap₂, ◌∙◌, Bool, true, false, ◌≤◌, arith, refl, sym}
use Rattle.std.specs.Prelude.{Result, Ok, Err, OnErr, ◌≢◌, Option, Some, None}
use Rattle.avr_isa.specs.declared.form.Form.{Form}
use Rattle.avr_exec.specs.declared.cpu.Cpu.{Cpu}
use Rattle.avr_exec.specs.declared.stop.BusStop.{BusStop}
use Rattle.avr_exec.specs.Spaces.{Outcome, Went, Stopped}
use Rattle.avr_exec.specs.Execution.{exec_of}
use Rattle.sram_layout.specs.Bytes.{with_word, byte_at}
use Rattle.sram_layout.specs.Cells.{vsp_cell, count_cell}
use Rattle.flat_machine.specs.FlatMachine.{next_size}
use Rattle.mem_guard.specs.Guarded.{Guarded, guarded_calls}
use Rattle.kernel_entry.proofs.LeftLaws.{word_kept}
use Rattle.kernel_entry.specs.declared.kernel.Kernel.{Kernel}
use Rattle.kernel_entry.specs.declared.execution.Ran.{Ran}
use Rattle.kernel_entry.specs.Parts.{descriptor, virtual_sp, memory_of, put_back, with_sram, image_held, instruction, core_of}
use Rattle.kernel_entry.specs.Services.{executed, execution, execution_by, if_instruction, resumed_by, resumed, gone_by, gone}
use Rattle.avr_exec.specs.Asks.{ask_of}
use Rattle.avr_exec.specs.Likeness.{Leaves}
use Rattle.nat_template.specs.declared.shapes.TemplateShape.TheVariants.{Fault}
use Rattle.nat_template.specs.Shapes.{shape_of}
use Rattle.kernel_entry.proofs.ShapeLaws.{runs_or_faults}
use Rattle.mem_guard.specs.Left.{IsKept, HeapAfter}
use Rattle.mem_guard.proofs.Leaves.{executed_leaves}
use Rattle.kernel_entry.specs.Conditions.{CanExecute, CanCount, CanServe, IsCalled, shape_behind, executes}

-- the program's core, with this stack pointer and pc
abbrev pub lent_core : Kernel → (at sp : ℕ) → Cpu
lent_core k at sp = record k.mote.cpu { sp = sp; pc = at }

-- the execution at these numbers is the one at the descriptor's address
pub outcome_is : (k : Kernel) (at n sp : ℕ) (form : Form) (o : Outcome Guarded Cpu) → at ≡ descriptor k → n ≡ next_size (image_held k) at → sp ≡ virtual_sp k
    → o ≡ exec_of guarded_calls form (lent_core k at sp) (memory_of k) n → o ≡ executed k form
unfolding executed
outcome_is k at n sp form o here size stack is =
    is
    ∙ ap₂ (λ m s. exec_of guarded_calls form (lent_core k at s) (memory_of k) m) size stack
    ∙ ap (λ a. exec_of guarded_calls form (lent_core k a (virtual_sp k)) (memory_of k) (next_size (image_held k) a)) here

-- it went on
pub went_told : (k : Kernel) (form : Form) (core : Cpu) (memory : Guarded) (m : List ℕ) (pc : ℕ) → Went core memory ≡ executed k form → m ≡ with_word memory.sram vsp_cell core.sp → pc ≡ core.pc
    → ◌≡◌ {A = Result Ran BusStop × Kernel} (Ok (record { pc = pc; line = memory.line }), with_sram (put_back k core memory) m) (execution k form)
went_told k form core memory m pc is stored told =
    ap (λ p. (Ok (record { pc = p; line = memory.line }), with_sram (put_back k core memory) m)) told
    ∙ ap (λ s. (Ok (record { pc = core.pc; line = memory.line }), with_sram (put_back k core memory) s)) stored ∙ ap (execution_by k) is

-- it stopped, so core and memory are as they were
abbrev unstored : Kernel → Cpu → Guarded → Kernel
unstored k core memory = with_sram (put_back k core memory) memory.sram

left_alone : {A : Type 0} (k : Kernel) (result : Result A BusStop) (core core' : Cpu) (memory : Guarded) (stop : BusStop) → result ≡ Err stop
    → OnErr result ((core' ≡ core) × (memory ≡ memory_of k)) → unstored k core' memory ≡ unstored k core (memory_of k)
left_alone k (Ok done) core core' memory stop is left = absurd (cc)
left_alone k (Err other) core core' memory stop is left = ap₂ (unstored k) left.0 left.1

pub stop_told : {A : Type 0} (k : Kernel) (at sp : ℕ) (form : Form) (result : Result A BusStop) (core : Cpu) (memory : Guarded) (stop : BusStop) → result ≡ Err stop
    → OnErr result ((core ≡ lent_core k at sp) × (memory ≡ memory_of k)) → Stopped stop ≡ executed k form
    → ◌≡◌ {A = Result Ran BusStop × Kernel} (Err stop, unstored k core memory) (execution k form)
stop_told k at sp form result core memory stop told left is =
    ap (λ (n : Kernel). (Err stop, n)) (left_alone k result (lent_core k at sp) core memory stop told left) ∙ ap (execution_by k) is

-- the answer by the result of the execution
pub resumed_is : (k next : Kernel) (form : Form) (told result : Result Ran BusStop) → instruction k ≡ Some form → ◌≡◌ {A = Result Ran BusStop × Kernel} (told, next) (execution k form)
    → told ≡ result → resumed_by k result next ≡ resumed k
unfolding resumed
resumed_is k next form told result at is same =
    ap (λ r. resumed_by k r next) (sym same) ∙ ap (λ x. resumed_by k x.0 x.1) is
    ∙ sym (ap (λ i. if_instruction k i (λ f. resumed_by k (execution k f).0 (execution k f).1)) at)

pub gone_is : (k next : Kernel) (form : Form) (told result : Result Ran BusStop) → instruction k ≡ Some form → ◌≡◌ {A = Result Ran BusStop × Kernel} (told, next) (execution k form)
    → told ≡ result → gone_by k result next ≡ gone k
unfolding gone
gone_is k next form told result at is same =
    ap (λ r. gone_by k r next) (sym same) ∙ ap (λ x. gone_by k x.0 x.1) is
    ∙ sym (ap (λ i. if_instruction k i (λ f. gone_by k (execution k f).0 (execution k f).1)) at)

-- an execution leaves COUNT and the quantum
count_by : (k : Kernel) (P : Guarded → Type 0) (o : Outcome Guarded Cpu) → Leaves (λ after. IsKept (memory_of k) after × P after) o
    → byte_at (execution_by k o).1.mote.sram count_cell ≡ byte_at k.mote.sram count_cell
count_by k P (Went core memory) left =
    word_kept memory.sram core.sp count_cell (omega arith) ∙ left.0.cells count_cell (omega arith) (omega arith)
count_by k P (Stopped stop) left = refl

quantum_by : (k : Kernel) (o : Outcome Guarded Cpu) → (execution_by k o).1.quantum ≡ k.quantum
quantum_by k (Went core memory) = refl
quantum_by k (Stopped stop) = refl

pub quantum_left : (k next : Kernel) (form : Form) (told : Result Ran BusStop) → ◌≡◌ {A = Result Ran BusStop × Kernel} (told, next) (execution k form) → next.quantum ≡ k.quantum
quantum_left k next form told is = ap (λ x. x.1.quantum) is ∙ quantum_by k (executed k form)

count_left : (k : Kernel) (form : Form) → CanExecute k → byte_at (execution k form).1.mote.sram count_cell ≡ byte_at k.mote.sram count_cell
unfolding executed
count_left k form can =
    count_by k (λ after. HeapAfter (memory_of k) (ask_of form (core_of k (descriptor k))) after) (executed k form)
    (executed_leaves form (core_of k (descriptor k)) (memory_of k) (next_size (image_held k) (descriptor k)) can.paged)

pub count_stays : (k next : Kernel) (form : Form) (told : Result Ran BusStop) → CanExecute k → ◌≡◌ {A = Result Ran BusStop × Kernel} (told, next) (execution k form)
    → byte_at next.mote.sram count_cell ≡ byte_at k.mote.sram count_cell
count_stays k next form told can is = ap (λ x. byte_at x.1.mote.sram count_cell) is ∙ count_left k form can

pub can_count : (k next : Kernel) (form : Form) (told : Result Ran BusStop) → CanExecute k → CanCount k → ◌≡◌ {A = Result Ran BusStop × Kernel} (told, next) (execution k form)
    → (1 ≤ byte_at next.mote.sram count_cell) × (byte_at next.mote.sram count_cell ≤ next.quantum)
can_count k next form told can count is =
    let same : byte_at next.mote.sram count_cell ≡ byte_at k.mote.sram count_cell = count_stays k next form told can is in
    let quantum : next.quantum ≡ k.quantum = quantum_left k next form told is in
    let some = count.some in
    let most = count.most in
    (omega arith, omega arith)

called_as : (k : Kernel) (i : Option Form) → instruction k ≡ i → shape_of (descriptor k) i ≢ Fault → CanExecute k → IsCalled k
called_as k None is apart can = absurd (apart refl)
called_as k (Some form) is apart can = record { form = form; is = is; runs = runs_or_faults (descriptor k) form apart; can = can }

pub called_by : (k : Kernel) → shape_behind k ≢ Fault → CanExecute k → IsCalled k
called_by k apart can = called_as k (instruction k) refl apart can

-- the pc decides
pub elsewhere : (f : ℕ → Bool) (pc entry : ℕ) → pc ≡ entry → f pc ≡ true → f entry ≡ false → ⊥
elsewhere f pc entry is here there = absurd (cc (ap f is))

pub called : (k : Kernel) → CanServe k → executes k.mote.cpu.pc ≡ true → IsCalled k
called k (CanServe.AtBridge is) at = absurd (elsewhere executes k.mote.cpu.pc 0xF000 is at refl)
called k (CanServe.AtQuantum is) at = absurd (elsewhere executes k.mote.cpu.pc 0xF002 is at refl)
called k (CanServe.AtMem is shape can) at = called_by k (λ e. cc) can
called k (CanServe.AtPushReturn is shape can) at = called_by k (λ e. cc) can
called k (CanServe.AtReturn is shape can count) at = called_by k (λ e. cc) can
called k (CanServe.AtIndirect is shape can count) at = called_by k (λ e. cc) can
called k (CanServe.AtSelf is shape can count) at = called_by k (λ e. cc) can
called k (CanServe.AtFault is shape can) at = absurd (elsewhere executes k.mote.cpu.pc 0xF00E is at refl)
