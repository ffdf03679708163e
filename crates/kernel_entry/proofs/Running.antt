-- Which services execute an instruction of the program, and what they do then.
use Rattle.std.proofs.Common.{◌≡◌, ℕ, ◌<◌, ◌≤◌, Bool, true, false, arith, refl, sym, ap, ◌∙◌}
use Rattle.std.specs.Prelude.{◌==◌, ◌||◌, Option, Some, None, is_some, is_none, Result, Ok, Err}
use Rattle.std.proofs.lemmas.Bool.Decides.{nat_tests}
use Rattle.avr_isa.specs.declared.form.Form.{Form}
use Rattle.avr_exec.specs.declared.stop.BusStop.{BusStop}
use Rattle.sram_layout.specs.Bytes.{byte_at}
use Rattle.sram_layout.specs.Cells.{count_cell}
use Rattle.nat_template.specs.Stubs.{bridge_entry, quantum_entry, mem_entry, push_return_entry, return_entry, indirect_entry, self_entry, fault_entry}
use Rattle.preempt_count.specs.Counting.{is_checkpoint}
use Rattle.kernel_entry.specs.declared.kernel.Kernel.{Kernel}
use Rattle.kernel_entry.specs.declared.kernel.Served.{Served}
use Rattle.kernel_entry.specs.declared.execution.Ran.{Ran}
use Rattle.kernel_entry.specs.Parts.{descriptor, instruction}
use Rattle.kernel_entry.specs.Conditions.{CanCount, CanServe, IsCalled, executes}
use Rattle.kernel_entry.specs.Services.{execution, foreign_read, read_by, resumed_by, resumed, gone_by, gone, halted, is_run_at, is_run, due_by, is_due, served}
use Rattle.kernel_entry.proofs.Answering.{called, resumed_is, gone_is}
use Rattle.kernel_entry.proofs.ServedLaws.{at_entry, accesses_at, looped_as}

-- the pc decides
runs_at : (k : Kernel) (entry : ℕ) (b : Bool) → k.mote.cpu.pc ≡ entry → is_run k ≡ b → is_run_at entry k ≡ b
runs_at k entry b is runs = ap (λ e. is_run_at e k) (sym is) ∙ runs

none_of : (o : Option ℕ) → is_none o ≡ true → o ≡ None
none_of None is = refl
none_of (Some a) is = absurd (cc)

some_of : (o : Option ℕ) → is_none o ≡ false → is_some o ≡ true
some_of None is = absurd (cc)
some_of (Some a) is = refl

-- an entry that executes
data Way (k : Kernel) : Type 0 where
  Resumes : k.mote.cpu.pc < return_entry → served k ≡ resumed k → Way k
  Goes : return_entry ≤ k.mote.cpu.pc → CanCount k → served k ≡ gone k → Way k

way : (k : Kernel) → CanServe k → is_run k ≡ true → Way k × (executes k.mote.cpu.pc ≡ true)
way k (CanServe.AtBridge is) run = absurd (let no = runs_at k bridge_entry true is run in cc)
way k (CanServe.AtQuantum is) run = absurd (let no = runs_at k quantum_entry true is run in cc)
way k (CanServe.AtMem is shape can) run =
    (Way.Resumes (omega (arith, is)) (accesses_at k None is (none_of (foreign_read k) (runs_at k mem_entry true is run))), ap executes is)
way k (CanServe.AtPushReturn is shape can) run = (Way.Resumes (omega (arith, is)) (at_entry k push_return_entry is), ap executes is)
way k (CanServe.AtReturn is shape can count) run = (Way.Goes (omega (arith, is)) count (at_entry k return_entry is), ap executes is)
way k (CanServe.AtIndirect is shape can count) run = (Way.Goes (omega (arith, is)) count (at_entry k indirect_entry is), ap executes is)
way k (CanServe.AtSelf is shape can count) run =
    (Way.Goes (omega (arith, is)) count (at_entry k self_entry is ∙ looped_as k true (runs_at k self_entry true is run)), ap executes is)
way k (CanServe.AtFault is shape can) run = absurd (let no = runs_at k fault_entry true is run in cc)

pub run_called : (k : Kernel) → CanServe k → is_run k ≡ true → IsCalled k
run_called k can run = called k can (way k can run).1

-- from MEM to RETURN an instruction is executed, if it may read what it reads
pub at_memory : (k : Kernel) → CanServe k → mem_entry ≤ k.mote.cpu.pc → k.mote.cpu.pc ≤ return_entry → executes k.mote.cpu.pc ≡ true × (foreign_read k ≡ None → is_run k ≡ true)
at_memory k (CanServe.AtBridge is) from up = absurd (omega (arith, is))
at_memory k (CanServe.AtQuantum is) from up = absurd (omega (arith, is))
at_memory k (CanServe.AtMem is shape can) from up = (ap executes is, λ none. ap (λ e. is_run_at e k) is ∙ ap is_none none)
at_memory k (CanServe.AtPushReturn is shape can) from up = (ap executes is, λ none. ap (λ e. is_run_at e k) is)
at_memory k (CanServe.AtReturn is shape can count) from up = (ap executes is, λ none. ap (λ e. is_run_at e k) is)
at_memory k (CanServe.AtIndirect is shape can count) from up = absurd (omega (arith, is))
at_memory k (CanServe.AtSelf is shape can count) from up = absurd (omega (arith, is))
at_memory k (CanServe.AtFault is shape can) from up = absurd (omega (arith, is))

pub known_there : (k : Kernel) → IsCalled k → is_some (instruction k) ≡ true
known_there k called = ap is_some called.is

-- by what the execution tells
resumes_by : (k next : Kernel) (form : Form) (told : Result Ran BusStop) (ran : Ran) → Way k → k.mote.cpu.pc < return_entry → instruction k ≡ Some form
    → ◌≡◌ {A = Result Ran BusStop × Kernel} (told, next) (execution k form) → told ≡ Ok ran → resumed_by k (Ok ran) next ≡ served k
resumes_by k next form told ran (Way.Resumes low way_is) below at is same = resumed_is k next form told (Ok ran) at is same ∙ sym way_is
resumes_by k next form told ran (Way.Goes high count way_is) below at is same = absurd (omega arith)

pub resumes : (k next : Kernel) (form : Form) (told : Result Ran BusStop) (ran : Ran) → CanServe k → is_run k ≡ true → k.mote.cpu.pc < return_entry → instruction k ≡ Some form
    → ◌≡◌ {A = Result Ran BusStop × Kernel} (told, next) (execution k form) → told ≡ Ok ran → resumed_by k (Ok ran) next ≡ served k
resumes k next form told ran can run below at is same = resumes_by k next form told ran (way k can run).0 below at is same

goes_by : (k : Kernel) → Way k → return_entry ≤ k.mote.cpu.pc → CanCount k × (served k ≡ gone k)
goes_by k (Way.Resumes low way_is) above = absurd (omega arith)
goes_by k (Way.Goes high count way_is) above = (count, way_is)

pub run_counts : (k : Kernel) → CanServe k → is_run k ≡ true → return_entry ≤ k.mote.cpu.pc → CanCount k
run_counts k can run above = (goes_by k (way k can run).0 above).0

pub goes : (k next : Kernel) (form : Form) (told : Result Ran BusStop) (ran : Ran) → CanServe k → is_run k ≡ true → return_entry ≤ k.mote.cpu.pc → instruction k ≡ Some form
    → ◌≡◌ {A = Result Ran BusStop × Kernel} (told, next) (execution k form) → told ≡ Ok ran → gone_by k (Ok ran) next ≡ served k
goes k next form told ran can run above at is same = gone_is k next form told (Ok ran) at is same ∙ sym (goes_by k (way k can run).0 above).1

-- a stop of the program's memory is the answer, whatever the entry
stops_by : (k next : Kernel) (form : Form) (told : Result Ran BusStop) (stop : BusStop) → Way k → instruction k ≡ Some form
    → ◌≡◌ {A = Result Ran BusStop × Kernel} (told, next) (execution k form) → told ≡ Err stop → gone_by k (Err stop) next ≡ served k
stops_by k next form told stop (Way.Resumes low way_is) at is same = resumed_is k next form told (Err stop) at is same ∙ sym way_is
stops_by k next form told stop (Way.Goes high count way_is) at is same = gone_is k next form told (Err stop) at is same ∙ sym way_is

pub stops : (k next : Kernel) (form : Form) (told : Result Ran BusStop) (stop : BusStop) → CanServe k → is_run k ≡ true → instruction k ≡ Some form
    → ◌≡◌ {A = Result Ran BusStop × Kernel} (told, next) (execution k form) → told ≡ Err stop → gone_by k (Err stop) next ≡ served k
stops k next form told stop can run at is same = stops_by k next form told stop (way k can run).0 at is same

-- the others
pub refuses : (k : Kernel) → k.mote.cpu.pc ≡ mem_entry → is_run k ≡ false → is_some (foreign_read k) ≡ true
refuses k is apart = some_of (foreign_read k) (runs_at k mem_entry false is apart)

pub refused_is : (k : Kernel) → k.mote.cpu.pc ≡ mem_entry → served k ≡ read_by k (foreign_read k)
refused_is k is = accesses_at k (foreign_read k) is refl

pub halted_is : (k : Kernel) → k.mote.cpu.pc ≡ self_entry → is_run k ≡ false → served k ≡ halted k
halted_is k is apart = at_entry k self_entry is ∙ looped_as k false (runs_at k self_entry false is apart)

-- whether an interrupt may be taken next, by the answer
pub due_is : (k : Kernel) (r : Served × Kernel) → r ≡ served k → due_by k.mote.cpu.pc (descriptor k) (byte_at k.mote.sram count_cell == 1) r.0 ≡ is_due k
unfolding is_due
due_is k r is = ap (λ (x : Served × Kernel). due_by k.mote.cpu.pc (descriptor k) (byte_at k.mote.sram count_cell == 1) x.0) is

no_quantum : (pc : ℕ) → return_entry ≤ pc → (pc == quantum_entry) ≡ false
no_quantum pc above = grind (arith, nat_tests)

pub due_behind : (k next : Kernel) (ran : Ran) (count : ℕ) → return_entry ≤ k.mote.cpu.pc → count ≡ byte_at k.mote.sram count_cell → gone_by k (Ok ran) next ≡ served k
    → is_checkpoint (descriptor k) ran.pc count ≡ is_due k
due_behind k next ran count above same is =
    ap (is_checkpoint (descriptor k) ran.pc) same
    ∙ ap (λ (b : Bool). b || is_checkpoint (descriptor k) ran.pc (byte_at k.mote.sram count_cell)) (sym (no_quantum k.mote.cpu.pc above))
    ∙ due_is k (gone_by k (Ok ran) next) is
