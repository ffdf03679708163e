-- An instruction that is executed over the guarded space is the original program's step.
use Rattle.std.proofs.Common.{◌≡◌, ℕ, ◌+◌, true, false, not, ◌&&◌, sym, ap, subst, ◌∙◌}
use Rattle.std.specs.Prelude.{Result, Ok, Err, Some, None, OnOk, OnErr, if◌then◌else◌}
use Rattle.avr_isa.specs.declared.form.Form.{Form}
use Rattle.avr_isa.specs.Crossing.{is_crossing}
use Rattle.avr_decode.specs.Program.{instruction_at}
use Rattle.avr_flags.specs.Status.{has_bit, interrupts}
use Rattle.avr_exec.specs.declared.cpu.Cpu.{Cpu}
use Rattle.avr_exec.specs.declared.stop.BusStop.{BusStop}
use Rattle.avr_exec.specs.Spaces.{Went, Stopped}
use Rattle.avr_exec.specs.Asks.{ask_of}
use Rattle.avr_exec.specs.Execution.{exec_of, is_executed, finished}
use Rattle.avr_exec.specs.Likeness.{over, Leaves}
use Rattle.heap_frames.specs.Paged.{IsPaged}
use Rattle.flash_words.specs.Layouts.{image_of}
use Rattle.flat_machine.specs.declared.part.Part.{Part}
use Rattle.flat_machine.specs.FlatSpace.{flat_calls}
use Rattle.mote_devices.specs.State.{stored, rampz_address}
use Rattle.flat_machine.specs.FlatMachine.{word_asked, if_foreign, Stops, Goes, tried, stepped, space_of, next_size, jumps_to_itself, end_at}
use Rattle.mem_guard.specs.Guarded.{Guarded, flat_of, state_of, program_of, guarded_calls}
use Rattle.mem_guard.specs.Left.{IsKept, HeapAfter}
use Rattle.flat_machine.proofs.MachineLaws.{tried_step}
use Rattle.flat_machine.proofs.ReadLaws.{reads_program, asks_none}
use Rattle.mem_guard.proofs.Alike.{executed_alike}
use Rattle.mem_guard.proofs.Leaves.{executed_leaves, kept_same}

-- what it leaves of the mote's own parts
pub executed_left : {A : Type 0} (result : Result A BusStop) (form : Form) (cpu cpu' : Cpu) (g next : Guarded) (n : ℕ) → IsPaged g.sram g.swap
    → finished result cpu' next ≡ exec_of guarded_calls form cpu g n → OnErr result ((cpu' ≡ cpu) × (next ≡ g))
    → IsKept g next × OnOk result (HeapAfter g (ask_of form cpu) next)
executed_left (Ok done) form cpu cpu' g next n paged outcome stop =
    let left = subst (Leaves (λ after. IsKept g after × HeapAfter g (ask_of form cpu) after)) (sym outcome) (executed_leaves form cpu g n paged) in
    (left.0, left.1)
executed_left (Err stopped) form cpu cpu' g next n paged outcome stop = (subst (IsKept g) (sym stop.1) (kept_same g paged), tt)

-- the step itself: no line was written before it
abbrev counted : ℕ → Cpu → Cpu → ℕ
counted crossings cpu cpu' = if is_crossing cpu.pc cpu'.pc then crossings + 1 else crossings

same_space : (part : Part) (q : ℕ) (g : Guarded) (cpu : Cpu) (steps crossings : ℕ) → g.line ≡ None → space_of (program_of part q g) (state_of g cpu steps crossings) ≡ flat_of g
same_space part q g cpu steps crossings none = ap (λ line. record (flat_of g) { line = line }) (sym none)

-- the instruction reads no word of the program that it may not
abbrev pub ReadsOwn : Part → Guarded → Cpu → Form → Type 0
ReadsOwn part g cpu form = if_foreign part (word_asked (stored g.devices rampz_address) (ask_of form cpu)) ≡ None

pub reads_own : (part : Part) (g : Guarded) (cpu : Cpu) (form : Form) → reads_program form ≡ false → ReadsOwn part g cpu form
reads_own part g cpu form none = ap (if_foreign part) (asks_none (stored g.devices rampz_address) form cpu none)

step_tried : (part : Part) (q : ℕ) (g : Guarded) (cpu : Cpu) (steps crossings : ℕ) (form : Form) → IsPaged g.sram g.swap → g.line ≡ None
    → instruction_at (image_of g.layout g.words) cpu.pc ≡ Some form → is_executed form ≡ true → ReadsOwn part g cpu form → jumps_to_itself cpu.pc form && not (has_bit cpu.sreg interrupts) ≡ false
    → tried (program_of part q g) (state_of g cpu steps crossings)
    ≡ stepped (state_of g cpu steps crossings) (over flat_of (exec_of guarded_calls form cpu g (next_size (image_of g.layout g.words) cpu.pc)))
step_tried part q g cpu steps crossings form paged none is runs own goes =
    let s = state_of g cpu steps crossings in
    let n = next_size (image_of g.layout g.words) cpu.pc in
    tried_step (program_of part q g) s form is runs own goes
    ∙ ap (λ space. stepped s (exec_of flat_calls form cpu space n)) (same_space part q g cpu steps crossings none)
    ∙ ap (stepped s) (executed_alike form cpu g n paged)

pub guarded_goes : (part : Part) (q : ℕ) (g next : Guarded) (cpu cpu' : Cpu) (steps crossings : ℕ) (form : Form) → IsPaged g.sram g.swap → g.line ≡ None
    → instruction_at (image_of g.layout g.words) cpu.pc ≡ Some form → is_executed form ≡ true → ReadsOwn part g cpu form → jumps_to_itself cpu.pc form && not (has_bit cpu.sreg interrupts) ≡ false
    → exec_of guarded_calls form cpu g (next_size (image_of g.layout g.words) cpu.pc) ≡ Went cpu' next
    → tried (program_of part q g) (state_of g cpu steps crossings) ≡ Goes next.line (state_of next cpu' (steps + 1) (counted crossings cpu cpu'))
guarded_goes part q g next cpu cpu' steps crossings form paged none is runs own goes went =
    step_tried part q g cpu steps crossings form paged none is runs own goes ∙ ap (λ o. stepped (state_of g cpu steps crossings) (over flat_of o)) went

pub guarded_stops : (part : Part) (q : ℕ) (g : Guarded) (cpu : Cpu) (steps crossings : ℕ) (form : Form) (stop : BusStop) → IsPaged g.sram g.swap → g.line ≡ None
    → instruction_at (image_of g.layout g.words) cpu.pc ≡ Some form → is_executed form ≡ true → ReadsOwn part g cpu form → jumps_to_itself cpu.pc form && not (has_bit cpu.sreg interrupts) ≡ false
    → exec_of guarded_calls form cpu g (next_size (image_of g.layout g.words) cpu.pc) ≡ Stopped stop
    → tried (program_of part q g) (state_of g cpu steps crossings) ≡ Stops (end_at cpu.pc stop)
guarded_stops part q g cpu steps crossings form stop paged none is runs own goes stopped =
    step_tried part q g cpu steps crossings form paged none is runs own goes ∙ ap (λ o. stepped (state_of g cpu steps crossings) (over flat_of o)) stopped
