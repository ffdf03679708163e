-- Returns and jumps through Z, and an RJMP or JMP to its own address: the service owes an arrival, or halts the program.
use Rattle.std.proofs.Common.{[], ℕ, ◌≡◌, ◌+◌, ◌∷◌, ◌∙◌, true, false, length, refl, sym, ap, ap₂, subst, arith, inl, Bool}
use Rattle.std.specs.Prelude.{Some, None, ◌&&◌, ◌||◌, ◌==◌, if◌then◌else◌, not}
use Rattle.avr_isa.specs.Crossing.{is_crossing}
use Rattle.avr_isa.specs.declared.form.Form.{Form}
use Rattle.avr_exec.specs.declared.cpu.Cpu.{Cpu}
use Rattle.avr_exec.specs.Execution.{is_executed}
use Rattle.avr_exec.specs.Spaces.{Outcome, Went as WentOn, Stopped as StoppedOn}
use Rattle.avr_exec.specs.Likeness.{is_transfer}
use Rattle.sram_layout.specs.Bytes.{byte_at, with_word}
use Rattle.sram_layout.specs.Cells.{vsp_cell, count_cell}
use Rattle.sram_layout.proofs.Laws.{byte_out_of_word, word_low}
use Rattle.heap_frames.specs.Paged.{IsPaged}
use Rattle.heap_frames.proofs.SamePagingLaws.{same_paging_word, paged_same}
use Rattle.nat_template.specs.declared.shapes.TemplateShape.TheVariants.{Ret, Ind, SelfJump}
use Rattle.nat_template.specs.Stubs.{quantum_entry, return_entry, indirect_entry, self_entry}
use Rattle.nat_template.specs.Templates.{template_by}
use Rattle.flat_machine.specs.FlatMachine.{Goes, tried, next_size}
use Rattle.mem_guard.specs.Guarded.{Guarded, guarded_calls, state_of}
use Rattle.mem_guard.specs.Left.{IsKept}
use Rattle.mem_guard.proofs.GuardedStep.{guarded_goes}
use Rattle.preempt_count.specs.Counting.{crossed, count_over, is_checkpoint}
use Rattle.kernel_entry.specs.declared.kernel.Kernel.{Kernel}
use Rattle.kernel_entry.specs.declared.kernel.Served.TheVariants as answers
use Rattle.kernel_entry.proofs.LeftLaws.{word_kept}
use Rattle.step_laws.proofs.PlainLaw.{keeps_mote}
use Rattle.step_laws.proofs.AskedLaw.{Called, bus_stops, called, called_by, stop_law, owns_by, IsRun, run_there}
use Rattle.step_laws.specs.Settings.{IsSetting}
use Rattle.step_laws.specs.Links.{Links}
use Rattle.step_laws.specs.Walks.{MakesServe}
use Rattle.step_laws.specs.StepLaws.{Reaches, ShapeLaw, StepLaw, Outcome as StepOutcome, crossings_over}
use Rattle.step_laws.proofs.SameProgram.{same_byte, SameProgram, flat_same, paged_after}
use Rattle.step_laws.specs.Moves.{Serve, lines_of}
use Rattle.step_laws.specs.States.{State, mote_of}
use Rattle.step_laws.proofs.KernelCalls.{due_is, called_of, pushed_kept, serve_by, running_at}
use Rattle.step_laws.proofs.Executed.{count_crossed, same_crossed, flat_put, kept_of, executed_at, returned, executed_is}
use Rattle.avr_exec.proofs.RegistersKept.{exec_kept}
use Rattle.step_laws.proofs.CodeLaws.{form_of_shape, by_shape}
use Rattle.step_laws.specs.Numbers.{moved}
use Rattle.avr_decode.specs.Program.{instruction_at}
use Rattle.kernel_entry.specs.Parts.{core_of, descriptor, memory_of, put_back, rested, with_sram, image_held}
use Rattle.kernel_entry.specs.Services.{is_due, gone, gone_by, served, stop_of, if_instruction, execution, execution_by, halted_or_gone}
use Rattle.kernel_entry.specs.Conditions.{CanServe}
use Rattle.kernel_entry.specs.declared.kernel.Served.{Served}
use Rattle.mem_guard.proofs.LineLaws.{transfer_line}
use Rattle.kernel_entry.specs.Seen.{program, state_at}
use Rattle.kernel_entry.proofs.ShapeLaws.{runs_or_faults, is_service_jump, self_jumps, by_self_form, reads_by_mem}
use Rattle.kernel_entry.proofs.RowLaws.{transfers}
use Rattle.avr_isa.specs.declared.form.Form.TheVariants as forms
use Rattle.flat_machine.proofs.ReadLaws.{reads_program}
use Rattle.avr_flags.specs.Status.{has_bit, interrupts}
use Rattle.nat_template.specs.Shapes.{shape_of_form}
use Rattle.flat_machine.proofs.MachineLaws.{tried_halt}
use Rattle.kernel_entry.specs.declared.kernel.Stop.TheVariants as stops

-- the answer, by the outcome of the execution
abbrev pub gone_to : Kernel → ℕ → Outcome Guarded Cpu → Served × Kernel
gone_to k a (WentOn cpu g) = (answers.Goto cpu.pc None, with_sram (put_back k cpu g) (crossed k.quantum a cpu.pc (with_word g.sram vsp_cell cpu.sp)))
gone_to k a (StoppedOn stop) = (answers.Stopped (stop_of a stop), rested k)

-- the service owes an arrival
pub go_law : (links : Links) (x : State) (a v entry : ℕ) (form : Form) (cpu : Cpu) (g : Guarded) → (entry == quantum_entry) ≡ false → IsSetting links x a v → Called x a v entry
    → CanServe (called x v entry)
    → IsRun x.kernel a form → reads_program form ≡ false → executed_at (called x v entry) a form ≡ WentOn cpu g → g.line ≡ None
    → served (called x v entry) ≡ gone_to (called x v entry) a (WentOn cpu g) → StepLaw links x a
unfolding lines_of crossed moved
go_law links x a v entry form cpu g other s c can f reads went quiet answer =
    let k = x.kernel in
    let image = image_held k in
    let kc = called x v entry in
    let y = called_of x v entry in
    let ram = k.mote.sram in
    let kept : IsKept (memory_of kc) g = kept_of kc a form cpu g c.can.paged went in
    let size' : length g.sram ≡ 4096 = kept.paged.sized.sram in
    let m = with_word g.sram vsp_cell cpu.sp in
    let put = returned kc cpu g entry in
    let k2 = with_sram put (crossed k.quantum a cpu.pc m) in
    let z : State = record { kernel = k2; owed = Some (record { target = cpu.pc; stub = None; due = is_due kc }); end = None; torn = None } in
    let served' : MakesServe y None false z = serve_by y (answers.Goto cpu.pc None, k2) (running_at x _ _ s.ready.running) can answer in
    let count' : byte_at m count_cell ≡ byte_at ram count_cell = byte_out_of_word g.sram vsp_cell count_cell cpu.sp (omega arith) (omega arith) (λ e. omega arith)
    (λ e. omega arith) ∙ kept.cells count_cell (omega arith) (omega arith)
    ∙ pushed_kept ram (v + 2) count_cell (omega arith) in
    let due' : is_due kc ≡ is_checkpoint a cpu.pc (byte_at ram count_cell) =
    due_is kc (answers.Goto cpu.pc None, k2) answer
    ∙ ap₂ (λ e w. e || (is_crossing w cpu.pc && (byte_at kc.mote.sram count_cell == 1))) other c.behind
    ∙ ap (λ n. is_crossing a cpu.pc && (n == 1)) (pushed_kept ram (v + 2) count_cell (omega arith)) in
    let same2 : SameProgram put.mote k2.mote = same_crossed put k.quantum a cpu.pc m refl in
    let paged2 : IsPaged put.mote.sram put.mote.swap = paged_same g.sram m g.swap (same_paging_word g.sram vsp_cell cpu.sp (omega arith) (inl (omega arith))) kept.paged in
    let registers' : length cpu.r ≡ length k.mote.cpu.r = exec_kept guarded_calls form (core_of kc a) cpu (memory_of kc) g (next_size image a) went in
    record {
      end = z;
      first = None;
      rest = Serve None false ∷ [];
      line = None;
      walk = (y, c.first, (z, served', refl));
      few = omega arith;
      serves = omega arith;
      lines = refl;
      keeps = keeps_mote x z refl refl kept.slots (paged_after put.mote k2.mote same2 paged2) registers' refl (omega (arith, kept.polls))
          (λ b low high. same_byte same2 b (omega arith) ∙ word_kept g.sram cpu.sp b (omega arith)
          ∙ kept.tables b (omega arith) high ∙ pushed_kept ram (v + 2) b (omega arith))
          (omega (arith, same_byte same2 vsp_cell (omega arith), word_low g.sram vsp_cell cpu.sp (omega arith) (omega arith)));
      outcome = StepOutcome.Went cpu.pc (record {
        wakes = false;
        silent = λ e. absurd (cc);
        fresh = λ e. absurd (cc);
        polls = λ e. kept.polls;
        going = refl;
        original = λ n p.
            ap (tried (program k)) (sym (flat_same k (rested kc) a n p c.same))
            ∙ guarded_goes _ _ (memory_of kc) g (core_of kc a) cpu n p form c.can.paged refl f.is f.runs (owns_by kc a form reads) f.apart went
            ∙ ap (λ l. Goes l (state_of g cpu (n + 1) (crossings_over a cpu.pc p))) quiet
            ∙ ap (Goes None) (sym (flat_put kc cpu g entry (n + 1) (crossings_over a cpu.pc p) size') ∙ sym (flat_same put k2 cpu.pc (n + 1) (crossings_over a cpu.pc p) same2));
        reaches = subst (λ d. Reaches links cpu.pc d z) due' (Reaches.Owing None (λ e. refl) refl tt);
        count = count_crossed k.quantum a cpu.pc m (is_crossing a cpu.pc) refl (omega arith) ∙ ap (λ c. count_over k.quantum a cpu.pc c) count';
        unstopped = refl;
        reset = λ crosses one n. refl;
      });
    }

-- what transfers control reads no word of the program
transfer_reads : (form : Form) → is_transfer form ≡ true → reads_program form ≡ false
unfolding is_transfer
transfer_reads forms.Lpm0 is = absurd (cc)
transfer_reads forms.Elpm0 is = absurd (cc)
transfer_reads (forms.Lpm d inc) is = absurd (cc)
transfer_reads (forms.Elpm d inc) is = absurd (cc)
transfer_reads _ is = refl

-- and writes no line
gone_quiet : (k : Kernel) (a : ℕ) (form : Form) (cpu : Cpu) (g : Guarded) → is_transfer form ≡ true → executed_at k a form ≡ WentOn cpu g → g.line ≡ None
gone_quiet k a form cpu g transfers went = transfer_line form (core_of k a) cpu (memory_of k) g (next_size (image_held k) a) transfers went

gone_by_is : (k : Kernel) (a : ℕ) (o : Outcome Guarded Cpu) → descriptor k ≡ a → gone_by k (execution_by k o).0 (execution_by k o).1 ≡ gone_to k a o
gone_by_is k a (WentOn cpu g) behind = ap (λ w. (answers.Goto cpu.pc None, with_sram (put_back k cpu g) (crossed k.quantum w cpu.pc (with_word g.sram vsp_cell cpu.sp)))) behind
gone_by_is k a (StoppedOn stop) behind = ap (λ w. (answers.Stopped (stop_of w stop), rested k)) behind

gone_is : (k : Kernel) (a : ℕ) (form : Form) (o : Outcome Guarded Cpu) → descriptor k ≡ a → instruction_at (image_held k) a ≡ Some form → executed_at k a form ≡ o → gone k ≡ gone_to k a o
unfolding gone
gone_is k a form o behind is done =
    ap (λ i. if_instruction k i (λ form. gone_by k (execution k form).0 (execution k form).1)) (ap (instruction_at (image_held k)) behind ∙ is)
    ∙ ap (λ o. gone_by k (execution_by k o).0 (execution_by k o).1) (executed_is k a form behind ∙ done)
    ∙ gone_by_is k a o behind

pub gone_law : (links : Links) (x : State) (a v entry : ℕ) (form : Form) (o : Outcome Guarded Cpu) → (entry == quantum_entry) ≡ false → executed_at (called x v entry) a form ≡ o
    → IsSetting links x a v → Called x a v entry → CanServe (called x v entry)
    → IsRun x.kernel a form → is_transfer form ≡ true → served (called x v entry) ≡ gone (called x v entry) → StepLaw links x a
gone_law links x a v entry form (WentOn cpu g) other done s c can f h serves =
    go_law links x a v entry form cpu g other s c can f (transfer_reads form h) done (gone_quiet (called x v entry) a form cpu g h done)
    (serves ∙ gone_is (called x v entry) a form (WentOn cpu g) c.behind f.is done)
gone_law links x a v entry form (StoppedOn stop) other done s c can f h serves =
    stop_law links x a v entry (stop_of a stop) s c can (serves ∙ gone_is (called x v entry) a form (StoppedOn stop) c.behind f.is done)
    (bus_stops links x a v entry form stop s c f (transfer_reads form h) done)

pub ret_law : ShapeLaw Ret
unfolding template_by served
ret_law links x a v s shape =
    let image = image_held x.kernel in
    let some = form_of_shape Ret a (instruction_at image a) shape (λ e. cc) in
    let form : Form = some.0 in
    let c = called_by links x a v return_entry [] s (by_shape image a _ shape) in
    gone_law links x a v return_entry form _ refl refl s c (CanServe.AtReturn refl (c.shape ∙ shape) c.can c.counts) (run_there x.kernel a form _ some.1 some.2 (λ e. cc) (λ e. cc))
    (transfers a form (ap is_service_jump some.2)) refl

pub ind_law : ShapeLaw Ind
unfolding template_by served
ind_law links x a v s shape =
    let image = image_held x.kernel in
    let some = form_of_shape Ind a (instruction_at image a) shape (λ e. cc) in
    let form : Form = some.0 in
    let c = called_by links x a v indirect_entry [] s (by_shape image a _ shape) in
    gone_law links x a v indirect_entry form _ refl refl s c (CanServe.AtIndirect refl (c.shape ∙ shape) c.can c.counts) (run_there x.kernel a form _ some.1 some.2 (λ e. cc) (λ e. cc))
    (transfers a form (ap is_service_jump some.2)) refl

halted_is : (k : Kernel) (b : Bool) → has_bit k.mote.cpu.sreg interrupts ≡ b → halted_or_gone k ≡ (if b then gone k else (answers.Stopped (stops.Halted (descriptor k)), rested k))
unfolding halted_or_gone
halted_is k b is = ap (λ b. if b then gone k else (answers.Stopped (stops.Halted (descriptor k)), rested k)) is

self_by : (links : Links) (x : State) (a v : ℕ) (form : Form) (b : Bool) → has_bit (mote_of x).cpu.sreg interrupts ≡ b → IsSetting links x a v → Called x a v self_entry
    → CanServe (called x v self_entry)
    → instruction_at (image_held x.kernel) a ≡ Some form → is_executed form ≡ true → shape_of_form a form ≡ SelfJump → StepLaw links x a
unfolding served is_transfer
self_by links x a v form true on s c can is runs shape =
    gone_law links x a v self_entry form _ refl refl s c can (record { is = is; runs = runs; apart = ap₂ (λ j i. j && not i) (self_jumps a form shape) on })
    (by_self_form (λ f. is_transfer f ≡ true) a (λ k same. refl) (λ t same. refl) form shape) (halted_is (called x v self_entry) true on)
self_by links x a v form false off s c can is runs shape =
    let k = x.kernel in
    let kc = called x v self_entry in
    stop_law links x a v self_entry (stops.Halted a) s c can (halted_is kc false off ∙ ap (λ w. (answers.Stopped (stops.Halted w), rested kc)) c.behind)
    (λ n m. tried_halt (program k) (state_at k a n m) form is runs (owns_by k a form (reads_by_mem a form (λ e. let e' = sym shape ∙ e in cc))) (self_jumps a form shape) off)

pub self_law : ShapeLaw SelfJump
unfolding template_by
self_law links x a v s shape =
    let image = image_held x.kernel in
    let some = form_of_shape SelfJump a (instruction_at image a) shape (λ e. cc) in
    let form : Form = some.0 in
    let c = called_by links x a v self_entry [] s (by_shape image a _ shape) in
    self_by links x a v form _ refl s c (CanServe.AtSelf refl (c.shape ∙ shape) c.can c.counts) some.1 (runs_or_faults a form (λ e. let e' = sym some.2 ∙ e in cc)) some.2
