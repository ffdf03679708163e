-- What `served` is at each entry.
use Rattle.std.proofs.Common.{◌≡◌, ℕ, Bool, true, false, cond, List, length, refl, sym, ap, ◌∙◌, arith, subst, inl}
use Rattle.std.specs.Prelude.{◌≢◌, Some, not, ◌&&◌, ◌==◌, if◌then◌else◌, max, Option, None, ◌≤◌, ◌+◌}
use Rattle.avr_isa.specs.declared.form.Form.{Form}
use Rattle.avr_flags.specs.Status.{has_bit, interrupts}
use Rattle.avr_exec.specs.declared.cpu.Cpu.{Cpu}
use Rattle.avr_exec.specs.declared.ask.Ask.{Ask}
use Rattle.avr_exec.specs.Asks.{ask_of}
use Rattle.avr_exec.specs.Spaces.{Outcome, Went, Stopped}
use Rattle.avr_exec.specs.Likeness.{Leaves as LeavesSpace}
use Rattle.flash_words.specs.Memory.{AreWords}
use Rattle.sram_layout.specs.Bytes.{with_byte, byte_count, data_word_at, with_word}
use Rattle.sram_layout.specs.Cells.{count_cell, vsp_cell}
use Rattle.sram_layout.proofs.Laws.{byte_same, byte_other, word_out_of_byte}
use Rattle.heap_frames.proofs.SamePagingLaws.{same_paging_byte, same_paging_refl, same_paging_trans, paged_same}
use Rattle.nat_template.specs.declared.shapes.TemplateShape.{TemplateShape}
use Rattle.nat_template.specs.declared.shapes.TemplateShape.TheVariants.{Mem, Call, Ret, Ind, SelfJump, Fault}
use Rattle.nat_template.specs.Shapes.{shape_of, shape_of_form}
use Rattle.nat_template.specs.Stubs.{bridge_entry, quantum_entry, mem_entry, push_return_entry, return_entry, indirect_entry, self_entry, fault_entry}
use Rattle.mem_guard.specs.Guarded.{Guarded}
use Rattle.mem_guard.specs.Left.{HeapAfter, KeepsHeap}
use Rattle.flat_machine.specs.FlatMachine.{jumps_to_itself, tried, Stops, Wakes, slept as slept_at, slept_by as slept_by_at, Asleep as AsleepEnd}
use Rattle.mote_devices.specs.State.{State}
use Rattle.mote_devices.specs.Waking.{wake, Timely}
use Rattle.mote_devices.proofs.WakeLaws.{wake_polls}
use Rattle.preempt_count.proofs.CountLaws.{count_crossed, byte_crossed}
use Rattle.flat_machine.proofs.MachineLaws.{tried_halt, tried_read}
use Rattle.mem_guard.proofs.GuardedStep.{ReadsOwn, reads_own}
use Rattle.preempt_count.specs.Counting.{crossed}
use Rattle.kernel_entry.specs.declared.kernel.Kernel.{Kernel}
use Rattle.kernel_entry.specs.declared.kernel.Served.{Served}
use Rattle.kernel_entry.specs.declared.kernel.Stop.TheVariants.{Halted, Asleep, Read}
use Rattle.kernel_entry.specs.Parts.{return_address, descriptor, instruction, memory_of, rested, with_sram}
use Rattle.avr_isa.specs.Addresses.{wrapping_sum}
use Rattle.heap_frames.specs.SamePaging.{SamePaging}
use Rattle.kernel_entry.specs.Services.{faulted, foreign_in, foreign_read, read_by, accessed, executed, execution, execution_by, if_instruction, resumed_by, resumed, gone_by, gone, halted}
use Rattle.kernel_entry.specs.Services.{halted_or_gone, quantum_ended, fault_of, is_sleep, slept, slept_by, woken, served, served_at}
use Rattle.kernel_entry.specs.Conditions.{CanServe, CanExecute, IsCalled, shape_behind, executes}
use Rattle.kernel_entry.specs.Seen.{View, program, state_at}
use Rattle.kernel_entry.specs.Left.{Leaves, LeavesHeap}
use Rattle.kernel_entry.specs.Rows.{SleptBy, Bridges, EndsQuantum, Executes, PushesReturn, Returns, GoesThrough, LoopsOrHalts, Faults, AsTried, ReadBy}
use Rattle.kernel_entry.proofs.Answering.{called, called_by, elsewhere}
use Rattle.kernel_entry.proofs.LeftLaws.{leaves_core, Kept, kept, leaves_rested, leaves_pc, leaves_sram, leaves_crossed, leaves_execution, leaves_heap, same_stored, same_crossed, view_sram}
use Rattle.kernel_entry.proofs.LeftLaws.{view_crossed, core_here}
use Rattle.kernel_entry.proofs.ShapeLaws.{is_service_jump, by_service_jump, by_self_form, jumps_on, self_jumps, reads_by_mem}
use Rattle.kernel_entry.proofs.RowLaws.{resumes_row, goes_row, executed_row, pushed_row, popped_row, through_row, self_row, resumes_tried, goes_tried, transfers, self_transfers, counted}
use Rattle.kernel_entry.proofs.FaultLaws.{fault_tried, sleep_tried}

-- the shape by the entry
abbrev shape_for : ℕ → TemplateShape
shape_for entry =
    if entry == mem_entry then Mem
    else if entry == push_return_entry then Call
    else if entry == return_entry then Ret
    else if entry == indirect_entry then Ind
    else if entry == self_entry then SelfJump
    else Fault

-- an entry that executes: its instruction, with its shape
pub record Serving (k : Kernel) (shape : TemplateShape) : Type 0 where
  pub called : IsCalled k
  pub shaped : shape_of_form (descriptor k) called.form ≡ shape

-- a fact of the answer and of the kernel behind it, by an equation of both
pub along : (P : Served → Kernel → Type 0) (x y : Served × Kernel) → x ≡ y → P y.0 y.1 → P x.0 x.1
along P x y is fact = let Q : Served × Kernel → Type 0 = λ z. P z.0 z.1 in subst Q (sym is) fact

count_written : (m : List ℕ) (q : ℕ) → data_word_at (with_byte m count_cell q) vsp_cell ≡ data_word_at m vsp_cell
count_written m q = word_out_of_byte m count_cell vsp_cell q (omega arith) (omega arith) (λ e. omega arith) (λ e. omega arith)

same_count : (m : List ℕ) (q : ℕ) → SamePaging m (with_byte m count_cell q)
same_count m q = same_paging_byte m count_cell q (omega arith) (inl (omega arith))

-- what is asked keeps the heap, and two kernels have the same one
abbrev KeepsAsked : Kernel → Ask → Type 0
KeepsAsked k ask = (after : Guarded) → HeapAfter (memory_of k) ask after → KeepsHeap (memory_of k) after

abbrev SameHeap : Kernel → Kernel → Type 0
SameHeap k next = SamePaging k.mote.sram next.mote.sram × (next.mote.swap ≡ k.mote.swap)

and_off : (b : Bool) → b && false ≡ false
and_off true = refl
and_off false = refl

module _ (k : Kernel) where
  -- the service by the entry
  pub at_entry : (entry : ℕ) → k.mote.cpu.pc ≡ entry → served k ≡ served_at entry k
  unfolding served
  at_entry entry is = ap (λ pc. served_at pc k) is

  shape_at : CanServe k → executes k.mote.cpu.pc ≡ true → shape_behind k ≡ shape_for k.mote.cpu.pc
  shape_at (CanServe.AtBridge is) at = absurd (elsewhere executes k.mote.cpu.pc 0xF000 is at refl)
  shape_at (CanServe.AtQuantum is) at = absurd (elsewhere executes k.mote.cpu.pc 0xF002 is at refl)
  shape_at (CanServe.AtMem is shape can) at = shape ∙ sym (ap shape_for is)
  shape_at (CanServe.AtPushReturn is shape can) at = shape ∙ sym (ap shape_for is)
  shape_at (CanServe.AtReturn is shape can count) at = shape ∙ sym (ap shape_for is)
  shape_at (CanServe.AtIndirect is shape can count) at = shape ∙ sym (ap shape_for is)
  shape_at (CanServe.AtSelf is shape can count) at = shape ∙ sym (ap shape_for is)
  shape_at (CanServe.AtFault is shape can) at = absurd (elsewhere executes k.mote.cpu.pc 0xF00E is at refl)

  pub serving : (shape : TemplateShape) → shape_behind k ≡ shape → shape ≢ Fault → CanExecute k → Serving k shape
  serving shape is apart can =
      let c = called_by k (λ e. apart (sym is ∙ e)) can in
      record { called = c; shaped = sym (ap (shape_of (descriptor k)) c.is) ∙ is }

  resumed_as : (form : Form) → instruction k ≡ Some form → resumed k ≡ resumed_by k (execution k form).0 (execution k form).1
  unfolding resumed
  resumed_as form at = ap (λ i. if_instruction k i (λ f. resumed_by k (execution k f).0 (execution k f).1)) at

  gone_as : (form : Form) → instruction k ≡ Some form → gone k ≡ gone_by k (execution k form).0 (execution k form).1
  unfolding gone
  gone_as form at = ap (λ i. if_instruction k i (λ f. gone_by k (execution k f).0 (execution k f).1)) at

  pub looped_as : (b : Bool) → has_bit k.mote.cpu.sreg interrupts ≡ b → halted_or_gone k ≡ (if b then gone k else halted k)
  unfolding halted_or_gone
  looped_as b is = ap (λ b. cond b (gone k) (halted k)) is

  -- an entry that executes has an instruction of its shape
  serving_at : (entry : ℕ) (shape : TemplateShape) → CanServe k → k.mote.cpu.pc ≡ entry → executes k.mote.cpu.pc ≡ true → shape_for entry ≡ shape → shape ≢ Fault → Serving k shape
  serving_at entry shape can here runs is apart = serving shape (shape_at can runs ∙ ap shape_for here ∙ is) apart (called k can runs).can

  -- the service of an instruction, by its execution
  resumes_at : (form : Form) (entry : ℕ) → k.mote.cpu.pc ≡ entry → served_at entry k ≡ resumed k → instruction k ≡ Some form → served k ≡ resumed_by k (execution k form).0 (execution k form).1
  resumes_at form entry here at is = at_entry entry here ∙ at ∙ resumed_as form is

  goes_at : (form : Form) (entry : ℕ) → k.mote.cpu.pc ≡ entry → served_at entry k ≡ gone k → instruction k ≡ Some form → served k ≡ gone_by k (execution k form).0 (execution k form).1
  goes_at form entry here at is = at_entry entry here ∙ at ∙ gone_as form is

  -- MEM, by the word that may not be read
  pub accesses_at : (foreign : Option ℕ) → k.mote.cpu.pc ≡ mem_entry → foreign_read k ≡ foreign → served k ≡ read_by k foreign
  unfolding accessed
  accesses_at foreign here is = at_entry mem_entry here ∙ ap (read_by k) is

  reads_at : (a : ℕ) → k.mote.cpu.pc ≡ mem_entry → foreign_read k ≡ Some a → served k ≡ (Served.Stopped (Read (descriptor k) a), rested k)
  reads_at a here is = accesses_at (Some a) here is

  executes_at : (form : Form) → k.mote.cpu.pc ≡ mem_entry → foreign_read k ≡ None → instruction k ≡ Some form → served k ≡ resumed_by k (execution k form).0 (execution k form).1
  executes_at form here is at = accesses_at None here is ∙ resumed_as form at

  mem_does : (s : Serving k Mem) (foreign : Option ℕ) → k.mote.cpu.pc ≡ mem_entry → foreign_read k ≡ foreign → ReadBy k (served k).0 (served k).1 s.called.form foreign
  mem_does s None here is =
      let form = s.called.form in
      let e = resumed_by k (execution k form).0 (execution k form).1 in
      rw (executes_at form here is s.called.is) (executed_row k e.1 e.0 form s.shaped (resumes_row k form s.called.can.paged))
  mem_does s (Some a) here is = rw (reads_at a here is) (record { answer = refl; stays = refl })

  pub mem_row : CanServe k → k.mote.cpu.pc ≡ mem_entry → Executes k (served k).0 (served k).1
  mem_row can here =
      let s = serving_at mem_entry Mem can here (ap executes here) refl (λ e. cc) in
      record { form = s.called.form; is = s.called.is; does = mem_does s (foreign_read k) here refl }

  -- PUSHRET
  pub push_row : CanServe k → k.mote.cpu.pc ≡ push_return_entry → PushesReturn k (served k).0 (served k).1
  push_row can here =
      let s = serving_at push_return_entry Call can here (ap executes here) refl (λ e. cc) in
      let form = s.called.form in
      let e = resumed_by k (execution k form).0 (execution k form).1 in
      record {
        form = form;
        is = s.called.is;
        does = rw (resumes_at form push_return_entry here refl s.called.is)
            (pushed_row k e.1 e.0 form (ap is_service_jump s.shaped) s.shaped (resumes_row k form s.called.can.paged));
      }

  -- RET
  pub return_row : CanServe k → k.mote.cpu.pc ≡ return_entry → Returns k (served k).0 (served k).1
  return_row can here =
      let s = serving_at return_entry Ret can here (ap executes here) refl (λ e. cc) in
      let form = s.called.form in
      let e = gone_by k (execution k form).0 (execution k form).1 in
      record {
        form = form;
        is = s.called.is;
        does = rw (goes_at form return_entry here refl s.called.is)
            (popped_row k e.1 e.0 form (ap is_service_jump s.shaped) s.shaped (goes_row k form s.called.can.paged));
      }

  -- IND
  pub indirect_row : CanServe k → k.mote.cpu.pc ≡ indirect_entry → GoesThrough k (served k).0 (served k).1
  indirect_row can here =
      let s = serving_at indirect_entry Ind can here (ap executes here) refl (λ e. cc) in
      let form = s.called.form in
      let e = gone_by k (execution k form).0 (execution k form).1 in
      record {
        form = form;
        is = s.called.is;
        does = rw (goes_at form indirect_entry here refl s.called.is)
            (through_row k e.1 e.0 form (ap is_service_jump s.shaped) s.shaped (goes_row k form s.called.can.paged));
      }

  -- SELF
  loops_at : (form : Form) → k.mote.cpu.pc ≡ self_entry → instruction k ≡ Some form → has_bit k.mote.cpu.sreg interrupts ≡ true → served k ≡ gone_by k (execution k form).0 (execution k form).1
  loops_at form here is on = at_entry self_entry here ∙ looped_as true on ∙ gone_as form is

  halts_at : k.mote.cpu.pc ≡ self_entry → has_bit k.mote.cpu.sreg interrupts ≡ false → served k ≡ (Served.Stopped (Halted (descriptor k)), rested k)
  halts_at here off = at_entry self_entry here ∙ looped_as false off

  pub self_entry_row : CanServe k → k.mote.cpu.pc ≡ self_entry → LoopsOrHalts k (served k).0 (served k).1
  self_entry_row can here =
      let s = serving_at self_entry SelfJump can here (ap executes here) refl (λ e. cc) in
      let form = s.called.form in
      let e = gone_by k (execution k form).0 (execution k form).1 in
      record {
        on = λ on. rw (loops_at form here s.called.is on) (self_row k e.1 e.0 form s.shaped (goes_row k form s.called.can.paged));
        off = λ off. rw (halts_at here off) (record { answer = refl; stays = refl });
      }

  -- BRIDGE, FAULT and QUANTUM
  pub bridge_row : k.mote.cpu.pc ≡ bridge_entry → Bridges k (served k).0 (served k).1
  bridge_row here = rw (at_entry bridge_entry here) (record { answer = refl; stays = refl })

  slept_by_row : (o : Option State) → length k.mote.sram ≡ byte_count → SleptBy k (slept_by k o).0 (slept_by k o).1 o
  slept_by_row None size = record { answer = refl; stays = refl }
  slept_by_row (Some devices) size = record {
    answer = refl;
    pc = refl;
    view = ap (λ (v : View). record v { devices = devices }) (view_crossed (rested k) k.quantum (descriptor k) (wrapping_sum (descriptor k) 1));
    count = count_crossed k.quantum (descriptor k) (wrapping_sum (descriptor k) 1) k.mote.sram (omega (arith, size));
  }

  pub slept_is : (b : Bool) → has_bit k.mote.cpu.sreg interrupts ≡ b → slept k ≡ cond b (slept_by k (wake k.mote.devices)) (Served.Stopped (Asleep (descriptor k)), rested k)
  slept_is b is = ap (λ (c : Bool). cond c (slept_by k (wake k.mote.devices)) (Served.Stopped (Asleep (descriptor k)), rested k)) is

  pub faulted_is : (b : Bool) → is_sleep (instruction k) ≡ b → faulted k ≡ cond b (slept k) (Served.Stopped (fault_of (descriptor k) (instruction k)), rested k)
  faulted_is b is = ap (λ (c : Bool). cond c (slept k) (Served.Stopped (fault_of (descriptor k) (instruction k)), rested k)) is

  faulted_row : length k.mote.sram ≡ byte_count → Faults k (faulted k).0 (faulted k).1
  faulted_row size = record {
    sleeps = λ is on. rw (faulted_is true is ∙ slept_is true on) (slept_by_row (wake k.mote.devices) size);
    off = λ is out. rw (faulted_is true is ∙ slept_is false out) (record { answer = refl; stays = refl });
    other = λ is. rw (faulted_is false is) (record { answer = refl; stays = refl });
  }

  pub fault_row : length k.mote.sram ≡ byte_count → k.mote.cpu.pc ≡ fault_entry → Faults k (served k).0 (served k).1
  fault_row size here = rw (at_entry fault_entry here) (faulted_row size)

  quantum_does : length k.mote.sram ≡ byte_count → EndsQuantum k (quantum_ended k).0 (quantum_ended k).1
  quantum_does size =
      let m = k.mote.sram in
      let restored = with_sram (quantum_ended k).1 m in
      record {
        answer = refl;
        pc = refl;
        view = view_sram restored (with_byte m count_cell k.quantum) (same_count m k.quantum) (λ a from to. byte_other m count_cell a k.quantum (omega arith) (omega arith) (λ e. omega arith))
            (count_written m k.quantum);
        count = byte_same m count_cell k.quantum (omega arith) (omega arith);
        others = λ b from. byte_other m count_cell b k.quantum (omega arith) (omega arith) (λ e. omega arith);
      }

  pub quantum_row : length k.mote.sram ≡ byte_count → k.mote.cpu.pc ≡ quantum_entry → EndsQuantum k (served k).0 (served k).1
  quantum_row size here = rw (at_entry quantum_entry here) (quantum_does size)

  -- what every service leaves
  resumed_leaves : (ask : Ask) (o : Outcome Guarded Cpu) → Leaves k (execution_by k o).1 → Leaves k (resumed_by k (execution_by k o).0 (execution_by k o).1).1
  resumed_leaves ask (Went core memory) left = leaves_pc k (execution_by k (Went core memory)).1 (wrapping_sum (return_address k) 1) left
  resumed_leaves ask (Stopped stop) left = left

  gone_leaves : (ask : Ask) (o : Outcome Guarded Cpu) → Leaves k (execution_by k o).1 → Leaves k (gone_by k (execution_by k o).0 (execution_by k o).1).1
  gone_leaves ask (Went core memory) left = leaves_crossed k (execution_by k (Went core memory)).1 k.quantum (descriptor k) core.pc left
  gone_leaves ask (Stopped stop) left = left

  execution_left : (form : Form) → CanExecute k → Leaves k (execution k form).1
  execution_left form can = leaves_execution k (ask_of form (core_here k)) (executed k form) can.paged (kept k form can.paged)

  resume_left : (entry : ℕ) → IsCalled k → k.mote.cpu.pc ≡ entry → served_at entry k ≡ resumed k → Leaves k (served k).1
  resume_left entry c here at =
      rw (resumes_at c.form entry here at c.is) (resumed_leaves (ask_of c.form (core_here k)) (executed k c.form) (execution_left c.form c.can))

  access_left : (foreign : Option ℕ) → IsCalled k → k.mote.cpu.pc ≡ mem_entry → foreign_read k ≡ foreign → Leaves k (served k).1
  access_left None c here is =
      rw (executes_at c.form here is c.is) (resumed_leaves (ask_of c.form (core_here k)) (executed k c.form) (execution_left c.form c.can))
  access_left (Some a) c here is = rw (reads_at a here is) (leaves_rested k)

  going_left : (form : Form) → CanExecute k → served k ≡ gone_by k (execution k form).0 (execution k form).1 → Leaves k (served k).1
  going_left form can is = rw is (gone_leaves (ask_of form (core_here k)) (executed k form) (execution_left form can))

  go_left : (entry : ℕ) → IsCalled k → k.mote.cpu.pc ≡ entry → served_at entry k ≡ gone k → Leaves k (served k).1
  go_left entry c here at = going_left c.form c.can (goes_at c.form entry here at c.is)

  loop_left : (b : Bool) → has_bit k.mote.cpu.sreg interrupts ≡ b → IsCalled k → k.mote.cpu.pc ≡ self_entry → Leaves k (served k).1
  loop_left true on c here = going_left c.form c.can (loops_at c.form here c.is on)
  loop_left false off c here = rw (halts_at here off) (leaves_rested k)

  quantum_left : Leaves k (quantum_ended k).1
  quantum_left =
      let m = k.mote.sram in
      let before = with_sram (quantum_ended k).1 m in
      leaves_sram k before (with_byte m count_cell k.quantum) (leaves_core k (quantum_ended k).1.mote.cpu refl)
      (same_count m k.quantum) (λ b from to. byte_other m count_cell b k.quantum (omega arith) (omega arith) (λ e. omega arith))

  -- FAULT
  leaves_woken : (to : ℕ) (devices : State) → k.mote.cpu.pc ≡ fault_entry → devices.polls ≤ max k.mote.devices.polls 4294967295 → Leaves k (woken k to devices)
  leaves_woken to devices here polls =
      let same = same_crossed k.quantum (descriptor k) to k.mote.sram in
      record {
        stack = refl;
        flash = refl;
        layout = refl;
        part = refl;
        quantum = refl;
        slots = refl;
        size = same.size;
        tables = λ b from to'. byte_crossed k.quantum (descriptor k) to b k.mote.sram (omega arith) (λ e. omega arith);
        polls = omega arith;
        polled = λ apart. absurd (apart here);
        paged = λ paged. paged_same k.mote.sram (crossed k.quantum (descriptor k) to k.mote.sram) k.mote.swap same paged;
      }

  leaves_slept_by : (o : Option State) → k.mote.cpu.pc ≡ fault_entry → wake k.mote.devices ≡ o → Timely k.mote.devices → Leaves k (slept_by k o).1
  leaves_slept_by None here is timely = leaves_rested k
  leaves_slept_by (Some devices) here is timely = leaves_woken (wrapping_sum (descriptor k) 1) devices here (wake_polls k.mote.devices devices timely is)

  leaves_slept : (b : Bool) → k.mote.cpu.pc ≡ fault_entry → has_bit k.mote.cpu.sreg interrupts ≡ b → Timely k.mote.devices → Leaves k (slept k).1
  leaves_slept true here on timely = rw on (leaves_slept_by (wake k.mote.devices) here refl timely)
  leaves_slept false here off timely = rw off (leaves_rested k)

  leaves_faulted : k.mote.cpu.pc ≡ fault_entry → Timely k.mote.devices → (b : Bool) → is_sleep (instruction k) ≡ b → Leaves k (faulted k).1
  leaves_faulted here timely true is = rw is (leaves_slept (has_bit k.mote.cpu.sreg interrupts) here refl timely)
  leaves_faulted here timely false is = rw is (leaves_rested k)

  pub served_leaves : CanServe k → Leaves k (served k).1
  served_leaves (CanServe.AtBridge is) = rw (at_entry bridge_entry is) (leaves_rested k)
  served_leaves (CanServe.AtQuantum is) = rw (at_entry quantum_entry is) quantum_left
  served_leaves (CanServe.AtMem is shape can) = access_left (foreign_read k) (called_by k (λ e. cc) can) is refl
  served_leaves (CanServe.AtPushReturn is shape can) = resume_left push_return_entry (called_by k (λ e. cc) can) is refl
  served_leaves (CanServe.AtReturn is shape can count) = go_left return_entry (called_by k (λ e. cc) can) is refl
  served_leaves (CanServe.AtIndirect is shape can count) = go_left indirect_entry (called_by k (λ e. cc) can) is refl
  served_leaves (CanServe.AtSelf is shape can count) = loop_left (has_bit k.mote.cpu.sreg interrupts) refl (called_by k (λ e. cc) can) is
  served_leaves (CanServe.AtFault is shape can) = rw (at_entry fault_entry is) (leaves_faulted is can.timely (is_sleep (instruction k)) refl)

  -- every service but MEM leaves the heap
  jump_keeps : (pc : ℕ) (form : Form) → is_service_jump (shape_of_form pc form) ≡ true → KeepsAsked k (ask_of form (core_here k))
  unfolding ask_of
  jump_keeps pc form is =
      by_service_jump (λ f. KeepsAsked k (ask_of f (core_here k))) (λ d after left. left) (λ a after left. left) (λ after left. left) (λ after left. left) (λ after left. left)
      (λ after left. left) pc form is

  self_keeps : (pc : ℕ) (form : Form) → shape_of_form pc form ≡ SelfJump → KeepsAsked k (ask_of form (core_here k))
  unfolding ask_of
  self_keeps pc form is = by_self_form (λ f. KeepsAsked k (ask_of f (core_here k))) pc (λ d here after left. left) (λ a here after left. left) form is

  resumed_heap : (ask : Ask) (o : Outcome Guarded Cpu) → KeepsAsked k ask → LeavesSpace (Kept k ask) o → SameHeap k (resumed_by k (execution_by k o).0 (execution_by k o).1).1
  resumed_heap ask (Went core memory) keeps left =
      let asked = keeps memory left.1 in
      (same_paging_trans k.mote.sram memory.sram (with_word memory.sram vsp_cell core.sp) asked.frames (same_stored memory.sram core.sp), asked.swap)
  resumed_heap ask (Stopped stop) keeps left = (same_paging_refl k.mote.sram, refl)

  gone_heap : (ask : Ask) (o : Outcome Guarded Cpu) → KeepsAsked k ask → LeavesSpace (Kept k ask) o → SameHeap k (gone_by k (execution_by k o).0 (execution_by k o).1).1
  gone_heap ask (Went core memory) keeps left =
      let asked = keeps memory left.1 in
      let m = with_word memory.sram vsp_cell core.sp in (
        same_paging_trans k.mote.sram m (crossed k.quantum (descriptor k) core.pc m)
            (same_paging_trans k.mote.sram memory.sram m asked.frames (same_stored memory.sram core.sp)) (same_crossed k.quantum (descriptor k) core.pc m),
        asked.swap,
      )
  gone_heap ask (Stopped stop) keeps left = (same_paging_refl k.mote.sram, refl)

  going_heap : (c : IsCalled k) → KeepsAsked k (ask_of c.form (core_here k)) → served k ≡ gone_by k (execution k c.form).0 (execution k c.form).1 → SameHeap k (served k).1
  going_heap c keeps is = rw is (gone_heap (ask_of c.form (core_here k)) (executed k c.form) keeps (kept k c.form c.can.paged))

  loop_heap : (b : Bool) → has_bit k.mote.cpu.sreg interrupts ≡ b → Serving k SelfJump → k.mote.cpu.pc ≡ self_entry → SameHeap k (served k).1
  loop_heap true on s here = going_heap s.called (self_keeps (descriptor k) s.called.form s.shaped) (loops_at s.called.form here s.called.is on)
  loop_heap false off s here = rw (halts_at here off) (same_paging_refl k.mote.sram, refl)

  same_slept_by : (o : Option State) → SameHeap k (slept_by k o).1
  same_slept_by None = (same_paging_refl k.mote.sram, refl)
  same_slept_by (Some devices) = (same_crossed k.quantum (descriptor k) (wrapping_sum (descriptor k) 1) k.mote.sram, refl)

  same_slept : (b : Bool) → has_bit k.mote.cpu.sreg interrupts ≡ b → SameHeap k (slept k).1
  same_slept true on = rw on (same_slept_by (wake k.mote.devices))
  same_slept false off = rw off (same_paging_refl k.mote.sram, refl)

  same_faulted : (b : Bool) → is_sleep (instruction k) ≡ b → SameHeap k (faulted k).1
  same_faulted true is = rw is (same_slept (has_bit k.mote.cpu.sreg interrupts) refl)
  same_faulted false is = rw is (same_paging_refl k.mote.sram, refl)

  same_heap : CanServe k → k.mote.cpu.pc ≢ mem_entry → SameHeap k (served k).1
  same_heap (CanServe.AtBridge is) apart = rw (at_entry bridge_entry is) (same_paging_refl k.mote.sram, refl)
  same_heap (CanServe.AtQuantum is) apart = rw (at_entry quantum_entry is) (same_count k.mote.sram k.quantum, refl)
  same_heap (CanServe.AtMem is shape can) apart = absurd (apart is)
  same_heap (CanServe.AtPushReturn is shape can) apart =
      let s = serving Call shape (λ e. cc) can in
      let form = s.called.form in
      let e = resumed_by k (execution k form).0 (execution k form).1 in
      rw (resumes_at form push_return_entry is refl s.called.is)
      (resumed_heap (ask_of form (core_here k)) (executed k form) (jump_keeps (descriptor k) form (ap is_service_jump s.shaped)) (kept k form can.paged))
  same_heap (CanServe.AtReturn is shape can count) apart =
      let s = serving Ret shape (λ e. cc) can in
      going_heap s.called (jump_keeps (descriptor k) s.called.form (ap is_service_jump s.shaped)) (goes_at s.called.form return_entry is refl s.called.is)
  same_heap (CanServe.AtIndirect is shape can count) apart =
      let s = serving Ind shape (λ e. cc) can in
      going_heap s.called (jump_keeps (descriptor k) s.called.form (ap is_service_jump s.shaped)) (goes_at s.called.form indirect_entry is refl s.called.is)
  same_heap (CanServe.AtSelf is shape can count) apart = loop_heap (has_bit k.mote.cpu.sreg interrupts) refl (serving SelfJump shape (λ e. cc) can) is
  same_heap (CanServe.AtFault is shape can) apart = rw (at_entry fault_entry is) (same_faulted (is_sleep (instruction k)) refl)

  pub served_leaves_heap : CanServe k → k.mote.cpu.pc ≢ mem_entry → LeavesHeap k (served k).1
  served_leaves_heap can apart =
      let same = same_heap can apart in
      leaves_heap k (served k).1 (served_leaves can) same.0 same.1

  -- the original program's try: an instruction of another shape than MEM's reads no word of the program
  shape_own : (shape : TemplateShape) → (s : Serving k shape) → shape ≢ Mem → ReadsOwn k.part (memory_of k) (core_here k) s.called.form
  shape_own shape s apart = reads_own k.part (memory_of k) (core_here k) s.called.form (reads_by_mem (descriptor k) s.called.form (λ is. apart (sym s.shaped ∙ is)))

  access_tried : (s : Serving k Mem) (foreign : Option ℕ) → k.mote.cpu.pc ≡ mem_entry → foreign_read k ≡ foreign → AsTried k (served k).0 (served k).1
  access_tried s None here none =
      let form = s.called.form in
      let goes = ap (λ b. b && not (has_bit k.mote.cpu.sreg interrupts)) (jumps_on (descriptor k) form (λ is. absurd (let never : Mem ≡ SelfJump = sym s.shaped ∙ is in cc))) in
      rw (executes_at form here none s.called.is)
      (resumes_tried k form (ask_of form (core_here k)) (executed k form) s.called.can.paged s.called.is s.called.runs (sym (ap (foreign_in k) s.called.is) ∙ none) goes
      (kept k form s.called.can.paged) refl)
  access_tried s (Some a) here is =
      let form = s.called.form in
      rw (reads_at a here is)
      (AsTried.StopsToo (Read (descriptor k) a) (record { answer = refl; stays = refl })
      (λ s' c. tried_read (program k) (state_at k (descriptor k) s' c) form a s.called.is s.called.runs (sym (ap (foreign_in k) s.called.is) ∙ is)))

  resuming_tried : (shape : TemplateShape) (entry : ℕ) → (s : Serving k shape) → shape ≢ Mem → shape ≢ SelfJump → k.mote.cpu.pc ≡ entry → served_at entry k ≡ resumed k
      → AsTried k (served k).0 (served k).1
  resuming_tried shape entry s other apart here at =
      let form = s.called.form in
      let goes = ap (λ b. b && not (has_bit k.mote.cpu.sreg interrupts)) (jumps_on (descriptor k) form (λ is. apart (sym s.shaped ∙ is))) in
      rw (resumes_at form entry here at s.called.is)
      (resumes_tried k form (ask_of form (core_here k)) (executed k form) s.called.can.paged s.called.is s.called.runs (shape_own shape s other) goes (kept k form s.called.can.paged) refl)

  going_tried : (shape : TemplateShape) (entry : ℕ) → Serving k shape → shape ≢ Mem → shape ≢ SelfJump → is_service_jump shape ≡ true → k.mote.cpu.pc ≡ entry → served_at entry k ≡ gone k
      → AsTried k (served k).0 (served k).1
  going_tried shape entry s other apart jumps here at =
      let form = s.called.form in
      let goes = ap (λ b. b && not (has_bit k.mote.cpu.sreg interrupts)) (jumps_on (descriptor k) form (λ is. apart (sym s.shaped ∙ is))) in
      rw (goes_at form entry here at s.called.is)
      (goes_tried k form (ask_of form (core_here k)) (executed k form) s.called.can.paged s.called.is s.called.runs (shape_own shape s other) goes
      (transfers (descriptor k) form (ap is_service_jump s.shaped ∙ jumps)) (kept k form s.called.can.paged) refl)

  loop_tried : (b : Bool) → has_bit k.mote.cpu.sreg interrupts ≡ b → Serving k SelfJump → k.mote.cpu.pc ≡ self_entry → AsTried k (served k).0 (served k).1
  loop_tried true on s here =
      let form = s.called.form in
      let e = gone_by k (execution k form).0 (execution k form).1 in
      let goes = ap (λ b. jumps_to_itself (descriptor k) form && not b) on ∙ and_off (jumps_to_itself (descriptor k) form) in
      rw (loops_at form here s.called.is on)
      (goes_tried k form (ask_of form (core_here k)) (executed k form) s.called.can.paged s.called.is s.called.runs (shape_own SelfJump s (λ e. cc)) goes (self_transfers (descriptor k) form s.shaped)
      (kept k form s.called.can.paged) refl)
  loop_tried false off s here =
      let form = s.called.form in
      rw (halts_at here off)
      (AsTried.StopsToo (Halted (descriptor k)) (record { answer = refl; stays = refl })
      (λ s' c. tried_halt (program k) (state_at k (descriptor k) s' c) form s.called.is s.called.runs (shape_own SelfJump s (λ e. cc)) (self_jumps (descriptor k) form s.shaped) off))

  -- FAULT
  woken_tried : (devices : State) → wake k.mote.devices ≡ Some devices → (s c : ℕ)
      → slept_by_at (state_at k (descriptor k) s c) (Some devices)
      ≡ Wakes (state_at (woken k (wrapping_sum (descriptor k) 1) devices) (wrapping_sum (descriptor k) 1) (s + 1) (counted k (wrapping_sum (descriptor k) 1) c))
  woken_tried devices is s c =
      let to = wrapping_sum (descriptor k) 1 in
      ap (λ (v : View). Wakes (record {
        cpu = record { r = v.registers; sreg = v.status; sp = v.stack_pointer; pc = to };
        memory = v.memory;
        devices = devices;
        pages = v.pages;
        steps = s + 1;
        crossings = counted k to c;
      })) (sym (view_crossed (rested k) k.quantum (descriptor k) to))

  -- a SLEEP by the switch of the interrupts
  slept_by_switch : (b : Bool) → has_bit k.mote.cpu.sreg interrupts ≡ b → (s c : ℕ)
      → slept_at (state_at k (descriptor k) s c) ≡ cond b (slept_by_at (state_at k (descriptor k) s c) (wake k.mote.devices)) (Stops (AsleepEnd (descriptor k)))
  slept_by_switch b is s c = ap (λ (b : Bool). cond b (slept_by_at (state_at k (descriptor k) s c) (wake k.mote.devices)) (Stops (AsleepEnd (descriptor k)))) is

  -- one that an interrupt ends
  pub sleep_woken : (devices : State) → is_sleep (instruction k) ≡ true → has_bit k.mote.cpu.sreg interrupts ≡ true → wake k.mote.devices ≡ Some devices → (s c : ℕ)
      → tried (program k) (state_at k (descriptor k) s c) ≡ Wakes
      (state_at (woken k (wrapping_sum (descriptor k) 1) devices) (wrapping_sum (descriptor k) 1) (s + 1) (counted k (wrapping_sum (descriptor k) 1) c))
  sleep_woken devices is on wakes s c =
      sleep_tried k is s c ∙ slept_by_switch true on s c
      ∙ ap (slept_by_at (state_at k (descriptor k) s c)) wakes ∙ woken_tried devices wakes s c

  -- and one that none ends
  pub sleep_never : (at : ℕ) → descriptor k ≡ at → is_sleep (instruction k) ≡ true → has_bit k.mote.cpu.sreg interrupts ≡ true → wake k.mote.devices ≡ None → (s c : ℕ)
      → tried (program k) (state_at k at s c) ≡ Stops (AsleepEnd at)
  sleep_never at here is on never s c =
      subst (λ w. tried (program k) (state_at k w s c) ≡ Stops (AsleepEnd w)) here
      (sleep_tried k is s c ∙ slept_by_switch true on s c ∙ ap (slept_by_at (state_at k (descriptor k) s c)) never)

  pub sleep_off : (at : ℕ) → descriptor k ≡ at → is_sleep (instruction k) ≡ true → has_bit k.mote.cpu.sreg interrupts ≡ false → (s c : ℕ) → tried (program k) (state_at k at s c) ≡ Stops (AsleepEnd at)
  sleep_off at here is off s c =
      subst (λ w. tried (program k) (state_at k w s c) ≡ Stops (AsleepEnd w)) here
      (sleep_tried k is s c ∙ slept_by_switch false off s c)

  slept_by_tried : (o : Option State) → wake k.mote.devices ≡ o → ((s c : ℕ) → tried (program k) (state_at k (descriptor k) s c) ≡ slept_by_at (state_at k (descriptor k) s c) o)
      → AsTried k (slept_by k o).0 (slept_by k o).1
  slept_by_tried None is tries = AsTried.StopsToo (Asleep (descriptor k)) (record { answer = refl; stays = refl }) tries
  slept_by_tried (Some devices) is tries = AsTried.WakesToo (wrapping_sum (descriptor k) 1) refl (λ s c. tries s c ∙ woken_tried devices is s c)

  slept_tried : (b : Bool) → has_bit k.mote.cpu.sreg interrupts ≡ b → ((s c : ℕ) → tried (program k) (state_at k (descriptor k) s c) ≡ slept_at (state_at k (descriptor k) s c))
      → AsTried k (slept k).0 (slept k).1
  slept_tried true on tries =
      rw on
      (slept_by_tried (wake k.mote.devices) refl (λ s c. tries s c ∙ slept_by_switch true on s c))
  slept_tried false off tries =
      rw off
      (AsTried.StopsToo (Asleep (descriptor k)) (record { answer = refl; stays = refl }) (λ s c. tries s c ∙ slept_by_switch false off s c))

  faulted_tried : AreWords k.mote.flash.words → shape_behind k ≡ Fault → (b : Bool) → is_sleep (instruction k) ≡ b → AsTried k (faulted k).0 (faulted k).1
  faulted_tried fit shape true is = rw is (slept_tried (has_bit k.mote.cpu.sreg interrupts) refl (sleep_tried k is))
  faulted_tried fit shape false is = rw is (AsTried.StopsToo (fault_of (descriptor k) (instruction k)) (record { answer = refl; stays = refl }) (fault_tried k fit shape is))

  pub served_tried : AreWords k.mote.flash.words → CanServe k → k.mote.cpu.pc ≢ bridge_entry → k.mote.cpu.pc ≢ quantum_entry → AsTried k (served k).0 (served k).1
  served_tried fit (CanServe.AtBridge is) one two = absurd (one is)
  served_tried fit (CanServe.AtQuantum is) one two = absurd (two is)
  served_tried fit (CanServe.AtMem is shape can) one two = access_tried (serving Mem shape (λ e. cc) can) (foreign_read k) is refl
  served_tried fit (CanServe.AtPushReturn is shape can) one two = resuming_tried Call push_return_entry (serving Call shape (λ e. cc) can) (λ e. cc) (λ e. cc) is refl
  served_tried fit (CanServe.AtReturn is shape can count) one two = going_tried Ret return_entry (serving Ret shape (λ e. cc) can) (λ e. cc) (λ e. cc) refl is refl
  served_tried fit (CanServe.AtIndirect is shape can count) one two = going_tried Ind indirect_entry (serving Ind shape (λ e. cc) can) (λ e. cc) (λ e. cc) refl is refl
  served_tried fit (CanServe.AtSelf is shape can count) one two = loop_tried (has_bit k.mote.cpu.sreg interrupts) refl (serving SelfJump shape (λ e. cc) can) is
  served_tried fit (CanServe.AtFault is shape can) one two = rw (at_entry fault_entry is) (faulted_tried fit shape (is_sleep (instruction k)) refl)
