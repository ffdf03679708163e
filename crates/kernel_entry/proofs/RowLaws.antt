-- The services, entry by entry: what each answers and leaves; and against the original program, they stop where it stops, and
-- else take its step.
use Rattle.std.proofs.Common.{◌≡◌, ℕ, ◌/◌, ◌%◌, ◌<◌, Bool, true, false, cond, length, refl, sym, ap, ◌∙◌, arith, ◌+◌}
use Rattle.std.specs.Prelude.{ℤ, Some, None, if◌then◌else◌, not, ◌&&◌}
use Rattle.avr_isa.specs.declared.form.Form.{Form}
use Rattle.avr_isa.specs.declared.form.Form.TheVariants as forms
use Rattle.avr_isa.specs.Instruction.{size_of}
use Rattle.avr_exec.specs.declared.cpu.Cpu.{Cpu}
use Rattle.avr_exec.specs.declared.ask.Ask.{Ask}
use Rattle.avr_exec.specs.declared.stop.BusStop.TheVariants.{Stack as StackStop}
use Rattle.avr_exec.specs.Asks.{ask_of, finish_of}
use Rattle.avr_exec.specs.declared.answer.Answer.TheVariants.{Done, Address}
use Rattle.avr_exec.specs.Execution.{exec_of, answer_of, answered_by, is_executed}
use Rattle.avr_isa.specs.Addresses.{wrapping_sum, wrapping_difference, relative}
use Rattle.avr_exec.specs.StackRules.{push_return_on, pop_return_from}
use Rattle.avr_exec.specs.Spaces.{Outcome, Went, Stopped}
use Rattle.avr_exec.specs.Likeness.{over, moved, Leaves as LeavesSpace, is_transfer}
use Rattle.avr_exec.proofs.OtherPlace.{exec_moved}
use Rattle.sram_layout.specs.Bytes.{with_word}
use Rattle.sram_layout.specs.Cells.{count_cell, vsp_cell}
use Rattle.sram_layout.proofs.Laws.{length-with_word}
use Rattle.flat_machine.specs.Addresses.{is_stack}
use Rattle.heap_frames.specs.Paged.{IsPaged}
use Rattle.nat_template.specs.declared.shapes.TemplateShape.TheVariants.{Mem, Call, Ret, Ind, SelfJump}
use Rattle.nat_template.specs.Shapes.{shape_of_form}
use Rattle.flat_machine.specs.FlatSpace.{FlatSpace, flat_calls, flat_stack, with_memory}
use Rattle.flat_machine.specs.FlatMachine.{next_size, FlatState, Goes as GoesOn, Stops, jumps_to_itself, end_at}
use Rattle.mem_guard.specs.Guarded.{Guarded, flat_of}
use Rattle.mem_guard.proofs.Alike.{executed_alike}
use Rattle.preempt_count.specs.Counting.{count_over}
use Rattle.preempt_count.proofs.CountLaws.{count_crossed}
use Rattle.kernel_entry.specs.declared.kernel.Kernel.{Kernel}
use Rattle.kernel_entry.specs.declared.kernel.Served.{Served}
use Rattle.kernel_entry.specs.Parts.{descriptor, memory_of, put_back, virtual_sp, image_held, instruction}
use Rattle.kernel_entry.specs.Services.{executed, execution, execution_by, resumed_by, gone_by, stop_of}
use Rattle.kernel_entry.specs.Seen.{view_of, view_by, count_of, space_of, View, end_of}
use Rattle.kernel_entry.specs.Left.{MovesPages}
use Rattle.kernel_entry.specs.Rows.{HasStopped, Resumes, Goes, ExecutedBy, PushedBy, PoppedBy, CalledBy, GoneThrough, status_after, z_of, AsTried}
use Rattle.kernel_entry.proofs.LeftLaws.{Kept, kept, view_put, view_crossed, word_kept, core_here}
use Rattle.kernel_entry.proofs.ShapeLaws.{is_service_jump, by_service_jump, by_self_form, mem_straight}
use Rattle.avr_isa.specs.Crossing.{is_crossing}
use Rattle.avr_flags.specs.Status.{has_bit, interrupts}
use Rattle.avr_exec.specs.declared.stop.BusStop.{BusStop}
use Rattle.avr_exec.specs.declared.stop.BusStop.TheVariants as bus
use Rattle.mem_guard.proofs.GuardedStep.{ReadsOwn, guarded_goes, guarded_stops}
use Rattle.mem_guard.proofs.LineLaws.{transfer_line}

-- the execution over flat memory
abbrev pub flatly : Kernel → Form → Outcome FlatSpace Cpu
flatly k form = exec_of flat_calls form (core_here k) (space_of k) (next_size (image_held k) (descriptor k))

pub flatly_is : (k : Kernel) (form : Form) → IsPaged k.mote.sram k.mote.swap → flatly k form ≡ over flat_of (executed k form)
unfolding executed
flatly_is k form paged = executed_alike form (core_here k) (memory_of k) (next_size (image_held k) (descriptor k)) paged

-- COUNT behind an execution
count_put : (k : Kernel) (ask : Ask) (core : Cpu) (memory : Guarded) → Kept k ask memory → count_of (put_back k core memory) ≡ count_of k
count_put k ask core memory left =
    word_kept memory.sram core.sp count_cell (omega arith) ∙ left.0.cells count_cell (omega arith) (omega arith)

-- a service that resumes, by what the instruction does over flat memory
abbrev pub ResumedBy : Kernel → Served → Kernel → Ask → Outcome FlatSpace Cpu → Type 0
ResumedBy old result new ask (Went core space) = Resumes old result new (view_by core space) space.line × MovesPages old new ask
ResumedBy old result new ask (Stopped stop) = HasStopped old result new (stop_of (descriptor old) stop)

resumes_by : (k : Kernel) (ask : Ask) (o : Outcome Guarded Cpu) → LeavesSpace (Kept k ask) o
    → (let e = resumed_by k (execution_by k o).0 (execution_by k o).1 in ResumedBy k e.0 e.1 ask (over flat_of o))
resumes_by k ask (Went core memory) left =
    let view = view_put k core memory left.0.paged.sized.sram in (
      record { answer = refl; pc = refl; view = view; count = count_put k ask core memory left },
      record { memory = memory; asked = left.1; sram = ap (λ v. with_word memory.sram vsp_cell v) (sym (ap (λ v. v.stack_pointer) view)); swap = refl },
    )
resumes_by k ask (Stopped stop) left = record { answer = refl; stays = refl }

pub resumes_row : (k : Kernel) (form : Form) → IsPaged k.mote.sram k.mote.swap
    → (let e = resumed_by k (execution k form).0 (execution k form).1 in ResumedBy k e.0 e.1 (ask_of form (core_here k)) (flatly k form))
resumes_row k form paged = rw (flatly_is k form paged) (resumes_by k (ask_of form (core_here k)) (executed k form) (kept k form paged))

-- and one that goes where the instruction leads
abbrev pub WentBy : Kernel → Served → Kernel → Outcome FlatSpace Cpu → Type 0
WentBy old result new (Went core space) = Goes old result new (view_by core space) core.pc
WentBy old result new (Stopped stop) = HasStopped old result new (stop_of (descriptor old) stop)

goes_by : (k : Kernel) (ask : Ask) (o : Outcome Guarded Cpu) → LeavesSpace (Kept k ask) o
    → (let e = gone_by k (execution_by k o).0 (execution_by k o).1 in WentBy k e.0 e.1 (over flat_of o))
goes_by k ask (Went core memory) left =
    let m = with_word memory.sram vsp_cell core.sp in
    let size : 0 < length m = omega (arith, length-with_word memory.sram vsp_cell core.sp, left.0.paged.sized.sram) in
    record {
      answer = refl;
      pc = refl;
      view = view_crossed (put_back k core memory) k.quantum (descriptor k) core.pc ∙ view_put k core memory left.0.paged.sized.sram;
      count = count_crossed k.quantum (descriptor k) core.pc m size ∙ ap (λ n. count_over k.quantum (descriptor k) core.pc n) (count_put k ask core memory left);
    }
goes_by k ask (Stopped stop) left = record { answer = refl; stays = refl }

pub goes_row : (k : Kernel) (form : Form) → IsPaged k.mote.sram k.mote.swap
    → (let e = gone_by k (execution k form).0 (execution k form).1 in WentBy k e.0 e.1 (flatly k form))
goes_row k form paged = rw (flatly_is k form paged) (goes_by k (ask_of form (core_here k)) (executed k form) (kept k form paged))

-- MEM
executed_by : (k new : Kernel) (result : Served) (form : Form) (o : Outcome FlatSpace Cpu) → o ≡ answered_by (λ core. moved core (wrapping_sum (descriptor k) (size_of form))) o
    → ResumedBy k result new (ask_of form (core_here k)) o → ExecutedBy k result new form o
executed_by k new result form (Went core space) same row =
    let there : core ≡ moved core (wrapping_sum (descriptor k) (size_of form)) = cc in
    record { resumes = row.0; pages = row.1; behind = ap (λ (x : Cpu). x.pc) there }
executed_by k new result form (Stopped stop) same row = row

pub executed_row : (k new : Kernel) (result : Served) (form : Form) → shape_of_form (descriptor k) form ≡ Mem → ResumedBy k result new (ask_of form (core_here k)) (flatly k form)
    → ExecutedBy k result new form (flatly k form)
executed_row k new result form shape row =
    let n = next_size (image_held k) (descriptor k) in
    executed_by k new result form (flatly k form) (exec_moved flat_calls form (core_here k) (space_of k) n n (descriptor k) (mem_straight (descriptor k) form shape)) row

-- PUSHRET: a push shows nothing outside
line_pushed : (b c : Bool) (s next : FlatSpace) (sp below low high : ℕ) (done : Unit {0})
    → ◌≡◌ {A = Outcome FlatSpace (Unit {0})} (cond b (cond c (Went tt (with_memory (with_memory s sp low) below high)) (Stopped (StackStop below))) (Stopped (StackStop sp))) (Went done next)
    → next.line ≡ s.line
line_pushed true true s next sp below low high done is = let same : next ≡ with_memory (with_memory s sp low) below high = cc in ap (λ x. x.line) same
line_pushed true false s next sp below low high done is = absurd (cc)
line_pushed false c s next sp below low high done is = absurd (cc)

line_after_push : (s next : FlatSpace) (sp ret : ℕ) (done : Unit {0}) → push_return_on flat_stack s sp ret ≡ Went done next → next.line ≡ s.line
unfolding push_return_on
line_after_push s next sp ret done is = line_pushed (is_stack sp) (is_stack (wrapping_difference sp 1)) s next sp (wrapping_difference sp 1) (ret % 256) (ret / 256) done is

-- the core behind a call, or a call through Z, whose return address was pushed
abbrev pub after_push : Kernel → ℕ → Outcome FlatSpace (Unit {0}) → Outcome FlatSpace Cpu
after_push k to (Went done space) = Went (record (core_here k) { sp = wrapping_difference (virtual_sp k) 2; pc = to }) space
after_push k to (Stopped stop) = Stopped stop

pushed_by : (k new : Kernel) (result : Served) (ask : Ask) (to ret : ℕ) (p : Outcome FlatSpace (Unit {0}))
    → push_return_on flat_stack (space_of k) (virtual_sp k) ret ≡ p → ResumedBy k result new ask (after_push k to p) → PushedBy k result new p
pushed_by k new result ask to ret (Went done space) is row = record {
  answer = row.0.answer ∙ ap (λ line. Served.Resume line) (line_after_push (space_of k) space (virtual_sp k) ret done is);
  pc = row.0.pc;
  view = row.0.view;
  count = row.0.count;
}
pushed_by k new result ask to ret (Stopped stop) is row = row

twice : (k : Kernel) (to : ℕ) (p : Outcome FlatSpace (Unit {0}))
    → answered_by (λ answer. record (core_here k) { sp = wrapping_difference (virtual_sp k) 2; pc = to }) (answered_by (λ _. Done) p) ≡ after_push k to p
twice k to (Went done space) = refl
twice k to (Stopped stop) = refl

call_near : (k : Kernel) (d : ℤ) → flatly k (forms.Rcall d) ≡ after_push k (relative (descriptor k) d) (push_return_on flat_stack (space_of k) (virtual_sp k) (wrapping_sum (descriptor k) 1))
unfolding exec_of ask_of answer_of finish_of
call_near k d = twice k (relative (descriptor k) d) (push_return_on flat_stack (space_of k) (virtual_sp k) (wrapping_sum (descriptor k) 1))

call_far : (k : Kernel) (a : ℕ) → flatly k (forms.Call a) ≡ after_push k a (push_return_on flat_stack (space_of k) (virtual_sp k) (wrapping_sum (descriptor k) 2))
unfolding exec_of ask_of answer_of finish_of
call_far k a = twice k a (push_return_on flat_stack (space_of k) (virtual_sp k) (wrapping_sum (descriptor k) 2))

call_through : (k : Kernel) → flatly k forms.Icall ≡ after_push k (z_of k) (push_return_on flat_stack (space_of k) (virtual_sp k) (wrapping_sum (descriptor k) 1))
unfolding exec_of ask_of answer_of finish_of
call_through k = twice k (z_of k) (push_return_on flat_stack (space_of k) (virtual_sp k) (wrapping_sum (descriptor k) 1))

pushed_as : (k new : Kernel) (result : Served) (ask : Ask) (to ret : ℕ) (o : Outcome FlatSpace Cpu)
    → o ≡ after_push k to (push_return_on flat_stack (space_of k) (virtual_sp k) ret) → ResumedBy k result new ask o
    → PushedBy k result new (push_return_on flat_stack (space_of k) (virtual_sp k) ret)
pushed_as k new result ask to ret o is row =
    pushed_by k new result ask to ret (push_return_on flat_stack (space_of k) (virtual_sp k) ret) refl (rw is at row)

-- PUSHRET
abbrev PushRow : Kernel → Kernel → Served → Form → Type 0
PushRow k new result form = shape_of_form (descriptor k) form ≡ Call → ResumedBy k result new (ask_of form (core_here k)) (flatly k form)
    → PushedBy k result new (push_return_on flat_stack (space_of k) (virtual_sp k) (wrapping_sum (descriptor k) (size_of form)))

pub pushed_row : (k new : Kernel) (result : Served) (form : Form) → is_service_jump (shape_of_form (descriptor k) form) ≡ true → PushRow k new result form
unfolding shape_of_form size_of
pushed_row k new result form is =
    by_service_jump (PushRow k new result)
    (λ d shape row. pushed_as k new result (ask_of (forms.Rcall d) (core_here k)) (relative (descriptor k) d) (wrapping_sum (descriptor k) 1) (flatly k (forms.Rcall d)) (call_near k d) row)
    (λ a shape row. pushed_as k new result (ask_of (forms.Call a) (core_here k)) a (wrapping_sum (descriptor k) 2) (flatly k (forms.Call a)) (call_far k a) row)
    (λ shape row. absurd (cc)) (λ shape row. absurd (cc)) (λ shape row. absurd (cc)) (λ shape row. absurd (cc)) (descriptor k) form is

-- RET
popped_by : (k new : Kernel) (result : Served) (form : Form) (p : Outcome FlatSpace ℕ)
    → WentBy k result new (answered_by (finish_of form (core_here k) (next_size (image_held k) (descriptor k))) (answered_by Address p))
    → ((target : ℕ) → finish_of form (core_here k) (next_size (image_held k) (descriptor k)) (Address target)
    ≡ record (core_here k) { sp = wrapping_sum (virtual_sp k) 2; sreg = status_after form k.mote.cpu.sreg; pc = target })
    → PoppedBy k result new form p
popped_by k new result form (Went target space) row ends =
    rw (ends target) at row
popped_by k new result form (Stopped stop) row ends = row

abbrev PopRow : Kernel → Kernel → Served → Form → Type 0
PopRow k new result form = shape_of_form (descriptor k) form ≡ Ret → WentBy k result new (flatly k form) → PoppedBy k result new form (pop_return_from flat_stack (space_of k) (virtual_sp k))

pub popped_row : (k new : Kernel) (result : Served) (form : Form) → is_service_jump (shape_of_form (descriptor k) form) ≡ true → PopRow k new result form
unfolding shape_of_form exec_of ask_of answer_of finish_of
popped_row k new result form is =
    by_service_jump (PopRow k new result) (λ d shape row. absurd (cc)) (λ a shape row. absurd (cc))
    (λ shape row. popped_by k new result forms.Ret (pop_return_from flat_stack (space_of k) (virtual_sp k)) row (λ target. refl))
    (λ shape row. popped_by k new result forms.Reti (pop_return_from flat_stack (space_of k) (virtual_sp k)) row (λ target. refl))
    (λ shape row. absurd (cc)) (λ shape row. absurd (cc)) (descriptor k) form is

-- IND
called_by : (k new : Kernel) (result : Served) (p : Outcome FlatSpace (Unit {0})) → WentBy k result new (after_push k (z_of k) p) → CalledBy k result new p
called_by k new result (Went done space) row = row
called_by k new result (Stopped stop) row = row

abbrev ThroughRow : Kernel → Kernel → Served → Form → Type 0
ThroughRow k new result form = shape_of_form (descriptor k) form ≡ Ind → WentBy k result new (flatly k form) → GoneThrough k result new form

through_call : (k new : Kernel) (result : Served) (o : Outcome FlatSpace Cpu) (p : Outcome FlatSpace (Unit {0})) → o ≡ after_push k (z_of k) p → WentBy k result new o → CalledBy k result new p
through_call k new result o p is row = called_by k new result p (rw is at row)

jump_through : (k new : Kernel) (result : Served) → WentBy k result new (flatly k forms.Ijmp) → Goes k result new (view_of k) (z_of k)
unfolding exec_of ask_of answer_of finish_of
jump_through k new result row = row

pub through_row : (k new : Kernel) (result : Served) (form : Form) → is_service_jump (shape_of_form (descriptor k) form) ≡ true → ThroughRow k new result form
unfolding shape_of_form
through_row k new result form is =
    by_service_jump (ThroughRow k new result) (λ d shape row. absurd (cc)) (λ a shape row. absurd (cc)) (λ shape row. absurd (cc)) (λ shape row. absurd (cc))
    (λ shape row. jump_through k new result row)
    (λ shape row. through_call k new result (flatly k forms.Icall) (push_return_on flat_stack (space_of k) (virtual_sp k) (wrapping_sum (descriptor k) 1)) (call_through k) row)
    (descriptor k) form is

-- SELF
self_near : (k new : Kernel) (result : Served) (d : ℤ) → relative (descriptor k) d ≡ descriptor k → WentBy k result new (flatly k (forms.Rjmp d)) → Goes k result new (view_of k) (descriptor k)
unfolding exec_of ask_of answer_of finish_of
self_near k new result d here row = rw here at row

self_far : (k new : Kernel) (result : Served) (a : ℕ) → a ≡ descriptor k → WentBy k result new (flatly k (forms.Jmp a)) → Goes k result new (view_of k) (descriptor k)
unfolding exec_of ask_of answer_of finish_of
self_far k new result a here row = rw here at row

pub self_row : (k new : Kernel) (result : Served) (form : Form) → shape_of_form (descriptor k) form ≡ SelfJump → WentBy k result new (flatly k form) → Goes k result new (view_of k) (descriptor k)
self_row k new result form shape =
    by_self_form (λ f. WentBy k result new (flatly k f) → Goes k result new (view_of k) (descriptor k)) (descriptor k) (self_near k new result) (self_far k new result) form shape

-- the state of the program's machine that a view shows
abbrev state_by : View → (pc steps crossings : ℕ) → FlatState
state_by v pc steps crossings = record {
  cpu = record { r = v.registers; sreg = v.status; sp = v.stack_pointer; pc = pc };
  memory = v.memory;
  devices = v.devices;
  pages = v.pages;
  steps = steps;
  crossings = crossings;
}

pub end_stop : (at : ℕ) (stop : BusStop) → end_at at stop ≡ end_of (stop_of at stop)
end_stop at (bus.Io a) = refl
end_stop at (bus.Stack a) = refl
end_stop at (bus.SwapFull a) = refl

abbrev pub counted : Kernel → ℕ → ℕ → ℕ
counted k to crossings = if is_crossing (descriptor k) to then crossings + 1 else crossings

-- what the original program does is tried, unless it is an RJMP or JMP to its own address, for ever
abbrev GoesOnward : Kernel → Form → Type 0
GoesOnward k form = jumps_to_itself (descriptor k) form && not (has_bit k.mote.cpu.sreg interrupts) ≡ false

pub resumes_tried : (k : Kernel) (form : Form) (ask : Ask) (o : Outcome Guarded Cpu) → IsPaged k.mote.sram k.mote.swap → instruction k ≡ Some form → is_executed form ≡ true
    → ReadsOwn k.part (memory_of k) (core_here k) form → GoesOnward k form
    → LeavesSpace (Kept k ask) o → executed k form ≡ o → (let e = resumed_by k (execution_by k o).0 (execution_by k o).1 in AsTried k e.0 e.1)
unfolding executed
resumes_tried k form ask (Went core memory) paged is runs own goes left went =
    AsTried.ResumesToo memory.line core.pc refl (λ s c.
    guarded_goes _ _ (memory_of k) memory (core_here k) core s c form paged refl is runs own goes went
    ∙ sym (ap (λ v. GoesOn memory.line (state_by v core.pc (s + 1) (counted k core.pc c))) (view_put k core memory left.0.paged.sized.sram)))
resumes_tried k form ask (Stopped stop) paged is runs own goes left went =
    AsTried.StopsToo (stop_of (descriptor k) stop) (record { answer = refl; stays = refl }) (λ s c.
    guarded_stops _ _ (memory_of k) (core_here k) s c form stop paged refl is runs own goes went ∙ ap Stops (end_stop (descriptor k) stop))

pub goes_tried : (k : Kernel) (form : Form) (ask : Ask) (o : Outcome Guarded Cpu) → IsPaged k.mote.sram k.mote.swap → instruction k ≡ Some form → is_executed form ≡ true
    → ReadsOwn k.part (memory_of k) (core_here k) form → GoesOnward k form → is_transfer form ≡ true
    → LeavesSpace (Kept k ask) o → executed k form ≡ o → (let e = gone_by k (execution_by k o).0 (execution_by k o).1 in AsTried k e.0 e.1)
unfolding executed
goes_tried k form ask (Went core memory) paged is runs own goes moves left went =
    AsTried.GoesToo core.pc refl (λ s c.
    guarded_goes _ _ (memory_of k) memory (core_here k) core s c form paged refl is runs own goes went
    ∙ ap (λ line. GoesOn line (state_by (view_by core (flat_of memory)) core.pc (s + 1) (counted k core.pc c)))
    (transfer_line form (core_here k) core (memory_of k) memory (next_size (image_held k) (descriptor k)) moves went)
    ∙ sym (ap (λ v. GoesOn None (state_by v core.pc (s + 1) (counted k core.pc c)))
    (view_crossed (put_back k core memory) k.quantum (descriptor k) core.pc ∙ view_put k core memory left.0.paged.sized.sram)))
goes_tried k form ask (Stopped stop) paged is runs own goes moves left went =
    AsTried.StopsToo (stop_of (descriptor k) stop) (record { answer = refl; stays = refl }) (λ s c.
    guarded_stops _ _ (memory_of k) (core_here k) s c form stop paged refl is runs own goes went ∙ ap Stops (end_stop (descriptor k) stop))

-- which of them transfer control, and go on
pub transfers : (pc : ℕ) (form : Form) → is_service_jump (shape_of_form pc form) ≡ true → is_transfer form ≡ true
unfolding is_transfer
transfers pc form is = by_service_jump (λ f. is_transfer f ≡ true) (λ k. refl) (λ a. refl) refl refl refl refl pc form is

pub self_transfers : (pc : ℕ) (form : Form) → shape_of_form pc form ≡ SelfJump → is_transfer form ≡ true
unfolding is_transfer
self_transfers pc form is = by_self_form (λ f. is_transfer f ≡ true) pc (λ k here. refl) (λ a here. refl) form is
