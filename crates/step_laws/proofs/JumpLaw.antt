-- A jump: the stub to its target.
use Rattle.std.proofs.Common.{ℕ, ◌≡◌, ◌+◌, ◌==◌, ◌∙◌, true, false, refl, sym, ap, arith}
use Rattle.std.specs.Prelude.{ℤ, ◌&&◌, Some, None, not}
use Rattle.avr_isa.specs.Crossing.{is_crossing}
use Rattle.avr_isa.specs.declared.form.Form.{Form}
use Rattle.avr_isa.specs.declared.form.Form.TheVariants as forms
use Rattle.avr_isa.specs.IoTable.{can_read, can_write, io_address}
use Rattle.avr_flags.specs.Status.{has_bit, interrupts}
use Rattle.avr_exec.specs.declared.answer.Answer.TheVariants.{Done}
use Rattle.avr_exec.specs.declared.ask.Ask.TheVariants.{Nothing}
use Rattle.avr_isa.specs.Addresses.{relative}
use Rattle.avr_exec.specs.Asks.{ask_of, finish_of}
use Rattle.avr_exec.specs.Execution.{is_executed}
use Rattle.avr_exec.specs.Spaces.{Went as WentOn}
use Rattle.avr_exec.proofs.OneAnswer.{exec_nothing}
use Rattle.sram_layout.specs.Bytes.{byte_at}
use Rattle.sram_layout.specs.Cells.{count_cell}
use Rattle.heap_frames.specs.Paged.{IsPaged}
use Rattle.nat_template.specs.declared.shapes.TemplateShape.TheVariants.{Native, Jump, Skip, SelfJump, Fault}
use Rattle.nat_template.specs.Shapes.{shape_of_form, is_stack_pointer, can_modify}
use Rattle.nat_template.specs.Stubs.{stub}
use Rattle.nat_template.specs.Templates.{template_by, target_of}
use Rattle.page_draft.specs.Runs.{template_at}
use Rattle.flat_machine.specs.FlatMachine.{Goes, tried, next_size, jumps_to_itself, if_foreign, word_asked}
use Rattle.mem_guard.specs.Guarded.{guarded_calls}
use Rattle.mem_guard.proofs.GuardedStep.{guarded_goes}
use Rattle.kernel_entry.specs.declared.kernel.Kernel.{Kernel}
use Rattle.step_laws.proofs.PlainLaw.{keeps_core, keeps_on}
use Rattle.step_laws.specs.Settings.{CanBegin}
use Rattle.step_laws.proofs.Stretches.{template_here}
use Rattle.step_laws.specs.Links.{Links}
use Rattle.step_laws.specs.StepLaws.{Outcome, StepLaw, crossings_over, ShapeLaw}
use Rattle.step_laws.proofs.Ways.{Way}
use Rattle.step_laws.specs.States.{State, mote_of}
use Rattle.step_laws.proofs.SameProgram.{flat_same}
use Rattle.step_laws.proofs.CodeLaws.{form_of_shape, by_shape}
use Rattle.step_laws.specs.Moves.{lines_of}
use Rattle.step_laws.proofs.StubLaw.{stub_law}
use Rattle.avr_decode.specs.Program.{instruction_at}
use Rattle.kernel_entry.specs.Parts.{core_of, memory_of, image_held}
use Rattle.preempt_count.specs.Counting.{count_over}
use Rattle.step_laws.proofs.ShapeTests.{not_chosen, not_io, chosen_other}
use Rattle.kernel_entry.specs.Seen.{program, state_at}
use Rattle.mote_devices.specs.State.{stored, rampz_address}

-- the forms of this shape
data IsJump (pc : ℕ) (form : Form) : Type 0 where
  ByRjmp : (k : ℤ) → form ≡ forms.Rjmp k → (relative pc k == pc) ≡ false → IsJump pc form
  ByJmp : (t : ℕ) → form ≡ forms.Jmp t → (t == pc) ≡ false → IsJump pc form

jump_form : (pc : ℕ) (form : Form) → shape_of_form pc form ≡ Jump → IsJump pc form
unfolding shape_of_form
jump_form pc (forms.Rjmp k) is = IsJump.ByRjmp k refl (chosen_other (relative pc k == pc) SelfJump Jump Jump (λ e. cc) is)
jump_form pc (forms.Jmp t) is = IsJump.ByJmp t refl (chosen_other (t == pc) SelfJump Jump Jump (λ e. cc) is)
jump_form pc (forms.InIo d a) is = absurd (not_io (is_stack_pointer a) (can_read (io_address a)) Jump (λ e. cc) (λ e. cc) (λ e. cc) is)
jump_form pc (forms.OutIo a r) is = absurd (not_io (is_stack_pointer a) (can_write (io_address a)) Jump (λ e. cc) (λ e. cc) (λ e. cc) is)
jump_form pc (forms.Cbi a b) is = absurd (not_chosen (can_modify (io_address a)) Native Fault Jump (λ e. cc) (λ e. cc) is)
jump_form pc (forms.Sbi a b) is = absurd (not_chosen (can_modify (io_address a)) Native Fault Jump (λ e. cc) (λ e. cc) is)
jump_form pc (forms.Sbic a b) is = absurd (not_chosen (can_read (io_address a)) Skip Fault Jump (λ e. cc) (λ e. cc) is)
jump_form pc (forms.Sbis a b) is = absurd (not_chosen (can_read (io_address a)) Skip Fault Jump (λ e. cc) (λ e. cc) is)
jump_form pc _ is = absurd (cc)

-- the original's step
pub jump_tried : (k : Kernel) (a t : ℕ) (form : Form) → IsPaged k.mote.sram k.mote.swap → instruction_at (image_held k) a ≡ Some form → is_executed form ≡ true → jumps_to_itself a form ≡ false
    → ask_of form (core_of k a) ≡ Nothing
    → finish_of form (core_of k a) (next_size (image_held k) a) Done ≡ core_of k t → (s c : ℕ)
    → tried (program k) (state_at k a s c) ≡ Goes None (state_at k t (s + 1) (crossings_over a t c))
jump_tried k a t form paged is runs apart asks after s c =
    guarded_goes _ _ (memory_of k) (memory_of k) (core_of k a) (core_of k t) s c form paged refl is runs (ap (λ ask. if_foreign k.part (word_asked (stored k.mote.devices rampz_address) ask)) asks)
    (ap (λ b. b && not (has_bit k.mote.cpu.sreg interrupts)) apart)
    (exec_nothing guarded_calls form (core_of k a) (memory_of k) (next_size (image_held k) a) asks ∙ ap (λ cpu. WentOn cpu (memory_of k)) after)

-- the step from the way through the stub
jumps_by : (links : Links) (x : State) (a t : ℕ) → CanBegin x
    → ((s c : ℕ) → tried (program x.kernel) (state_at x.kernel a s c) ≡ Goes None (state_at x.kernel t (s + 1) (crossings_over a t c)))
    → Way links x true t (count_over x.kernel.quantum a t (byte_at (mote_of x).sram count_cell)) (is_crossing a t) → StepLaw links x a
unfolding lines_of
jumps_by links x a t ready goes way = record {
  end = way.end;
  first = None;
  rest = way.rest;
  line = None;
  walk = way.walk;
  few = let few = way.few in omega arith;
  serves = let serves = way.serves in omega arith;
  lines = way.silent;
  keeps = keeps_on links x x way.end t _ _ (keeps_core x (mote_of x).cpu (mote_of x).devices ready refl ready.idle.top (omega arith)) way.left;
  outcome = Outcome.Went t (record {
    wakes = false;
    silent = λ e. absurd (cc);
    fresh = λ e. absurd (cc);
    polls = λ e. omega (arith, ap (λ d. d.polls) way.left.same.devices);
    going = way.left.going;
    original = λ s c. goes s c ∙ ap (Goes None) (sym (flat_same x.kernel way.end.kernel t (s + 1) (crossings_over a t c) way.left.same));
    reaches = way.left.reaches;
    count = way.left.count;
    unstopped = way.goes;
    reset = way.reset;
  });
}

-- the target and the original's step, of each form
record Jumps (k : Kernel) (a t : ℕ) : Type 0 where
  pub target : target_of a (instruction_at (image_held k) a) ≡ t
  pub goes : (s c : ℕ) → tried (program k) (state_at k a s c) ≡ Goes None (state_at k t (s + 1) (crossings_over a t c))

jumps_of : (k : Kernel) (a : ℕ) (form : Form) → IsPaged k.mote.sram k.mote.swap → instruction_at (image_held k) a ≡ Some form → IsJump a form → (t : ℕ) × Jumps k a t
unfolding is_executed ask_of finish_of
jumps_of k a form paged is (IsJump.ByRjmp n same apart) =
    let is' = is ∙ ap Some same in (relative a n, record { target = ap (target_of a) is'; goes = jump_tried k a (relative a n) (forms.Rjmp n) paged is' refl apart refl refl })
jumps_of k a form paged is (IsJump.ByJmp t same apart) =
    let is' = is ∙ ap Some same in (t, record { target = ap (target_of a) is'; goes = jump_tried k a t (forms.Jmp t) paged is' refl apart refl refl })

pub jump_law : ShapeLaw Jump
unfolding template_by
jump_law links x a v s shape =
    let paged = s.ready.paged in
    let k = x.kernel in
    let image = image_held k in
    let some = form_of_shape Jump a (instruction_at image a) shape (λ e. cc) in
    let jumps = jumps_of k a some.0 paged some.1 (jump_form a some.0 some.2) in
    let t = jumps.0 in
    let template : template_at image a ≡ stub a t = by_shape image a _ shape ∙ ap (stub a) jumps.1.target in
    let here = template_here links x a v _ s template in
    jumps_by links x a t s.ready jumps.1.goes
    (stub_law links x a t v true s.ready.running here.row here.stands here.marks s.ready.idle s.at s.code.place)
