-- A call: the return address is pushed, and the stub leads to the target.
use Rattle.std.proofs.Common.{ℕ, ◌≡◌, ◌+◌, ◌∷◌, ◌∙◌, false, refl, sym, ap, arith, subst}
use Rattle.std.specs.Prelude.{Some}
use Rattle.avr_isa.specs.declared.form.Form.{Form}
use Rattle.avr_exec.specs.declared.cpu.Cpu.{Cpu}
use Rattle.avr_exec.specs.declared.answer.Answer.{Answer}
use Rattle.avr_isa.specs.Addresses.{wrapping_sum}
use Rattle.avr_exec.specs.Asks.{ask_of, finish_of}
use Rattle.avr_exec.specs.Execution.{answered_by, answer_of}
use Rattle.avr_exec.specs.Spaces.{Outcome, Went as WentOn, Stopped as StoppedOn}
use Rattle.avr_exec.proofs.OneAnswer.{exec_by_ask}
use Rattle.nat_template.specs.declared.shapes.TemplateShape.TheVariants.{Call}
use Rattle.nat_template.specs.declared.piece.Piece.TheVariants.{Fixed}
use Rattle.nat_template.specs.Shapes.{shape_of_form}
use Rattle.nat_template.specs.Stubs.{stub, call_word, push_return_entry}
use Rattle.nat_template.specs.Templates.{template_by, target_of}
use Rattle.nat_template.proofs.Sizes.{stub_bound}
use Rattle.page_draft.specs.Standing.{size}
use Rattle.page_draft.specs.Runs.{template_at}
use Rattle.flat_machine.specs.FlatMachine.{next_size}
use Rattle.mem_guard.specs.Guarded.{Guarded, guarded_calls}
use Rattle.kernel_entry.specs.declared.kernel.Kernel.{Kernel}
use Rattle.step_laws.proofs.Stretches.{template_here, size_three, IsStretch, stretch_behind}
use Rattle.step_laws.proofs.AskedLaw.{Called, bus_stops, called, called_by, resume_law, stop_law, resumed_is, resting, IsRun, run_there}
use Rattle.step_laws.specs.Links.{Links}
use Rattle.step_laws.specs.States.{State, mote_of}
use Rattle.step_laws.specs.Settings.{IsSetting}
use Rattle.step_laws.specs.StepLaws.{ShapeLaw, StepLaw}
use Rattle.step_laws.proofs.Onward.{by_way}
use Rattle.step_laws.proofs.CodeLaws.{form_of_shape, by_shape}
use Rattle.step_laws.proofs.StubLaw.{stub_law}
use Rattle.avr_decode.specs.Program.{instruction_at}
use Rattle.nat_page.specs.Links.{EachLink}
use Rattle.nat_page.specs.Entered.{IsPlace}
use Rattle.kernel_entry.specs.Parts.{core_of, memory_of, image_held}
use Rattle.kernel_entry.specs.Services.{served, stop_of}
use Rattle.kernel_entry.specs.Conditions.{CanServe}
use Rattle.step_laws.proofs.Executed.{executed_at, returned}
use Rattle.kernel_entry.proofs.ShapeLaws.{is_service_jump, by_service_jump, reads_by_mem}

-- where a call leads
call_goes : (k : Kernel) (a : ℕ) (form : Form) (n : ℕ) (answer : Answer) → shape_of_form a form ≡ Call → (finish_of form (core_of k a) n answer).pc ≡ target_of a (Some form)
unfolding shape_of_form finish_of
call_goes k a form n answer is =
    by_service_jump (λ f. shape_of_form a f ≡ Call → (finish_of f (core_of k a) n answer).pc ≡ target_of a (Some f)) (λ d same. refl) (λ t same. refl)
    (λ e. absurd (cc)) (λ e. absurd (cc)) (λ e. absurd (cc)) (λ e. absurd (cc)) a form (ap is_service_jump is) is

pc_went : (f : Answer → Cpu) (o : Outcome Guarded Answer) (t : ℕ) (cpu : Cpu) (g : Guarded) → ((answer : Answer) → (f answer).pc ≡ t) → answered_by f o ≡ WentOn cpu g → cpu.pc ≡ t
pc_went f (WentOn answer next) t cpu g h went =
    let one : cpu ≡ f answer = cc in
    ap (λ (c : Cpu). c.pc) one ∙ h answer
pc_went f (StoppedOn stop) t cpu g h went = absurd (cc)

call_by : (links : Links) (x : State) (a v t : ℕ) (form : Form) (o : Outcome Guarded Cpu) → executed_at (called x v push_return_entry) a form ≡ o → IsSetting links x a v
    → Called x a v push_return_entry → CanServe (called x v push_return_entry)
    → IsRun x.kernel a form → shape_of_form a form ≡ Call → target_of a (Some form) ≡ t
    → template_at (image_held x.kernel) a ≡ Fixed call_word ∷ Fixed push_return_entry ∷ Fixed a ∷ stub a t → StepLaw links x a
unfolding served
call_by links x a v t form (WentOn cpu g) done s c can f shape target template =
    let k = x.kernel in
    let image = image_held k in
    let words = (mote_of x).flash.words in
    let way = stub a t in
    let kc = called x v push_return_entry in
    let z = resting (returned kc cpu g (wrapping_sum (v + 2) 1)) in
    let bound = stub_bound a t in
    let here = template_here links x a v _ s template in
    let row : IsStretch k.layout words v (3 + size way) = rw (size_three call_word push_return_entry a way) at here.row in
    let there : v + 1 + 1 + 1 ≡ v + 3 = omega arith in
    let low = c.low in
    let at : wrapping_sum (v + 2) 1 ≡ v + 3 = omega arith in
    let begins : ¬ IsPlace k.layout words (v + 3) = row.inner 3 (omega arith) (omega arith) in
    let pc : cpu.pc ≡ t = pc_went (finish_of form (core_of kc a) (next_size image a))
    (answer_of guarded_calls (memory_of kc) (ask_of form (core_of kc a))) t cpu g
    (λ answer. call_goes kc a form (next_size image a) answer shape ∙ target)
    (sym (exec_by_ask guarded_calls form (core_of kc a) (memory_of kc) (next_size image a)) ∙ done) in
    resume_law links x a v push_return_entry t form cpu g s c can f (reads_by_mem a form (λ e. let e' = sym shape ∙ e in cc)) done pc
    (resumed_is kc (v + 2) a form (WentOn cpu g) c.back c.behind f.is done)
    (λ free fit. by_way 0 links z t _ _ (stub_law links z a t (v + 3) false free (stretch_behind k.layout words v 3 (size way) row (omega arith) (omega arith)) (rw there at here.stands.1.1.1)
    (subst (λ (w : ℕ). EachLink links.marks w way) there here.marks) fit at begins))
call_by links x a v t form (StoppedOn stop) done s c can f shape target template =
    stop_law links x a v push_return_entry (stop_of a stop) s c can (resumed_is (called x v push_return_entry) (v + 2) a form (StoppedOn stop) c.back c.behind f.is done)
    (bus_stops links x a v push_return_entry form stop s c f (reads_by_mem a form (λ e. let e' = sym shape ∙ e in cc)) done)

pub call_law : ShapeLaw Call
unfolding template_by
call_law links x a v s shape =
    let image = image_held x.kernel in
    let some = form_of_shape Call a (instruction_at image a) shape (λ e. cc) in
    let form : Form = some.0 in
    let t = target_of a (Some form) in
    let template : template_at image a ≡ Fixed call_word ∷ Fixed push_return_entry ∷ Fixed a ∷ stub a t = by_shape image a _ shape
    ∙ ap (λ f. Fixed call_word ∷ Fixed push_return_entry ∷ Fixed a ∷ stub a (target_of a f)) some.1 in
    let c = called_by links x a v push_return_entry (stub a t) s template in
    call_by links x a v t form _ refl s c (CanServe.AtPushReturn refl (c.shape ∙ shape) c.can) (run_there x.kernel a form _ some.1 some.2 (λ e. cc) (λ e. cc)) some.2 refl template
