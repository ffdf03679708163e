-- The service MEM: asked at once, or at the trap of an inline template.
use Rattle.std.proofs.Common.{ℕ, ◌≡◌, ◌+◌, ◌%◌, ◌∙◌, false, [], List, refl, ap, arith}
use Rattle.std.specs.Prelude.{Option, Some, None}
use Rattle.avr_isa.specs.declared.form.Form.{Form}
use Rattle.avr_isa.specs.Instruction.{size_of}
use Rattle.avr_isa.specs.Image.{word}
use Rattle.avr_decode.specs.Program.{instruction_at}
use Rattle.avr_exec.specs.declared.cpu.Cpu.{Cpu}
use Rattle.avr_isa.specs.Addresses.{wrapping_sum}
use Rattle.avr_exec.specs.Likeness.{is_transfer}
use Rattle.avr_exec.specs.Spaces.{Outcome, Went as WentOn, Stopped as StoppedOn}
use Rattle.nat_template.specs.declared.shapes.TemplateShape.TheVariants.{Mem}
use Rattle.nat_template.specs.Stubs.{service, mem_entry}
use Rattle.page_draft.specs.Standing.{size}
use Rattle.page_draft.specs.Runs.{shape_at, template_at, size_at, next_of, is_closed}
use Rattle.mem_guard.specs.Guarded.{Guarded}
use Rattle.kernel_entry.specs.Parts.{image_held}
use Rattle.kernel_entry.specs.Services.{served, stop_of}
use Rattle.kernel_entry.specs.Conditions.{CanServe}
use Rattle.step_laws.specs.Settings.{IsSetting}
use Rattle.step_laws.specs.Links.{Links}
use Rattle.step_laws.specs.StepLaws.{StepLaw}
use Rattle.step_laws.specs.States.{State, mote_of}
use Rattle.step_laws.proofs.AskedLaw.{Asked, foreign_at, foreign_is, accessed_own, accessed_foreign, asked, bus_stops_asked, read_stops_asked, resume_asked, resumed_is, stop_asked, asked_by}
use Rattle.step_laws.proofs.AskedLaw.{called_by, resting, IsRun, run_there}
use Rattle.kernel_entry.specs.declared.kernel.Stop.TheVariants.{Read}
use Rattle.step_laws.proofs.Onward.{onward}
use Rattle.step_laws.proofs.Executed.{straight_next, executed_at, returned}
use Rattle.step_laws.proofs.Stretches.{stretch_of}
use Rattle.nat_template.proofs.Sizes.{stub_bound, template_size}
use Rattle.decode_laws.proofs.Lengths.{the_form-size}
use Rattle.avr_isa.proofs.Laws.{size_of-range}
use Rattle.nat_template.specs.Shapes.{shape_of, shape_of_form}
use Rattle.nat_template.specs.Templates.{template_by, mem_pieces}
use Rattle.kernel_entry.proofs.ShapeLaws.{mem_straight}
use Rattle.step_laws.proofs.CodeLaws.{setting_short, image_words, by_shape}

-- the instruction at a, of which MEM is the service
pub record IsReached (x : State) (a : ℕ) (form : Form) : Type 0 where
  pub run : IsRun x.kernel a form
  pub open run use *
  pub shape : shape_at (image_held x.kernel) a ≡ Mem
  pub straight : is_transfer form ≡ false
  pub next : wrapping_sum a (size_of form) ≡ next_of (image_held x.kernel) a

-- MEM is asked, and its call is the last of the template; what it may not read, if anything, decides
served_own : (links : Links) (x : State) (a v : ℕ) (ram : List ℕ) (back more : ℕ) (form : Form) (o : Outcome Guarded Cpu) → executed_at (asked x ram back mem_entry) a form ≡ o → IsSetting links x a v
    → Asked x a ram back mem_entry more
    → CanServe (asked x ram back mem_entry) → IsReached x a form → foreign_at (asked x ram back mem_entry) a form ≡ None → back + 1 ≡ v + size (template_at (image_held x.kernel) a) → StepLaw links x a
unfolding served
served_own links x a v ram back more form (WentOn cpu g) done s c can f own behind =
    let image = image_held x.kernel in
    let kc = asked x ram back mem_entry in
    let z = resting (returned kc cpu g (wrapping_sum back 1)) in
    let low = c.state.low in
    let row = stretch_of links x.kernel.layout image (mote_of x).flash.words a v s.ready.bounded.right s.code in
    let there : wrapping_sum back 1 ≡ v + size (template_at image a) = omega arith in
    let some = template_size (shape_at image a) a (word image a) (instruction_at image a) (size_at image (a + 1)) in
    let bound = stub_bound a (next_of image a) in
    resume_asked links x a v ram back mem_entry more (next_of image a) form cpu g s c can f.run own done (straight_next kc a form cpu g f.straight done ∙ f.next)
    (accessed_own kc (foreign_is kc a form c.state.behind f.is ∙ own) ∙ resumed_is kc back a form (WentOn cpu g) c.state.address c.state.behind f.is done)
    (λ free fit. onward links z image a v free fit s.ready.bounded.right s.code some.0 (omega arith) (ap is_closed f.shape) there)
served_own links x a v ram back more form (StoppedOn stop) done s c can f own behind =
    let kc = asked x ram back mem_entry in
    stop_asked links x a v ram back mem_entry more (stop_of a stop) s c can
    (accessed_own kc (foreign_is kc a form c.state.behind f.is ∙ own) ∙ resumed_is (asked x ram back mem_entry) back a form (StoppedOn stop) c.state.address c.state.behind f.is done)
    (bus_stops_asked x a ram back mem_entry more form stop c f.run own done)

served_so : (links : Links) (x : State) (a v : ℕ) (ram : List ℕ) (back more : ℕ) (form : Form) (foreign : Option ℕ) → foreign_at (asked x ram back mem_entry) a form ≡ foreign → IsSetting links x a v
    → Asked x a ram back mem_entry more
    → CanServe (asked x ram back mem_entry) → IsReached x a form → back + 1 ≡ v + size (template_at (image_held x.kernel) a) → StepLaw links x a
unfolding served
served_so links x a v ram back more form None own s c can f behind = served_own links x a v ram back more form _ refl s c can f own behind
served_so links x a v ram back more form (Some w) foreign s c can f behind =
    let kc = asked x ram back mem_entry in
    stop_asked links x a v ram back mem_entry more (Read a w) s c can (accessed_foreign kc a w c.state.behind (foreign_is kc a form c.state.behind f.is ∙ foreign))
    (read_stops_asked x a w ram back mem_entry more form c f.is f.runs foreign)

pub served_by : (links : Links) (x : State) (a v : ℕ) (ram : List ℕ) (back more : ℕ) (form : Form) → IsSetting links x a v → Asked x a ram back mem_entry more
    → CanServe (asked x ram back mem_entry) → IsReached x a form → back + 1 ≡ v + size (template_at (image_held x.kernel) a) → StepLaw links x a
served_by links x a v ram back more form s c can f behind = served_so links x a v ram back more form _ refl s c can f behind

-- the template is the call
pub called_law : (links : Links) (x : State) (a v : ℕ) (form : Form) → IsSetting links x a v → IsReached x a form → template_at (image_held x.kernel) a ≡ service mem_entry a → StepLaw links x a
called_law links x a v form s f template =
    let c = called_by links x a v mem_entry [] s template in
    let three : size (template_at (image_held x.kernel) a) ≡ 3 = ap size template in
    served_by links x a v (mote_of x).sram (v + 2) 0 form s (asked_by x a v mem_entry s.ready.idle c) (CanServe.AtMem refl (c.shape ∙ f.shape) c.can) f (omega arith)

-- an instruction that the image has, of this shape, and its template
pub reached_by : (links : Links) (x : State) (a v : ℕ) (form : Form) → IsSetting links x a v → instruction_at (image_held x.kernel) a ≡ Some form → shape_of_form a form ≡ Mem → IsReached x a form
reached_by links x a v form s is shape =
    let image = image_held x.kernel in
    let inside = s.code.inside in
    let short = setting_short x s.ready.bounded.right in
    let long : size_of form ≡ size_at image a = the_form-size (word image a) (word image ((a + 1) % 65536)) form ((image_words x.kernel s.ready.bounded) a) is in
    let range = size_of-range form in
    record {
      run = run_there x.kernel a form _ is shape (λ e. cc) (λ e. cc);
      shape = ap (shape_of a) is ∙ shape;
      straight = mem_straight a form shape;
      next = omega arith;
    }

pub mem_template : (x : State) (a : ℕ) (form : Form) → IsReached x a form → template_at (image_held x.kernel) a ≡ mem_pieces a (Some form)
unfolding template_by
mem_template x a form f =
    let image = image_held x.kernel in
    by_shape image a _ f.shape ∙ ap (mem_pieces a) f.is
