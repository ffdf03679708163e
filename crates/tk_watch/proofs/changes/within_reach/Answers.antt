use Rattle.std.proofs.Common.{◌≡◌, ◌+◌, sym, ap, ◌∙◌, subst}
use Rattle.std.specs.Prelude.{Some}
use Rattle.avr_isa.specs.declared.form.Form.{Form}
use Rattle.avr_decode.specs.Program.{instruction_at}
use Rattle.avr_exec.specs.Asks.{ask_of}
use Rattle.kernel_entry.specs.Parts.{core_of, image_held}
use Rattle.kernel_entry.specs.Seen.{program as program_of}
use Rattle.program_steps.specs.Machines.{flat_of}
use Rattle.program_steps.specs.Wholes.{whole}
use Rattle.tk_watch.specs.Touching.{IsTouched}
use Rattle.tk_watch.proofs.Sparing.{step_spares}
use Rattle.tk_watch.proofs.changes.within_reach.Goals as goal

pub returns-in-Some-clause-spared : goal.returns-in-Some-clause-spared
returns-in-Some-clause-spared c = λ i below out. (
  sym c.must_take.ensures.value ∙ c.if-must_take.false,
  λ untaken line next goes.
      let m = whole c.args.k.now c.args.p.now in
      let b = c.args.at + i in
      let ask = c.asks.ensures.value in
      let form_of = λ (form : Form) (is : instruction_at (image_held c.args.k.now) c.args.p.now.at ≡ Some form). c.in-Some.ensures.same form is in
      step_spares (program_of m.kernel) (flat_of m) b untaken
      (λ form is touches. out (c.touched.ensures.all i below (subst (λ a. IsTouched a b)
      (sym (ask ∙ ap (ask_of c.in-Some.instr.now) c.core.ensures.same ∙ ap (λ f. ask_of f (core_of c.args.k.now c.args.p.now.at)) (form_of form is))) touches)))
      line next goes,
)
