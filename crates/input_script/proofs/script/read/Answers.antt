use Rattle.std.proofs.Common.{◌≡◌, Err, arith, ap, sym, refl, ◌∙◌, subst, inl, inr}
use Rattle.text_lines.specs.Lines.{lines_of}
use Rattle.std.proofs.lemmas.Grind.{common_steps}
use Rattle.input_script.specs.declared.fault.ScriptError.TheVariants.{Bad, NoMemory}
use Rattle.input_script.specs.Judging.{IsDone}
use Rattle.input_script.proofs.Done.{Tells, done_take, refusal_tells, refused_text, refused_as, err_is}
use Rattle.input_script.proofs.script.read.Goals as goal

pub loop-rest-preserved : goal.loop-rest-preserved
loop-rest-preserved c =
    let lines = lines_of c.args.text.now in
    let done = subst (λ rest. IsDone lines c.loop-rest.line c.loop-rest.script rest) c.first_line.ensures.lines c.loop-rest.invariant.done in
    record {
      done = done_take lines (lines_of c.first_line.result.1.now) c.first_line.result.0.now c.loop-rest.line _ c.loop-rest.script c.take_line.new.self done c.in_ok-take_line.ensures.taken refl;
      left = grind (arith, common_steps);
    }

pub returns-in_err-take_line : goal.returns-in_err-take_line
returns-in_err-take_line c =
    let text = c.args.text.now in
    let error = c.in_err-take_line.field-0.0 in
    let done = subst (λ rest. IsDone (lines_of text) c.loop-rest.line c.loop-rest.script rest) c.first_line.ensures.lines c.loop-rest.invariant.done in
    let tells = refusal_tells text (lines_of c.first_line.result.1.now) c.first_line.result.0.now c.loop-rest.line _ c.loop-rest.script error done c.in_err-take_line.ensures.refused refl in
    let passed = err_is c.from_residual.result error c.from_residual.ensures.1 in
    record {
      ok = rw passed tt;
      bad = λ line fault same.
          let is : Err error ≡ Err (Bad line fault) = sym passed ∙ same in
          let its : error ≡ Bad line fault = cc in
          subst (Tells text) its tells;
      accepted = λ schedule script. inr (passed ∙ ap (λ e. Err e) (refused_text text error tells schedule script));
      refused = λ line fault bad. elim (refused_as text error tells line fault bad) [
        | inl same ↦ inl (passed ∙ ap (λ e. Err e) same)
        | inr memory ↦ inr (passed ∙ ap (λ e. Err e) memory)
      ];
      memory = λ wanted.
          let is : Err error ≡ Err NoMemory = sym passed ∙ wanted in
          let its : error ≡ NoMemory = cc in
          subst (Tells text) its tells;
    }
