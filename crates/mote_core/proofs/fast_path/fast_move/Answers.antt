use Rattle.std.proofs.Common.{ℕ, refl, sym, ap, ap₂, ◌∙◌, arith}
use Rattle.std.specs.Prelude.{Option, Some, None, IfSome}
use Rattle.avr_isa.specs.declared.form.Form.{Form}
use Rattle.avr_exec.specs.declared.cpu.Cpu.{Cpu}
use Rattle.avr_exec.specs.Spaces.{Outcome}
use Rattle.avr_exec.specs.Execution.{exec_of}
use Rattle.flash_model.specs.declared.decoded.Decoded.{Decoded}
use Rattle.flash_model.specs.Code.{decoded_at}
use Rattle.flash_model.specs.DecodeCache.{StandsAt}
use Rattle.mote_core.specs.declared.mote.Mote.{Mote}
use Rattle.mote_core.specs.Physical.{Physical, physical_calls}
use Rattle.mote_core.specs.Step.{form_at, space_of}
use Rattle.mote_core.specs.FastPath.{mote_with}
use Rattle.mote_core.proofs.Steps.{step_form, stepped_is}
use Rattle.mote_core.proofs.fast_path.fast_move.Goals as goal

pub bounds-ops-place : goal.bounds-ops-place
bounds-ops-place c = omega (arith, c.requires.low, c.requires.ops.1.sized)

pub fast_step-requires-clause-in_sram : goal.fast_step-requires-clause-in_sram
fast_step-requires-clause-in_sram c =
    let stands : StandsAt c.requires.ops.0 c.args.place c.index-ops-place.result =
    rw c.index-ops-place.is (c.requires.ops.1.each c.args.place (omega (arith, c.requires.low)) c.index-ops-place.result) in
    stands.in_sram

if_both : {P Q : ℕ → Type 0} (told : Option ℕ) (F : Type 0) → (F → (n : ℕ) → P n → Q n) → IfSome told (λ _. F) → IfSome told P → IfSome told Q
if_both None F f first second = tt
if_both (Some n) F f first second = f first n second

pub returns-clause-step : goal.returns-clause-step
returns-clause-step c =
    let run : Mote → Form → ℕ → Outcome Physical Cpu = λ before form n. exec_of physical_calls form before.cpu (space_of before None) n in
    if_both c.fast_step.result _ (λ form next went m ops can.
    let before : Mote = mote_with m c.args.cpu.now c.args.sram.now c.args.sreg.now c.args.place in
    let words = m.flash.words in
    let op : StandsAt words c.args.place c.index-ops-place.result = rw c.index-ops-place.is (ops.each c.args.place (omega (arith, c.requires.low)) c.index-ops-place.result) in
    let d : Decoded = decoded_at words c.args.place in
    let is = step_form (form_at before) d.instr before.cpu can refl in
    record {
      executed = stepped_is before d.instr is ∙ ap Some (ap₂ (run before) (sym (op.instr form)) (sym (op.size form)) ∙ went m.devices words d.next_size);
      flash = refl;
      swap = refl;
    }) c.fast_step.ensures.form c.fast_step.ensures.went
