use Rattle.std.proofs.Common.{◌≡◌, ℕ, refl, sym, ap, ap₂, ◌∙◌}
use Rattle.std.specs.Prelude.{Some, None}
use Rattle.avr_exec.specs.declared.cpu.Cpu.{Cpu}
use Rattle.avr_exec.specs.Spaces.{Outcome}
use Rattle.avr_exec.specs.Execution.{exec_of}
use Rattle.flash_words.specs.Memory.{Memory}
use Rattle.mote_core.specs.Physical.{Physical, physical_calls}
use Rattle.flash_model.specs.Code.{decoded_at}
use Rattle.mote_core.specs.Step.{form_at}
use Rattle.mote_core.proofs.Steps.{step_form, step_executed, step_mapped, stepped_is}
use Rattle.mote_core.proofs.mote.Mote.plain_step_at.Goals as goal

pub execute-requires-clause-executed : goal.execute-requires-clause-executed
execute-requires-clause-executed c =
    let m = c.args.self.now in
    let value : c.predecode-decoded.result ≡ decoded_at m.flash.words m.cpu.pc = c.predecode-decoded.ensures.value ∙ ap (decoded_at m.flash.words) c.requires.at in
    let is = step_form (form_at m) _ m.cpu c.requires.step (ap (λ d. d.instr) value) in
    step_executed (form_at m) _ m.cpu c.requires.step is

pub execute-requires-clause-mapped : goal.execute-requires-clause-mapped
execute-requires-clause-mapped c =
    let m = c.args.self.now in
    let value : c.predecode-decoded.result ≡ decoded_at m.flash.words m.cpu.pc = c.predecode-decoded.ensures.value ∙ ap (decoded_at m.flash.words) c.requires.at in
    let is = step_form (form_at m) _ m.cpu c.requires.step (ap (λ d. d.instr) value) in
    step_mapped (form_at m) _ m.cpu c.requires.step is

pub returns-clause-step : goal.returns-clause-step
returns-clause-step c =
    let m = c.args.self.now in
    let value : c.predecode-decoded.result ≡ decoded_at m.flash.words m.cpu.pc = c.predecode-decoded.ensures.value ∙ ap (decoded_at m.flash.words) c.requires.at in
    let is = step_form (form_at m) _ m.cpu c.requires.step (ap (λ d. d.instr) value) in
    let d = c.predecode-decoded.result in
    let same = c.predecode-decoded.ensures.same in
    let run : Memory → ℕ → Outcome Physical Cpu = λ f n. exec_of physical_calls d.instr m.cpu (record { sram = m.sram; devices = m.devices; words = f.words; line = None }) n in
    record {
      executed = stepped_is m _ is ∙ ap Some (ap₂ run (sym same) (sym (ap (λ d. d.next_size) value)) ∙ c.execute.ensures.outcome);
      flash = same;
      swap = refl;
    }
