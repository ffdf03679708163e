use Rattle.std.proofs.Common.{◌≡◌, sym, ap, subst, ◌∙◌}
use Rattle.std.specs.Prelude.{IfOk}
use Rattle.avr_exec.specs.Spaces.{Went, Stopped}
use Rattle.avr_exec.specs.Execution.{finished}
use Rattle.mem_guard.specs.Bus.{guarded_of}
use Rattle.kernel_entry.proofs.Answering.{outcome_is, went_told, stop_told}
use Rattle.kernel_entry.proofs.execution.execute.Goals as goal

pub returns-in-Ok : goal.returns-in-Ok
returns-in-Ok c =
    let k = c.args.k.now in
    let core = c.exec_at-done.new.cpu in
    let memory = guarded_of c.exec_at-done.new.bus in
    let is = outcome_is k c.args.at c.next_size_in_image-next_size.result c.vsp-k.result c.args.instr.now
    (Went core memory) c.requires.at c.next_size_in_image-next_size.ensures.value c.vsp-k.ensures.value
    (sym (ap (λ r. finished r core memory) c.in-Ok.is) ∙ c.exec_at-done.ensures.outcome) in
    record {
      executed = went_told k c.args.instr.now core memory c.set_vsp.new.self c.in-Ok.pc is c.set_vsp.ensures.after
          (subst (λ r. IfOk r (λ pc. pc ≡ core.pc)) c.in-Ok.is c.exec_at-done.ensures.tells);
    }

pub returns-in-Err : goal.returns-in-Err
returns-in-Err c =
    let k = c.args.k.now in
    let core = c.exec_at-done.new.cpu in
    let memory = guarded_of c.exec_at-done.new.bus in
    let is = outcome_is k c.args.at c.next_size_in_image-next_size.result c.vsp-k.result c.args.instr.now
    (Stopped c.in-Err.stop) c.requires.at c.next_size_in_image-next_size.ensures.value c.vsp-k.ensures.value
    (sym (ap (λ r. finished r core memory) c.in-Err.is) ∙ c.exec_at-done.ensures.outcome) in
    record { executed = stop_told k c.args.at c.vsp-k.result c.args.instr.now c.exec_at-done.result core memory c.in-Err.stop c.in-Err.is c.exec_at-done.ensures.stop is }
