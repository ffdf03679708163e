use Rattle.std.proofs.Common.{◌≡◌, rules, true, arith, ap, ap₂, refl, ◌∙◌}
use Rattle.std.specs.Prelude.{None, Ok}
use Rattle.avr_isa.specs.declared.form.Form.TheVariants.{Ret}
use Rattle.sram_layout.specs.Bytes.{byte_at}
use Rattle.sram_layout.specs.Cells.{count_cell}
use Rattle.preempt_count.specs.Counting.{crossed, is_checkpoint}
use Rattle.kernel_entry.specs.declared.kernel.Served.TheVariants as answers
use Rattle.kernel_entry.specs.declared.execution.Ran.{Ran}
use Rattle.kernel_entry.specs.Parts.{with_sram}
use Rattle.kernel_entry.specs.Conditions.{executes}
use Rattle.kernel_entry.specs.Services.{is_run_at}
use Rattle.kernel_entry.proofs.Answering.{called, can_count, count_stays, quantum_left}
use Rattle.kernel_entry.proofs.AtOnce.{returned_is}
use Rattle.kernel_entry.proofs.Running.{goes, run_counts, due_behind}
use Rattle.kernel_entry.proofs.at_once.go_back.Goals as goal

pub cross-due-requires : goal.cross-due-requires
cross-due-requires c =
    let k = c.args.k.now in
    let next = c.pop_in_window.new.k in
    let ran : Ran = record { pc = c.in-Some.pc; line = None } in
    let run = ap (λ e. is_run_at e k) c.requires.entry in
    let popped = rw c.in-Some.is at c.pop_in_window.ensures.popped in
    let after = rw c.in-Some.is at c.pop_in_window.ensures.after in
    let went = returned_is k next c.in-Some.pc popped after in
    let called_here = called k c.requires.can (ap executes c.requires.entry) in
    let count = can_count k next Ret (Ok ran) called_here.can (run_counts k c.requires.can run (omega (arith, c.requires.entry))) went in
    record { quantum = omega (arith, count); count = count }

pub returns-in-Some : goal.returns-in-Some
returns-in-Some c =
    let k = c.args.k.now in
    let next = c.pop_in_window.new.k in
    let pc = c.in-Some.pc in
    let ran : Ran = record { pc = pc; line = None } in
    let run = ap (λ e. is_run_at e k) c.requires.entry in
    let plain : c.is_plain_return.result ≡ true = search rules in
    let popped = rw c.in-Some.is at c.pop_in_window.ensures.popped in
    let after = rw c.in-Some.is at c.pop_in_window.ensures.after in
    let went = returned_is k next pc popped after in
    let count = byte_at next.mote.sram count_cell in
    let gone = goes k next Ret (Ok ran) ran c.requires.can run (omega (arith, c.requires.entry)) (c.is_plain_return.ensures.is plain) went refl in
    record {
      served = ap (λ m. (answers.Goto pc None, with_sram next m)) (c.cross-due.ensures.after
          ∙ ap₂ (λ q a. crossed q a pc next.mote.sram) (quantum_left k next Ret (Ok ran) went) c.descriptor-at.ensures.value) ∙ gone;
      due = c.cross-due.ensures.checkpoint ∙ ap (λ a. is_checkpoint a pc count) c.descriptor-at.ensures.value
          ∙ due_behind k next ran count (omega (arith, c.requires.entry)) (count_stays k next Ret (Ok ran) (called k c.requires.can (ap executes c.requires.entry)).can went) gone;
      none = tt;
    }
