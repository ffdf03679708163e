use Rattle.std.proofs.Common.{ap, ap₂, ◌∙◌, arith}
use Rattle.std.specs.Prelude.{None, Ok, Err}
use Rattle.avr_isa.specs.Addresses.{wrapping_sum}
use Rattle.sram_layout.specs.Bytes.{byte_at}
use Rattle.sram_layout.specs.Cells.{count_cell}
use Rattle.preempt_count.specs.Counting.{crossed, is_checkpoint}
use Rattle.kernel_entry.specs.declared.kernel.Served.TheVariants as answers
use Rattle.kernel_entry.specs.Parts.{with_pc, with_sram}
use Rattle.kernel_entry.specs.Services.{stop_of, resumed_by, gone_by}
use Rattle.kernel_entry.proofs.Answering.{can_count, count_stays, quantum_left}
use Rattle.kernel_entry.proofs.Running.{resumes, goes, stops, run_counts, due_is, due_behind}
use Rattle.kernel_entry.proofs.services.run.Goals as goal

pub called_instruction-instr-requires : goal.called_instruction-instr-requires
called_instruction-instr-requires c = record { at = c.requires.at; called = c.requires.called }

pub execute-requires : goal.execute-requires
execute-requires c =
    let can = c.requires.called.can in
    record { at = c.requires.at; executed = c.called_instruction-instr.ensures.executed; paged = can.paged; room = can.room }

pub returns-then-entry-lt-RETURN : goal.returns-then-entry-lt-RETURN
returns-then-entry-lt-RETURN c =
    let k = c.args.k.now in
    let next = c.execute.new.k in
    let instr = c.called_instruction-instr in
    let is = resumes k next instr.result c.execute.result c.in-Ok.ran c.requires.can c.requires.run c.if-entry-lt-RETURN.true instr.ensures.value c.execute.ensures.executed c.in-Ok.is in
    record {
      served = ap (λ b. (answers.Resume c.in-Ok.ran.line, with_pc next (wrapping_sum b 1))) c.behind_call-behind.ensures.value ∙ is;
      due = due_is k (resumed_by k (Ok c.in-Ok.ran) next) is;
    }

pub cross-due-requires : goal.cross-due-requires
cross-due-requires c =
    let count = can_count c.args.k.now c.execute.new.k c.called_instruction-instr.result c.execute.result c.requires.called.can
    (run_counts c.args.k.now c.requires.can c.requires.run c.if-entry-lt-RETURN.false) c.execute.ensures.executed in
    record { quantum = omega (arith, count); count = count }

pub returns-else-entry-lt-RETURN : goal.returns-else-entry-lt-RETURN
returns-else-entry-lt-RETURN c =
    let k = c.args.k.now in
    let next = c.execute.new.k in
    let instr = c.called_instruction-instr.result in
    let ran = c.in-Ok.ran in
    let count = byte_at next.mote.sram count_cell in
    let is = goes k next instr c.execute.result ran c.requires.can c.requires.run c.if-entry-lt-RETURN.false c.called_instruction-instr.ensures.value c.execute.ensures.executed c.in-Ok.is in
    let quantum = quantum_left k next instr c.execute.result c.execute.ensures.executed in
    record {
      served = ap (λ m. (answers.Goto ran.pc None, with_sram next m)) (c.cross-due.ensures.after ∙ ap₂ (λ q a. crossed q a ran.pc next.mote.sram) quantum c.requires.at) ∙ is;
      due = c.cross-due.ensures.checkpoint ∙ ap (λ a. is_checkpoint a ran.pc count) c.requires.at
          ∙ due_behind k next ran count c.if-entry-lt-RETURN.false (count_stays k next instr c.execute.result c.requires.called.can c.execute.ensures.executed) is;
    }

pub returns-in-Err : goal.returns-in-Err
returns-in-Err c =
    let k = c.args.k.now in
    let next = c.execute.new.k in
    let instr = c.called_instruction-instr in
    let is = stops k next instr.result c.execute.result c.in-Err.stop c.requires.can c.requires.run instr.ensures.value c.execute.ensures.executed c.in-Err.is in
    record {
      served = ap (λ s. (answers.Stopped s, next)) (c.stop_of.ensures.value ∙ ap (λ a. stop_of a c.in-Err.stop) c.requires.at) ∙ is;
      due = due_is k (gone_by k (Err c.in-Err.stop) next) is;
    }
