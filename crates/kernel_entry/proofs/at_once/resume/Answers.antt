use Rattle.std.proofs.Common.{sym, ap, refl, arith, ◌∙◌}
use Rattle.std.specs.Prelude.{None, Ok}
use Rattle.avr_isa.specs.Addresses.{wrapping_sum}
use Rattle.kernel_entry.specs.declared.kernel.Served.TheVariants as answers
use Rattle.kernel_entry.specs.declared.execution.Ran.{Ran}
use Rattle.kernel_entry.specs.Parts.{with_pc}
use Rattle.kernel_entry.specs.Services.{resumed_by}
use Rattle.kernel_entry.proofs.Answering.{called}
use Rattle.kernel_entry.proofs.Running.{at_memory, known_there, resumes, due_is}
use Rattle.kernel_entry.proofs.at_once.resume.Goals as goal

pub execute_at_once-requires : goal.execute_at_once-requires
execute_at_once-requires c =
    let k = c.args.k.now in
    let called_here = called k c.requires.can (at_memory k c.requires.can c.requires.from (omega (arith, c.requires.below))).0 in
    record { at = c.descriptor-at.ensures.value; known = known_there k called_here; paged = called_here.can.paged }

pub returns-then-execute_at_once-clause-served : goal.returns-then-execute_at_once-clause-served
returns-then-execute_at_once-clause-served c =
    let k = c.args.k.now in
    let next = c.execute_at_once.new.k in
    let done = c.execute_at_once.ensures.executed c.if-execute_at_once.true in
    let ran : Ran = record { pc = done.pc; line = None } in
    let run = (at_memory k c.requires.can c.requires.from (omega (arith, c.requires.below))).1 done.reads in
    λ yes. ap (λ b. (answers.Resume None, with_pc next (wrapping_sum b 1))) c.behind_call-behind.ensures.value
    ∙ resumes k next done.form (Ok ran) ran c.requires.can run c.requires.below done.is done.went refl

pub returns-then-execute_at_once-clause-due : goal.returns-then-execute_at_once-clause-due
returns-then-execute_at_once-clause-due c =
    let k = c.args.k.now in
    let next = c.execute_at_once.new.k in
    let done = c.execute_at_once.ensures.executed c.if-execute_at_once.true in
    let ran : Ran = record { pc = done.pc; line = None } in
    let run = (at_memory k c.requires.can c.requires.from (omega (arith, c.requires.below))).1 done.reads in
    λ yes. sym (due_is k (resumed_by k (Ok ran) next) (resumes k next done.form (Ok ran) ran c.requires.can run c.requires.below done.is done.went refl))
