use Rattle.std.proofs.Common.{◌≡◌, ap, sym, ◌∙◌}
use Rattle.std.specs.Prelude.{Some, None}
use Rattle.avr_asm.specs.Cuts.{trimmed}
use Rattle.avr_asm.specs.Operands.{operand_of}
use Rattle.avr_asm.proofs.OperandLaws.{part_read, last_read, none_of}
use Rattle.avr_asm.proofs.operand.operands_in.Goals as goal

pub returns-in-None : goal.returns-in-None
returns-in-None c =
    let cut = c.in-Some.ensures.cases in
    let none : None ≡ operand_of (trimmed c.in-Some.front.now) = c.in-None.ensures.value ∙ ap operand_of c.trimmed.ensures.value in
    record { value = part_read c.operands.operands _ _ _ cut.0 cut.1 none ∙ c.operands.invariant }

pub operands-preserved : goal.operands-preserved
operands-preserved c =
    let cut = c.in-Some.ensures.cases in
    let some : Some c.in-Some-operand_in.operand ≡ operand_of (trimmed c.in-Some.front.now) = c.in-Some-operand_in.ensures.value ∙ ap operand_of c.trimmed.ensures.value in
    rw c.with-operands.ensures.value (part_read c.operands.operands _ _ _ cut.0 cut.1 some ∙ c.operands.invariant)

pub returns-in-Some-operand_in-2 : goal.returns-in-Some-operand_in-2
returns-in-Some-operand_in-2 c =
    let lacks = none_of _ c.split_once.result c.split_once.ensures.cases c.in_default.not-Some in
    let some : Some c.in-Some-operand_in-2.operand ≡ operand_of (trimmed c.operands.rest.now) =
    sym c.in-Some-operand_in-2.is ∙ c.operand_in-2.ensures.value ∙ ap operand_of c.trimmed-2.ensures.value in
    record { value = rw c.with.ensures.value (last_read c.operands.operands _ lacks some ∙ c.operands.invariant) }

pub returns-in-None-operand_in : goal.returns-in-None-operand_in
returns-in-None-operand_in c =
    let lacks = none_of _ c.split_once.result c.split_once.ensures.cases c.in_default.not-Some in
    let none : None ≡ operand_of (trimmed c.operands.rest.now) = sym c.in-None-operand_in.is ∙ c.operand_in-2.ensures.value ∙ ap operand_of c.trimmed-2.ensures.value in
    record { value = last_read c.operands.operands _ lacks none ∙ c.operands.invariant }
