use Rattle.std.proofs.Common.{◌≡◌, length}
use Rattle.avr_asm.specs.Operands.{and_operands, operands_of, parts_of}
use Rattle.avr_asm.proofs.operand.operands_in.Given as goal

abbrev pub invariant-operands : goal.invariant-operands
invariant-operands l = and_operands l.operands (parts_of 44 l.rest) ≡ operands_of l.fn.text

abbrev pub decreases-operands : goal.decreases-operands
decreases-operands l = length l.rest
