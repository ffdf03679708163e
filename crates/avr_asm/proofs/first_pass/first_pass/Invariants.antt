use Rattle.std.proofs.Common.{◌+◌, ◌≤◌, length}
use Rattle.avr_asm.specs.Passes.{IsFirstPart}
use Rattle.avr_asm.proofs.first_pass.first_pass.Given as goal

abbrev pub invariant-lines : goal.invariant-lines
invariant-lines l = record {
  part : IsFirstPart l.text l.rest l.number l.pass;
  short : l.number + length l.rest ≤ length l.text;
}

abbrev pub decreases-lines : goal.decreases-lines
decreases-lines l = length l.rest
