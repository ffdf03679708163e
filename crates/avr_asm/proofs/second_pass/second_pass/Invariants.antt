use Rattle.std.proofs.Common.{◌+◌, ◌*◌, ◌≤◌, length}
use Rattle.avr_asm.specs.Passes.{IsSecondPart}
use Rattle.avr_asm.proofs.second_pass.second_pass.Given as goal

abbrev pub invariant-lines : goal.invariant-lines
invariant-lines l = record {
  part : IsSecondPart l.text l.rest l.number l.words.items;
  short : l.number + length l.rest ≤ length l.text;
  few : length l.words.items ≤ 2 * l.number;
}

abbrev pub decreases-lines : goal.decreases-lines
decreases-lines l = length l.rest
