use Rattle.std.proofs.Common.{◌+◌, ◌≤◌, length}
use Rattle.flash_dump.specs.Dumps.{IsReadTo}
use Rattle.flash_dump.proofs.dump.read_dump.Given as goal

abbrev pub invariant-lines : goal.invariant-lines
invariant-lines l = record {
  read : IsReadTo l.text l.rest l.least l.number l.flash;
  low : l.least ≤ 512;
  short : l.number + length l.rest ≤ length l.text;
}

abbrev pub decreases-lines : goal.decreases-lines
decreases-lines l = length l.rest
