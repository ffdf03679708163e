use Rattle.std.proofs.Common.{◌-◌, ◌≤◌, length}
use Rattle.hex_image.proofs.TextLemmas.{IsRead}
use Rattle.hex_image.proofs.text.read_lines.Given as goal

-- the lines so far were read
abbrev pub invariant-lines : goal.invariant-lines
invariant-lines l = record {
  some : 1 ≤ l.number;
  read : IsRead l.text l.rest (l.number - 1) l.reading;
}

abbrev pub decreases-lines : goal.decreases-lines
decreases-lines l = length l.rest
