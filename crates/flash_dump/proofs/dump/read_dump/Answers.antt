use Rattle.std.proofs.Common.{arith}
use Rattle.flash_dump.proofs.DumpLaws.{read_more}
use Rattle.flash_dump.proofs.dump.read_dump.Goals as goal

pub lines-preserved : goal.lines-preserved
lines-preserved c = record {
  read = read_more _ _ _ _ _ _ _ _ _ c.lines.invariant.read c.first_line.ensures.lines c.in-Ok-take_line.ensures.taken;
  low = c.in-Ok-take_line.ensures.taken.low;
  short = omega (arith, c.first_line.ensures.shorter, c.lines.invariant.short);
}
