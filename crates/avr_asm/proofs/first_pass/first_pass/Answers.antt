use Rattle.std.proofs.Common.{arith}
use Rattle.avr_asm.proofs.FirstPassLaws.{first_part_more, first_part_start}
use Rattle.avr_asm.proofs.first_pass.first_pass.Goals as goal

pub lines-preserved : goal.lines-preserved
lines-preserved c = record {
  part = first_part_more c.lines.invariant.part c.first_line.ensures.lines c.in-Ok.ensures.taken;
  short = omega (arith, c.first_line.ensures.shorter, c.lines.invariant.short);
}

pub lines-init : goal.lines-init
lines-init c = record {
  part = first_part_start c.args.text.now _ c.new.ensures.none;
  short = omega arith;
}
