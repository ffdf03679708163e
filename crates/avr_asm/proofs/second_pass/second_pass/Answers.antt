use Rattle.std.proofs.Common.{arith}
use Rattle.avr_asm.specs.AsmText.{labels_of}
use Rattle.avr_asm.proofs.SecondPassLaws.{second_part_more, second_part_whole, few_more}
use Rattle.avr_asm.proofs.second_pass.second_pass.Goals as goal

pub lines-preserved : goal.lines-preserved
lines-preserved c =
    let added = c.in-Ok.ensures.added (labels_of c.args.text.now) c.requires.labels in
    record {
      part = second_part_more c.lines.invariant.part c.first_line.ensures.lines added;
      short = omega (arith, c.first_line.ensures.shorter, c.lines.invariant.short);
      few = omega (arith, few_more added, c.lines.invariant.few);
    }

pub returns-clause-assembled : goal.returns-clause-assembled
returns-clause-assembled c =
    second_part_whole c.args.text.now c.lines.rest.now c.lines.number c.lines.words.items (grind (arith, c.is_empty.ensures, c.lines-test.false)) c.lines.invariant.part
