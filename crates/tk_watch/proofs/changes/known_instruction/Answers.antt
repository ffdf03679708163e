use Rattle.std.proofs.Common.{ap, ◌∙◌}
use Rattle.tk_watch.proofs.ImageForms.{known_form}
use Rattle.tk_watch.proofs.changes.known_instruction.Goals as goal

pub returns-in-Some : goal.returns-in-Some
returns-in-Some c = record {
  same = λ form is.
      ap (λ d. d.instr) c.in-Some.ensures.value
      ∙ known_form c.args.layout.now c.args.flash.now.words c.args.at form c.ranges.at.fits c.decoded.ensures.whole.words (c.lies_in_image.ensures.lies c.if-lies_in_image.true) is;
}
