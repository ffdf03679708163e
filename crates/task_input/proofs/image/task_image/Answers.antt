use Rattle.std.proofs.Common.{ap, length, arith}
use Rattle.std.proofs.lemmas.Grind.{common_steps}
use Rattle.std.proofs.lemmas.List.FromFn.{map-range_with_len_more}
use Rattle.avr_isa.specs.Image.{word}
use Rattle.task_input.proofs.image.task_image.Goals as goal

pub words-preserved : goal.words-preserved
words-preserved c =
    let more = map-range_with_len_more (word c.args.image.now) 0 c.words.address c.words.address (omega arith) in
    record {
      said = rw more (grind (arith, common_steps));
      long = grind (arith, common_steps);
    }

pub from_words-requires : goal.from_words-requires
from_words-requires c = omega (arith, ap length c.as_slice.ensures.value, c.words.invariant.long)
