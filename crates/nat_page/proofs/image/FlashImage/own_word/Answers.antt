use Rattle.std.proofs.Common.{arith, sym}
use Rattle.nat_page.proofs.image.FlashImage.own_word.Goals as goal

pub returns-in-Native : goal.returns-in-Native
returns-in-Native c = record {
  own = record {
    form = c.in-Some.instr;
    own = sym c.word.ensures.value;
    fits = omega arith;
    is = c.in-Some.ensures.value;
    native = sym c.in-Native.ensures.shape;
    inside = omega (arith, c.requires.inside, c.requires.image);
    short = omega (arith, c.requires.image, c.requires.right.image_fits);
  };
}
