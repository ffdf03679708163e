use Rattle.std.proofs.Common.{◌≡◌, ◌+◌, ◌-◌, arith}
use Rattle.flash_model.proofs.changed_words.is_changed.Goals as goal

pub returns : goal.returns
returns c = record {
  same = λ told k from below.
      let there : c.args.first + (k - c.args.first) ≡ k = omega arith in
      rw there at (c.words.invariant told (k - c.args.first) (omega (arith, c.words-test.false)));
}
