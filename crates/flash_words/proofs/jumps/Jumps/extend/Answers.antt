use Rattle.std.proofs.Common.{arith}
use Rattle.flash_words.proofs.JumpLaws.{first_behind, jumps_extended}
use Rattle.flash_words.proofs.jumps.Jumps.extend.Goals as goal

pub words-init : goal.words-init
words-init c = record {
  sized = c.requires.sized;
  sources = c.requires.sources;
  outside = λ all at own. first_behind all c.args.self.now c.args.page c.args.from c.args.to c.max-k.result (omega (arith, c.max-k.ensures)) at;
}

pub words-preserved : goal.words-preserved
words-preserved c = record {
  sized = c.look_at.ensures.size;
  sources = c.look_at.ensures.sources;
  outside = λ all at own. c.look_at.ensures.outside all c.args.to own (c.words.invariant.outside all at own);
}

pub returns : goal.returns
returns c = record {
  jumps = λ all at own. jumps_extended all c.words.self c.args.page c.words.k c.args.to (λ below. omega (arith, c.words-test.false, c.min-k-end.ensures))
      (c.words.invariant.outside all at own);
}
