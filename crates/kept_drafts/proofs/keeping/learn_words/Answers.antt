use Rattle.std.proofs.Common.{arith}
use Rattle.kept_drafts.proofs.KeepLaws.{stand_set}
use Rattle.kept_drafts.proofs.keeping.learn_words.Goals as goal

pub words-preserved : goal.words-preserved
words-preserved c = stand_set _ _ _ _ (omega (arith, c.type_inv.words, c.requires.end, c.words-test.true)) c.micro_op.ensures.stands c.words.invariant
