use Rattle.flash_model.specs.DecodeCache.{StandForPage}
use Rattle.kept_drafts.proofs.keeping.learn_words.Given as goal

abbrev pub invariant-words : goal.invariant-words
invariant-words l = StandForPage l.words l.micro_ops
