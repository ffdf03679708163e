use Rattle.std.proofs.Common.{arith}
use Rattle.tk_restart.proofs.TornWords.{page_torn}
use Rattle.tk_restart.proofs.losing.torn_words.Goals as goal

pub returns : goal.returns
returns c = record { words = page_torn c.args.op c.words.words c.words.invariant.long (λ k below. c.words.invariant.done k (omega (arith, below))) }
