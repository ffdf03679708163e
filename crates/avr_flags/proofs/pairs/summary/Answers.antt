use Rattle.std.proofs.Common.{rules}
use Rattle.std.proofs.lemmas.Nat.{and_mask}
use Rattle.avr_flags.proofs.PairLaws.{summary_zero, summary_top}
use Rattle.avr_flags.proofs.pairs.summary.Goals as goal

pub returns-else-pair-eq0-clause-zero : goal.returns-else-pair-eq0-clause-zero
returns-else-pair-eq0-clause-zero c = summary_zero _ (rw (and_mask _ 8) at c.if-pair-eq0.false)

pub returns-else-pair-eq0-clause-top : goal.returns-else-pair-eq0-clause-top
returns-else-pair-eq0-clause-top c =
    summary_top c.args.pair (search rules)
