use Rattle.std.proofs.Common.{rules}
use Rattle.flash_words.proofs.cells.Cells.begin.Goals as goal

pub invariant_of-self : goal.invariant_of-self
invariant_of-self c = search rules

pub returns-then-self-clause-refused : goal.returns-then-self-clause-refused
returns-then-self-clause-refused c = search rules
