use Rattle.std.proofs.Common.{take}
use Rattle.flash_words.specs.Failing.{IsNextListed}
use Rattle.flash_words.proofs.failing.next_listed.Given as goal

-- what was found is the next among the numbers so far
abbrev pub invariant-numbers : goal.invariant-numbers
invariant-numbers l = IsNextListed (take l.number-index l.failing) l.op l.next
