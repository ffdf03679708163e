-- The words so far, and behind them those of the numbers that are left, are what is wanted.
use Rattle.std.proofs.Common.{◌≡◌, ◌-◌, ◌++◌}
use Rattle.program_generator.specs.Generated.{words_from}
use Rattle.program_generator.proofs.push_chosen.Given as goal

abbrev pub invariant-loop : goal.invariant-loop
invariant-loop l = l.words.items ++ words_from l.x (l.n - l.counter) ≡ l.fn.words.items ++ words_from l.fn.seed l.n
