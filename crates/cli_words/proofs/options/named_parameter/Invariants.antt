use Rattle.std.proofs.Common.{◌≡◌, length}
use Rattle.cli_words.specs.Options.{parameters}
use Rattle.cli_words.specs.OptionReading.{first_named}
use Rattle.cli_words.proofs.options.named_parameter.Given as goal

-- the parameters in front of the rest have no name that the word begins with
abbrev pub invariant-loop-rest : goal.invariant-loop-rest
invariant-loop-rest l = first_named l.rest l.fn.word ≡ first_named parameters l.fn.word

abbrev pub decreases-loop-rest : goal.decreases-loop-rest
decreases-loop-rest l = length l.rest
