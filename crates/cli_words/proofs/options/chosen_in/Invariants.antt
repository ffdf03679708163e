use Rattle.std.proofs.Common.{length, map, string_bytes}
use Rattle.cli_words.specs.Commands.{entry_of}
use Rattle.cli_words.specs.OptionReading.{HasRead}
use Rattle.cli_words.proofs.options.chosen_in.Given as goal

-- the words in front of the rest were read
abbrev pub invariant-loop-rest : goal.invariant-loop-rest
invariant-loop-rest l = HasRead (entry_of l.fn.kind).1 (map string_bytes l.fn.words) (map string_bytes l.rest) l.chosen.values

abbrev pub decreases-loop-rest : goal.decreases-loop-rest
decreases-loop-rest l = length l.rest
