-- The command `dump`: what its text asks for.
use Rattle.std.specs.Prelude.{ℕ, List}
use Rattle.cli_words.specs.declared.command.RunOptions.{RunOptions}
use Rattle.cli_words.specs.declared.job.Job.{Job}
use Rattle.cli_words.specs.declared.job.Job.TheVariants.{Dump}
use Rattle.cli_requests.specs.RunCommand.{RequestThen}

-- a HEX text and a script behind it ask for the dump of what their run leaves
abbrev pub DumpAsks : RunOptions → List ℕ → Job → Type 0
DumpAsks options text = RequestThen options text Dump
