-- The command `restart`: what its text asks for.
use Rattle.std.specs.Prelude.{ℕ, List}
use Rattle.cli_words.specs.declared.command.RunOptions.{RunOptions}
use Rattle.cli_words.specs.declared.job.Job.{Job}
use Rattle.cli_words.specs.declared.job.Job.TheVariants.{Restart}
use Rattle.cli_requests.specs.RunCommand.{RequestThen}

-- a HEX text and a script behind it ask for a run, and for a second one with the same events
abbrev pub RestartAsks : RunOptions → List ℕ → Job → Type 0
RestartAsks options text = RequestThen options text (λ request. Restart request request.script)
