-- The command `generate`: the run of a test program, without a script.
use Rattle.std.specs.Prelude.{ℕ}
use Rattle.input_script.specs.Script.{nothing}
use Rattle.program_generator.specs.Generated.{generated}
use Rattle.cli_words.specs.declared.job.Job.{Job}
use Rattle.cli_words.specs.declared.job.Job.TheVariants.{Run}
use Rattle.cli_words.specs.Options.{default_options}

-- the run of a seed
abbrev pub generated_run : ℕ → Job
generated_run seed = Run (record { image = generated seed; script = nothing; options = record default_options { steps = 10000000 } })
