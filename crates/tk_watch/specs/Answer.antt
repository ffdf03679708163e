-- What the program answers: to which words and which input, with which status and text.
use Rattle.std.specs.Prelude.{◌⊎◌, ℕ, List}
use Rattle.cli_words.specs.declared.job.Job.{Job}
use Rattle.cli_words.specs.declared.job.Job.TheVariants as jobs
use Rattle.cli_words.specs.declared.status.Status.{Status}
use Rattle.cli_words.specs.Printed.{no_memory}
use Rattle.cli_words.specs.Stream.{Stream}
use Rattle.byte_streams.specs.Streams.{Input}
use Rattle.tkernel_cli.specs.Runs.{Says}
use Rattle.tk_watch.specs.declared.view.View.{View}
use Rattle.tk_watch.specs.Views.{Shows}
use Rattle.tk_watch.specs.Words.{IsAsked, IsWarranted}

-- a run is shown, or a line is told; nothing else is asked for
abbrev pub Does : View → Job → Stream → Stream → Status → Type 0
Does view (jobs.Run request) sink sink' told = Shows view request sink sink' told
Does view (jobs.Print own line) sink sink' told = Says own line.items sink sink' told
Does view _ sink sink' told = ⊥

-- A call does a job that its words and its input ask for.
pub record IsAnswer (words : List (List ℕ)) (source source' : Input) (sink sink' : Stream) (told : Status) : Type 0 where
  pub view : View
  pub job : Job
  pub asked : IsAsked words source source' view job
  pub done : Does view job sink sink' told

-- The job that is warranted is done, whether or not the sink fails; or the line is told that memory is wanted.
abbrev pub IsExact : List (List ℕ) → Input → Input → Stream → Stream → Status → Type 0
IsExact words source source' sink sink' told =
    (view : View) (job : Job) → IsWarranted words source source' view job → Does view no_memory sink sink' told ⊎ Does view job sink sink' told
