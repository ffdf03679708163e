-- What the program answers: to which words and which input, with which status and text.
use Rattle.std.specs.Prelude.{◌≡◌, ◌⊎◌, ℕ, List, None}
use Rattle.cli_words.specs.declared.job.Job.{Job}
use Rattle.cli_words.specs.declared.job.Job.TheVariants as jobs
use Rattle.cli_words.specs.declared.status.Status.{Status}
use Rattle.cli_requests.specs.Asking.{IsAsked, IsWarranted, AskForUsage}
use Rattle.cli_words.specs.Printed as printed
use Rattle.cli_words.specs.Printed.{no_memory}
use Rattle.cli_words.specs.Stream.{Stream}
use Rattle.byte_streams.specs.Streams.{Input}
use Rattle.tkernel_cli.specs.Jobs.{DoesAlone}
use Rattle.tkernel_cli.specs.declared.top.Exit.{Exit}
use Rattle.tkernel_cli.specs.TasksRuns.{HasTasksRun}

-- A job is done: several programs are run in turn; or its line or its text is told, or its program is run, and what is told
-- is that run or the flash that it leaves, and no tasks are kept.
abbrev pub Does : Job → Stream → Stream → Exit → Type 0
Does (jobs.Tasks request) sink sink' exit = HasTasksRun request sink sink' exit
Does job sink sink' exit = DoesAlone job sink sink' exit.status exit.kept × (exit.tasks ≡ None)

-- A call does a job that its words and its input ask for.
pub record IsAnswer (words : List (List ℕ)) (source source' : Input) (sink sink' : Stream) (exit : Exit) : Type 0 where
  pub job : Job
  pub asked : IsAsked words source source' job
  pub done : Does job sink sink' exit

-- The job that is warranted is done, whether or not the sink fails; or the line is told that memory is wanted. For the usage line
-- none is wanted, and nothing is read.
pub record IsExact (words : List (List ℕ)) (source source' : Input) (sink sink' : Stream) (exit : Exit) : Type 0 where
  pub done : (job : Job) → IsWarranted words source source' job → Does no_memory sink sink' exit ⊎ Does job sink sink' exit
  pub usage : (own : Status) → AskForUsage words own → Does (printed.usage own) sink sink' exit × (source' ≡ source)
