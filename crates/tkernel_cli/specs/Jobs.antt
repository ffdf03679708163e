-- What is done for a job of one program, or of none: what is told, with which status, and the machine that is kept.
use Rattle.std.specs.Prelude.{◌≡◌, Option, None}
use Rattle.program_steps.specs.Machines.{Machine}
use Rattle.cli_words.specs.declared.job.Job.{Job}
use Rattle.cli_words.specs.declared.job.Job.TheVariants as jobs
use Rattle.cli_words.specs.declared.status.Status.{Status}
use Rattle.cli_words.specs.declared.status.Status.TheVariants as status
use Rattle.cli_words.specs.Stream.{Stream}
use Rattle.tkernel_cli.specs.DumpRuns.{HasDumped}
use Rattle.tkernel_cli.specs.RestartRuns.{HasRestarted}
use Rattle.tkernel_cli.specs.Runs.{Says, HasRun}

-- a line or a text is told and nothing is kept; or the program is run, and what is told is that run or the flash that it
-- leaves. Several tasks aren't run
abbrev pub DoesAlone : Job → Stream → Stream → Status → Option Machine → Type 0
DoesAlone (jobs.Print own line) before now told kept = Says own line.items before now told × (kept ≡ None)
DoesAlone (jobs.Run request) before now told kept = HasRun request before now told kept
DoesAlone (jobs.Dump request) before now told kept = HasDumped request before now told kept
DoesAlone (jobs.Restart request again) before now told kept = HasRestarted request before now told kept
DoesAlone (jobs.Tasks request) before now told kept = ⊥
DoesAlone (jobs.Write text) before now told kept = Says status.Done text before now told × (kept ≡ None)
