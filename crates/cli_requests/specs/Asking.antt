-- Which job words and an input ask for.
use Rattle.std.specs.Prelude.{◌≡◌, ◌⊎◌, ℕ, List, ◌++◌, Some}
use Rattle.byte_streams.specs.Faults.{Rose}
use Rattle.byte_streams.specs.Streams.{Input}
use Rattle.cli_words.specs.declared.command.Command.{Command}
use Rattle.cli_words.specs.declared.command.Command.TheVariants.{Help, Run, Dump, Restart, Tasks, Check, Generate, Asm}
use Rattle.cli_words.specs.declared.job.Job.{Job}
use Rattle.cli_words.specs.declared.status.Status.{Status}
use Rattle.cli_words.specs.declared.status.Status.TheVariants as status
use Rattle.cli_words.specs.Commands.{IsCommand, IsNoCommand}
use Rattle.cli_words.specs.Printed.{no_memory, usage}
use Rattle.cli_requests.specs.Reading.{AsksByText, Limited}
use Rattle.cli_requests.specs.AsmCommand.{AsmAsks}
use Rattle.cli_requests.specs.CheckCommand.{CheckAsks}
use Rattle.cli_requests.specs.DumpCommand.{DumpAsks}
use Rattle.cli_requests.specs.RestartCommand.{RestartAsks}
use Rattle.cli_requests.specs.RunCommand.{RunAsks}
use Rattle.cli_requests.specs.TasksCommand.{TasksAsks}
use Rattle.cli_requests.specs.GenerateCommand.{generated_run}

-- What is asked for: the usage line; a job that is made without an input; or what a text that is read asks for, by this rule.
pub data Wanted : Type 1 where
  UsageLine : Wanted
  Made : Job → Wanted
  ByText : (List ℕ → Job → Type 0) → Wanted

-- the table of the commands
abbrev pub wanted : Command → Wanted
wanted Help = UsageLine
wanted (Run options) = ByText (RunAsks options)
wanted (Dump options) = ByText (DumpAsks options)
wanted (Restart options) = ByText (RestartAsks options)
wanted (Tasks options) = ByText (TasksAsks options)
wanted Check = ByText CheckAsks
wanted (Generate seed) = Made (generated_run seed)
wanted Asm = ByText AsmAsks

-- this job is asked for so, and what was read by then
abbrev pub AsksFor : Wanted → Input → Input → Job → Type 0
AsksFor UsageLine before now job = (job ≡ usage status.Done) × (now ≡ before)
AsksFor (Made own) before now job = ((job ≡ own) ⊎ (job ≡ no_memory)) × (now ≡ before)
AsksFor (ByText Rule) before now job = AsksByText Rule before now job

-- .. by a command
abbrev pub Asks : Command → Input → Input → Job → Type 0
Asks command before now job = AsksFor (wanted command) before now job

-- The text that the source has, where it tells one; else what it gave, where it keeps that.
abbrev pub HasText : Input → Input → List ℕ → Type 0
HasText before now text = (before.left ≡ Some text) ⊎ ((first : List ℕ) × (before.given ≡ Some first) × (now.given ≡ Some (first ++ text)))

-- The source has this text, and doesn't fail.
pub record Tells (before now : Input) (text : List ℕ) : Type 0 where
  pub told : HasText before now text
  pub read : Rose before.faults now.faults → ⊥

-- it is asked for, if memory serves, by the whole text of its source; the source is spoken of only where it is read
abbrev pub Warrants : Wanted → Input → Input → Job → Type 0
Warrants UsageLine before now job = job ≡ usage status.Done
Warrants (Made own) before now job = job ≡ own
Warrants (ByText Rule) before now job = (text : List ℕ) × Tells before now text × Limited Rule text job

-- the words are a command, and it asks for the job; words that are none are refused, and nothing is read
abbrev pub IsAsked : List (List ℕ) → Input → Input → Job → Type 0
IsAsked words before now job =
    ((command : Command) × IsCommand words command × Asks command before now job)
    ⊎ (IsNoCommand words × (job ≡ usage status.Usage) × (now ≡ before))

-- the same, if memory serves
abbrev pub IsWarranted : List (List ℕ) → Input → Input → Job → Type 0
IsWarranted words before now job =
    ((command : Command) × IsCommand words command × Warrants (wanted command) before now job)
    ⊎ (IsNoCommand words × (job ≡ usage status.Usage))

-- the words ask for the usage line, with this status: `help`, or words that are no command
abbrev pub AskForUsage : List (List ℕ) → Status → Type 0
AskForUsage words own = (IsCommand words Help × (own ≡ status.Done)) ⊎ (IsNoCommand words × (own ≡ status.Usage))
