-- What command lines ask for.
use Rattle.std.specs.Prelude.{◌≡◌, ℕ, ◌≤◌, List, [], ◌∷◌, length, All, Option, codes}
use Rattle.cli_words.specs.declared.table.Row.{Row}
use Rattle.cli_words.specs.declared.command.Command.{Command}
use Rattle.cli_words.specs.declared.command.RunOptions.{RunOptions}
use Rattle.cli_words.specs.declared.command.TaskOptions.{TaskOptions}
use Rattle.cli_words.specs.declared.command.Command.TheVariants.{Help, Run, Dump, Restart, Tasks, Check, Generate, Asm}
use Rattle.cli_words.specs.declared.job.Job.{Job}
use Rattle.cli_words.specs.declared.job.Job.TheVariants as jobs
use Rattle.cli_words.specs.declared.request.TaskRequest.{TaskRequest}
use Rattle.task_input.specs.Images.{IsMisplaced}
use Rattle.cli_words.specs.Options.{AreValues, Choose, nothing, run_rows, seed_rows, tasks_rows}

-- the numbers of the options of a run, in the order of their rows
abbrev pub run_numbers : RunOptions → List ℕ
run_numbers options = options.steps ∷ options.quantum ∷ options.swap ∷ []

-- The table of the commands: the word of each, what it takes, and the values of that.
abbrev pub entry_of : Command → List ℕ × List Row × List ℕ
entry_of Help = (codes "help", [], [])
entry_of (Run options) = (codes "run", run_rows, run_numbers options)
entry_of (Dump options) = (codes "dump", run_rows, run_numbers options)
entry_of (Restart options) = (codes "restart", run_rows, run_numbers options)
entry_of (Tasks options) = (codes "tasks", tasks_rows, options.count ∷ options.steps ∷ options.quantum ∷ options.swap ∷ [])
entry_of Check = (codes "check", [], [])
entry_of (Generate seed) = (codes "generate", seed_rows, seed ∷ [])
entry_of Asm = (codes "asm", [], [])

-- the words are this command: its own word, and behind it words that choose its values
abbrev pub IsCommand : List (List ℕ) → Command → Type 0
IsCommand [] command = ⊥
IsCommand (word ∷ rest) command =
    (word ≡ (entry_of command).0)
    × ((chosen : List (Option ℕ)) × Choose (entry_of command).1 rest nothing chosen × AreValues (entry_of command).1 chosen (entry_of command).2)

-- the words are no command
abbrev pub IsNoCommand : List (List ℕ) → Type 0
IsNoCommand words = (command : Command) → ¬ IsCommand words command

-- a run has such options, and every other command can be carried out
abbrev pub AreOptions : RunOptions → Type 0
AreOptions options = (1 ≤ options.quantum) × (options.swap ≤ 251) × (options.steps ≤ 1000000000)

abbrev pub AreTaskOptions : TaskOptions → Type 0
AreTaskOptions options = (1 ≤ options.count) × (options.count ≤ 4) × (1 ≤ options.quantum) × (options.swap ≤ 62) × (options.steps ≤ 1000000000)

abbrev pub IsPossible : Command → Type 0
IsPossible (Run options) = AreOptions options
IsPossible (Dump options) = AreOptions options
IsPossible (Restart options) = AreOptions options
IsPossible (Tasks options) = AreTaskOptions options
IsPossible _ = Unit {0}

-- a job that runs a program
abbrev pub RunsAProgram : Job → Type 0
RunsAProgram (jobs.Run request) = Unit {0}
RunsAProgram (jobs.Dump request) = Unit {0}
RunsAProgram (jobs.Restart request again) = Unit {0}
RunsAProgram (jobs.Tasks request) = Unit {0}
RunsAProgram _ = ⊥

-- a script without failing operations for each task, and an image whose words are all a task's
pub record AreTasks (request : TaskRequest) : Type 0 where
  pub possible : AreTaskOptions request.options
  pub each_task : length request.scripts ≡ request.options.count
  pub unfailing : All (λ script. script.failing ≡ []) request.scripts
  pub placed : (address : ℕ) → ¬ IsMisplaced request.options.count request.image address

abbrev pub IsPossibleJob : Job → Type 0
IsPossibleJob (jobs.Run request) = AreOptions request.options
IsPossibleJob (jobs.Dump request) = AreOptions request.options
IsPossibleJob (jobs.Restart request again) = AreOptions request.options × (again ≡ request.script)
IsPossibleJob (jobs.Tasks request) = AreTasks request
IsPossibleJob _ = Unit {0}
