-- The command `tasks`: what its text asks for.
use Rattle.std.specs.Prelude.{◌≡◌, ℕ, List, Some}
use Rattle.input_script.specs.Script.{Schedule, script_word}
use Rattle.input_script.specs.declared.fault.ScriptFault.{ScriptFault}
use Rattle.printed_text.specs.FaultyLines.{bad_image_text, script_part}
use Rattle.task_input.specs.Images.{IsFirstMisplaced, IsMisplaced}
use Rattle.task_input.specs.Scripts.{Schedules, scripts_fault}
use Rattle.cli_words.specs.declared.command.TaskOptions.{TaskOptions}
use Rattle.cli_words.specs.declared.job.Job.{Job}
use Rattle.cli_words.specs.declared.job.Job.TheVariants.{Print, Tasks}
use Rattle.cli_words.specs.declared.status.Status.TheVariants.{BadInput}
use Rattle.cli_requests.specs.Reading.{IsJudged}
use Rattle.cli_requests.specs.RunCommand.{HexThen}

-- a script of so many tasks, and what its schedules ask for. Its lines are counted from its own first
abbrev pub TaskScriptsThen : (count : ℕ) → List ℕ → (List Schedule → Job → Type 0) → Job → Type 0
TaskScriptsThen count text Then =
    IsJudged (List Schedule) script_part (Schedules count text)
    (λ line word. (fault : ScriptFault) × (scripts_fault count text ≡ Some (line, fault)) × (word ≡ script_word fault))
    Then

-- a word stands in the image where no task has one
abbrev pub bad_image : (address : ℕ) → Job
bad_image address = Print BadInput (record { items = bad_image_text address })

-- An image with a word that no task has is refused, with the first of these; any other asks for the job.
pub data IsPlaced (count : ℕ) (image : List ℕ) (asked job : Job) : Type 0 where
  Refused : (address : ℕ) → IsFirstMisplaced count image address → job ≡ bad_image address → IsPlaced count image asked job
  Placed : ((address : ℕ) → ¬ IsMisplaced count image address) → job ≡ asked → IsPlaced count image asked job

-- a HEX text and a script of the tasks behind it ask for their run; the image is judged behind the script
abbrev pub TasksAsks : TaskOptions → List ℕ → Job → Type 0
TasksAsks options text =
    HexThen text (λ image behind. TaskScriptsThen options.count behind (λ schedules job.
    IsPlaced options.count image (Tasks (record { image = image; scripts = schedules; options = options })) job))
