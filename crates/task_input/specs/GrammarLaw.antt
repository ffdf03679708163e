-- Serves the contract of `grammar`: the format of the script of several tasks as relations, and that the functions of `Scripts` say
-- the same.
use Rattle.std.specs.Prelude.{◌≡◌, ℕ, ◌+◌, ◌<◌, ◌⊎◌, ◌↔◌, ⊤, List, [], ◌∷◌, ◌++◌, length, codes, slice_index_or, Some}
use Rattle.text_lines.specs.Lines.{lines_of}
use Rattle.text_lines.specs.Pieces.{task_text}
use Rattle.input_script.specs.declared.fault.ScriptFault.{ScriptFault}
use Rattle.input_script.specs.declared.fault.ScriptFault.TheVariants.{Form}
use Rattle.input_script.specs.GrammarLaw as script
use Rattle.input_script.specs.Script.{Schedule, nothing}
use Rattle.task_input.specs.Scripts.{Schedules, scripts_fault}

-- the name of a task, and behind it what begins as an event does
abbrev pub Names : ℕ → List ℕ → List ℕ → Type 0
Names task line event = (line ≡ task_text task ++ event) × ((rest : List ℕ) × (event ≡ codes "at " ++ rest))

-- a line of the first `count` tasks' script: it is empty, begins with `#`, or names one of them
abbrev pub IsLine : (count : ℕ) → List ℕ → Type 0
IsLine count line = (line ≡ []) ⊎ ((comment : List ℕ) × (line ≡ codes "#" ++ comment)) ⊎ ((task : ℕ) × (task < count) × ((event : List ℕ) × Names task line event))

abbrev pub AreLines : (count : ℕ) → List (List ℕ) → Type 0
AreLines count [] = ⊤
AreLines count (line ∷ lines) = IsLine count line × AreLines count lines

-- a line of a task's own script: the event, where the line names the task; it is empty where it doesn't
abbrev pub IsOwn : ℕ → List ℕ → List ℕ → Type 0
IsOwn task line own = Names task line own ⊎ (((event : List ℕ) → ¬ Names task line event) × (own ≡ []))

abbrev pub AreOwn : ℕ → List (List ℕ) → List (List ℕ) → Type 0
AreOwn task [] owns = owns ≡ []
AreOwn task (line ∷ lines) owns = (own : List ℕ) × (more : List (List ℕ)) × (owns ≡ own ∷ more) × IsOwn task line own × AreOwn task lines more

-- lines that are accepted: each task's own are a script
pub record Accepts (count : ℕ) (lines : List (List ℕ)) (schedules : List Schedule) : Type 0 where
  pub formed : AreLines count lines
  pub size : length schedules ≡ count
  pub each : (task : ℕ) → task < count → (owns : List (List ℕ)) × AreOwn task lines owns × script.Accepts owns (slice_index_or schedules task nothing)

-- the first thing that is wrong behind lines that are accepted: the next has no form, or is the first faulty one of a task's own script
abbrev pub IsWrong : (count : ℕ) → List (List ℕ) → List ℕ → ScriptFault → Type 0
IsWrong count front line fault = ((fault ≡ Form) × ¬ IsLine count line)
    ⊎ ((task : ℕ) × (task < count) × ((owns : List (List ℕ)) × AreOwn task (front ++ line ∷ []) owns × script.IsFaulty owns (length front + 1) fault))

-- the lines before are accepted, and the line with this number, from 1, is wrong
pub record IsFaulty (count : ℕ) (lines : List (List ℕ)) (number : ℕ) (fault : ScriptFault) : Type 0 where
  pub front : List (List ℕ)
  pub line : List ℕ
  pub rest : List (List ℕ)
  pub cut : lines ≡ front ++ line ∷ rest
  pub number_is : number ≡ length front + 1
  pub before : List Schedule
  pub accepted : Accepts count front before
  pub wrong : IsWrong count front line fault

-- both say the same of an accepted text, and of a faulty one
abbrev pub TextsAgree : Type 0
TextsAgree = (count : ℕ) (text : List ℕ) (schedules : List Schedule) → Schedules count text schedules ↔ Accepts count (lines_of text) schedules

abbrev pub FaultsAgree : Type 0
FaultsAgree = (count : ℕ) (text : List ℕ) (number : ℕ) (fault : ScriptFault) → (scripts_fault count text ≡ Some (number, fault)) ↔ IsFaulty count (lines_of text) number fault
