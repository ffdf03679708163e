-- That the other files tell of each call, unless memory was wanted.
use Rattle.std.specs.Prelude.{◌≡◌, ℕ, List, Option, None}
use Rattle.program_steps.specs.Machines.{Machine}
use Rattle.tk_tasks.specs.States.{Tasks as KeptTasks}
use Rattle.theorem_reader.specs.Checks.{AsksCheck}
use Rattle.theorem_reader.specs.Dumps.{AsksDump}
use Rattle.theorem_reader.specs.Refusals.{AsksAsm, IsRefused, IsUsage, ReadsText}
use Rattle.theorem_reader.specs.Restarts.{AsksRestart}
use Rattle.theorem_reader.specs.Runs.{Asked, Asks, AsksGenerate}
use Rattle.theorem_reader.specs.Tasks.{AskedTasks, AsksTasks}
use Rattle.theorem_reader.specs.Telling.{Sink, IsTold}
use Rattle.theorem_reader.specs.Texts.{no_memory}

-- The words and the text ask for one of these. The last are texts that are refused, with this line, and words that
-- are answered with the usage line, and this status.
pub data IsAsked (words : List (List ℕ)) (text : List ℕ) : Type 0 where
  Run : (asked : Asked) → Asks words text asked → IsAsked words text
  Dump : (asked : Asked) → AsksDump words text asked → IsAsked words text
  Restart : (asked : Asked) → AsksRestart words text asked → IsAsked words text
  Several : (asked : AskedTasks) → AsksTasks words text asked → IsAsked words text
  Check : (image flash : List ℕ) → AsksCheck words text image flash → IsAsked words text
  Assemble : (image : List ℕ) → AsksAsm words text image → IsAsked words text
  Generate : (seed : ℕ) → AsksGenerate words seed → IsAsked words text
  Refuse : (line : List ℕ) → IsRefused words text line → IsAsked words text
  Tell : (own : ℕ) → IsUsage words own → IsAsked words text

-- the words are those of a command that reads a text, and memory was wanted, which is all that is told; neither a machine nor
-- tasks are kept
abbrev pub IsWanting : (words : List (List ℕ)) → Sink → (status : ℕ) (taken : List ℕ) → Option Machine → Option KeptTasks → Type 0
IsWanting words sink status taken kept tasks = ReadsText words × IsTold sink 8 no_memory status taken × (kept ≡ None) × (tasks ≡ None)

-- The words are those of a command that reads a text, or of `generate`, or they are answered with the usage line.
pub data AreCovered (words : List (List ℕ)) : Type 0 where
  Reads : ReadsText words → AreCovered words
  Makes : (seed : ℕ) → AsksGenerate words seed → AreCovered words
  Tells : (own : ℕ) → IsUsage words own → AreCovered words
