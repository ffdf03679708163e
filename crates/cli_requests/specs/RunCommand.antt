-- The command `run`: what its text asks for.
use Rattle.std.specs.Prelude.{◌≡◌, ℕ, List, drop, Some}
use Rattle.hex_image.specs.HexText.{HexText, hex_fault, hex_word}
use Rattle.hex_image.specs.declared.fault.HexFault.{HexFault}
use Rattle.input_script.specs.Script.{Schedule, IsScript, script_fault, script_word}
use Rattle.input_script.specs.declared.fault.ScriptFault.{ScriptFault}
use Rattle.printed_text.specs.FaultyLines.{hex_part, script_part}
use Rattle.cli_words.specs.declared.command.RunOptions.{RunOptions}
use Rattle.cli_words.specs.declared.job.Job.{Job}
use Rattle.cli_words.specs.declared.job.Job.TheVariants.{Run}
use Rattle.cli_words.specs.declared.request.Request.{Request}
use Rattle.cli_requests.specs.Reading.{IsJudged}

-- a HEX text in front, and what its image and the text behind it ask for
abbrev pub HexThen : List ℕ → (List ℕ → List ℕ → Job → Type 0) → Job → Type 0
HexThen text Then =
    IsJudged (List ℕ × ℕ) hex_part (λ hex. HexText text hex.0 hex.1)
    (λ line word. (fault : HexFault) × (hex_fault text ≡ Some (line, fault)) × (word ≡ hex_word fault))
    (λ hex. Then hex.0 (drop hex.1 text))

-- a script, and what its schedule asks for. Its lines are counted from its own first
abbrev pub ScriptThen : List ℕ → (Schedule → Job → Type 0) → Job → Type 0
ScriptThen text Then =
    IsJudged Schedule script_part (IsScript text)
    (λ line word. (fault : ScriptFault) × (script_fault text ≡ Some (line, fault)) × (word ≡ script_word fault))
    Then

-- a HEX text and a script behind it, and what is asked with the image and this schedule
abbrev pub RequestThen : RunOptions → List ℕ → (Request → Job) → Job → Type 0
RequestThen options text asked =
    HexThen text (λ words behind. ScriptThen behind (λ schedule job. job ≡ asked (record { image = words; script = schedule; options = options })))

-- `run` asks for a run of that
abbrev pub RunAsks : RunOptions → List ℕ → Job → Type 0
RunAsks options text = RequestThen options text Run
