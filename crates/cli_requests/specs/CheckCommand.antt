-- The command `check`: what its text asks for.
use Rattle.std.specs.Prelude.{◌≡◌, ℕ, List, length, Some}
use Rattle.flash_words.specs.Layouts.{layout_of}
use Rattle.flash_dump.specs.Dumps.{IsDump, dump_fault}
use Rattle.pool_check.specs.Verdicts.{IsVerdict}
use Rattle.pool_check.specs.declared.checking.Verdict.{Verdict}
use Rattle.pool_check.specs.declared.checking.Verdict.TheVariants.{Faithful, Form, Links}
use Rattle.flash_dump.specs.declared.dump_line.DumpFault.{DumpFault}
use Rattle.printed_text.specs.FaultyLines.{dump_part}
use Rattle.flash_dump.specs.DumpLines.{dump_word}
use Rattle.printed_text.specs.Verdicts.{verdict_text}
use Rattle.cli_words.specs.declared.job.Job.{Job}
use Rattle.cli_words.specs.declared.job.Job.TheVariants.{Print}
use Rattle.cli_words.specs.declared.status.Status.{Status}
use Rattle.cli_words.specs.declared.status.Status.TheVariants.{Done, Fault}
use Rattle.cli_requests.specs.Reading.{IsJudged}
use Rattle.cli_requests.specs.RunCommand.{HexThen}

-- what is said of a verdict
abbrev pub verdict_status : Verdict → Status
verdict_status (Faithful pages) = Done
verdict_status (Form page) = Fault
verdict_status (Links page) = Fault

abbrev pub verdict_line : Verdict → Job
verdict_line verdict = Print (verdict_status verdict) (record { items = verdict_text verdict })

-- a dump, and what its words ask for. Its lines are counted from its own first
abbrev pub DumpThen : List ℕ → (List ℕ → Job → Type 0) → Job → Type 0
DumpThen text Then =
    IsJudged (List ℕ) dump_part (IsDump text)
    (λ line word. (fault : DumpFault) × (dump_fault text ≡ Some (line, fault)) × (word ≡ dump_word fault))
    Then

-- a HEX text and a dump behind it ask whether the dump's flash holds the image and faithful rewritten code of it
abbrev pub CheckAsks : List ℕ → Job → Type 0
CheckAsks text =
    HexThen text (λ image behind. DumpThen behind (λ words job. (verdict : Verdict) × IsVerdict (layout_of (length image)) image words verdict × (job ≡ verdict_line verdict)))
