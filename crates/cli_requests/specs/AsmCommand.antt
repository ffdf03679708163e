-- The command `asm`: the HEX text of a source's image.
use Rattle.std.specs.Prelude.{◌≡◌, ℕ, List, None, Some}
use Rattle.hex_image.specs.Written.{written}
use Rattle.avr_asm.specs.AsmText.{AsmText, fault_of, asm_word}
use Rattle.avr_asm.specs.declared.fault.AsmFault.{AsmFault}
use Rattle.printed_text.specs.FaultyLines.{asm_part}
use Rattle.cli_words.specs.declared.job.Job.{Job}
use Rattle.cli_words.specs.declared.job.Job.TheVariants.{Write}
use Rattle.cli_requests.specs.Reading.{IsJudged}

-- the words of a source without a fault ask for their HEX text
abbrev pub AsmAsks : List ℕ → Job → Type 0
AsmAsks text =
    IsJudged (List ℕ) asm_part (λ words. (fault_of text ≡ None) × AsmText text words)
    (λ line word. (fault : AsmFault) × (fault_of text ≡ Some (line, fault)) × (word ≡ asm_word fault))
    (λ words job. job ≡ Write (written words))
