-- What a text asks for is one thing.
use Rattle.std.proofs.Common.{◌≡◌, ℕ, List, drop, arith, sym, ap, ap₂, ◌∙◌, subst}
use Rattle.hex_image.specs.HexText.{HexText, hex_fault, hex_word}
use Rattle.hex_image.proofs.LawLemmas.{few_words, never_both, same_fault, same_image}
use Rattle.hex_image.specs.declared.fault.HexFault.{HexFault}
use Rattle.input_script.specs.Script.{Schedule, IsScript, script_fault, script_word}
use Rattle.input_script.specs.declared.fault.ScriptFault.{ScriptFault}
use Rattle.input_script.proofs.Judgement as scripts
use Rattle.text_lines.proofs.FaultLaws as faults
use Rattle.task_input.specs.Scripts.{Schedules, scripts_fault}
use Rattle.task_input.proofs.FirstFaults.{first_one, schedules_apart, schedules_one}
use Rattle.cli_words.specs.declared.command.Command.{Command}
use Rattle.cli_words.specs.declared.command.Command.TheVariants.{Run, Dump, Restart, Tasks, Check, Asm}
use Rattle.cli_words.specs.declared.command.RunOptions.{RunOptions}
use Rattle.cli_words.specs.declared.command.TaskOptions.{TaskOptions}
use Rattle.cli_words.specs.declared.job.Job.{Job}
use Rattle.flash_dump.specs.DumpLines.{dump_word}
use Rattle.cli_words.specs.Printed.{bad_part}
use Rattle.cli_requests.specs.Reading.{IsJudged, Bad, Good}
use Rattle.cli_requests.specs.AsmCommand.{AsmAsks}
use Rattle.cli_requests.specs.RunCommand.{RequestThen, RunAsks}
use Rattle.avr_asm.specs.AsmText.{AsmText, fault_of, asm_word}
use Rattle.avr_asm.specs.declared.fault.AsmFault.{AsmFault}
use Rattle.avr_asm.proofs.OneImage.{same_words}
use Rattle.std.specs.Prelude.{Some, None}
use Rattle.flash_words.proofs.LayoutLaws.{layout_right}
use Rattle.flash_dump.specs.Dumps.{IsDump, dump_fault}
use Rattle.flash_dump.specs.declared.dump_line.DumpFault.{DumpFault}
use Rattle.flash_dump.proofs.Judgement as dumps
use Rattle.pool_check.proofs.Judgement.{one_verdict}
use Rattle.cli_words.specs.declared.request.Request.{Request}
use Rattle.cli_words.specs.declared.job.Job.TheVariants as jobs
use Rattle.cli_requests.specs.CheckCommand.{CheckAsks, verdict_line}
use Rattle.cli_requests.specs.DumpCommand.{DumpAsks}
use Rattle.cli_requests.specs.RestartCommand.{RestartAsks}
use Rattle.cli_requests.specs.Asking.{Wanted, ByText, wanted}
use Rattle.cli_requests.specs.TasksCommand.{IsPlaced, Refused, Placed, bad_image, TasksAsks}

-- one job is asked for
abbrev pub IsOne : (Job → Type 0) → Type 0
IsOne Asks = (a b : Job) → Asks a → Asks b → a ≡ b

-- a part of a text is one thing, or has one fault, and not both
record IsOnePart (V : Type 0) (Is : V → Type 0) (IsBad : ℕ → List ℕ → Type 0) : Type 0 where
  one : (a b : V) → Is a → Is b → a ≡ b
  one_fault : (line other : ℕ) (word word' : List ℕ) → IsBad line word → IsBad other word' → (line ≡ other) × (word ≡ word')
  apart : (a : V) (line : ℕ) (word : List ℕ) → Is a → ¬ IsBad line word

-- so it asks for one job, where each thing that it may be does
one_judged : (V : Type 0) (part : List ℕ) (Is : V → Type 0) (IsFaulty : ℕ → List ℕ → Type 0) (Then : V → Job → Type 0) → IsOnePart V Is IsFaulty → ((value : V) → Is value → IsOne (Then value))
    → IsOne (IsJudged V part Is IsFaulty Then)
one_judged V part Is IsFaulty Then part_is then_is a b first second = elim first [
  | Bad line word bad is ↦ elim second [
    | Bad line' word' bad' is' ↦ let same = part_is.one_fault line line' word word' bad bad' in is ∙ ap₂ (bad_part part) same.0 same.1 ∙ sym is'
    | Good value good asks ↦ absurd (part_is.apart value line word good bad)
  ]
  | Good value good asks ↦ elim second [
    | Bad line word bad is ↦ absurd (part_is.apart value line word good bad)
    | Good value' good' asks' ↦ then_is value' good' a b (subst (λ v. Then v a) (part_is.one value value' good good') asks) asks'
  ]
]

-- A HEX text, and a script. -------------------------------------------------------------------------------

one_hex : (text : List ℕ) → IsOnePart (List ℕ × ℕ) (λ hex. HexText text hex.0 hex.1) (λ line word. (fault : HexFault) × (hex_fault text ≡ Some (line, fault)) × (word ≡ hex_word fault))
one_hex text = record {
  one = λ a b first second. let same = same_image text a.0 b.0 a.1 b.1 first second in ap₂ (λ words position. (words, position)) same.0 same.1;
  one_fault = λ line other word word' first second.
      let same = same_fault text line other first.0 second.0 first.1 second.1 in
      (same.0, first.2 ∙ ap hex_word same.1 ∙ sym second.2);
  apart = λ a line word good bad. never_both text a.0 a.1 line bad.0 good bad.1;
}

one_script : (text : List ℕ) → IsOnePart Schedule (IsScript text) (λ line word. (fault : ScriptFault) × (script_fault text ≡ Some (line, fault)) × (word ≡ script_word fault))
one_script text = record {
  one = λ a b first second. scripts.one_schedule text a b first second;
  one_fault = λ line other word word' first second.
      let same = scripts.one_fault text line other first.0 second.0 first.1 second.1 in
      (same.0, first.2 ∙ ap script_word same.1 ∙ sym second.2);
  apart = λ schedule line word good bad. scripts.never_both text schedule line bad.0 good bad.1;
}

-- A script of several tasks, and an image that is placed. ----------------------------------------------------

one_scripts : (count : ℕ) (text : List ℕ)
    → IsOnePart (List Schedule) (Schedules count text) (λ line word. (fault : ScriptFault) × (scripts_fault count text ≡ Some (line, fault)) × (word ≡ script_word fault))
one_scripts count text = record {
  one = λ a b first second. schedules_one count text a b first second;
  one_fault = λ line other word word' first second.
      let same = first_one count text line other first.0 second.0 first.1 second.1 in
      (same.0, first.2 ∙ ap script_word same.1 ∙ sym second.2);
  apart = λ schedules line word good bad. schedules_apart count text schedules line bad.0 good bad.1;
}

one_placed : (count : ℕ) (image : List ℕ) (asked : Job) → IsOne (IsPlaced count image asked)
one_placed count image asked a b (Refused address first is) (Refused other first' is') =
    let same : address ≡ other = omega (arith, first.least other first'.is, first'.least address first.is) in
    is ∙ ap bad_image same ∙ sym is'
one_placed count image asked a b (Refused address first is) (Placed none is') = absurd (none address first.is)
one_placed count image asked a b (Placed none is) (Refused address first is') = absurd (none address first.is)
one_placed count image asked a b (Placed none is) (Placed none' is') = is ∙ sym is'

-- A dump. ------------------------------------------------------------------------------------------------

one_flash : (text : List ℕ) → IsOnePart (List ℕ) (IsDump text) (λ line word. (fault : DumpFault) × (dump_fault text ≡ Some (line, fault)) × (word ≡ dump_word fault))
one_flash text = record {
  one = λ a b first second. dumps.one_dump text a b first second;
  one_fault = λ line other word word' first second.
      let same = dumps.one_fault text line other first.0 second.0 first.1 second.1 in
      (same.0, first.2 ∙ ap dump_word same.1 ∙ sym second.2);
  apart = λ words line word good bad. dumps.never_both text words line bad.0 good bad.1;
}

-- A source. -----------------------------------------------------------------------------------------------

one_assembled : (text : List ℕ)
    → IsOnePart (List ℕ) (λ words. (fault_of text ≡ None) × AsmText text words) (λ line word. (fault : AsmFault) × (fault_of text ≡ Some (line, fault)) × (word ≡ asm_word fault))
one_assembled text = record {
  one = λ a b first second. same_words text a b first.1 second.1;
  one_fault = λ line other word word' first second.
      let same = faults.same_fault (fault_of text) line other first.0 second.0 first.1 second.1 in
      (same.0, first.2 ∙ ap asm_word same.1 ∙ sym second.2);
  apart = λ a line word good bad. faults.not_both (fault_of text) line bad.0 good.0 bad.1;
}

-- the commands that read
one_request : (options : RunOptions) (text : List ℕ) (asked : Request → Job) → IsOne (RequestThen options text asked)
one_request options text asked =
    one_judged _ _ _ _ _ (one_hex text)
    (λ hex is. one_judged _ _ _ _ _ (one_script (drop hex.1 text)) (λ schedule is' a b first second. first ∙ sym second))

one_run : (options : RunOptions) (text : List ℕ) → IsOne (RunAsks options text)
one_run options text = one_request options text jobs.Run

one_dump : (options : RunOptions) (text : List ℕ) → IsOne (DumpAsks options text)
one_dump options text = one_request options text jobs.Dump

one_restart : (options : RunOptions) (text : List ℕ) → IsOne (RestartAsks options text)
one_restart options text = one_request options text (λ request. jobs.Restart request request.script)

one_tasks : (options : TaskOptions) (text : List ℕ) → IsOne (TasksAsks options text)
one_tasks options text =
    one_judged _ _ _ _ _ (one_hex text)
    (λ hex is. one_judged _ _ _ _ _ (one_scripts options.count (drop hex.1 text)) (λ schedules is'. one_placed options.count hex.0 _))

one_check : (text : List ℕ) → IsOne (CheckAsks text)
one_check text =
    one_judged _ _ _ _ _ (one_hex text)
    (λ hex is. one_judged _ _ _ _ _ (one_flash (drop hex.1 text)) (λ words is' a b first second.
    first.2 ∙ ap verdict_line (one_verdict _ hex.0 words first.0 second.0 (layout_right _ (few_words text hex.0 hex.1 is)) first.1 second.1) ∙ sym second.2))

one_source : (text : List ℕ) → IsOne (AsmAsks text)
one_source text = one_judged _ _ _ _ _ (one_assembled text) (λ words is a b first second. first ∙ sym second)

-- of each command that reads, the rule asks for one job of each text
abbrev pub IsOneRule : Wanted → Type 0
IsOneRule (ByText Rule) = (text : List ℕ) → IsOne (Rule text)
IsOneRule _ = Unit {0}

pub one_rule : (command : Command) → IsOneRule (wanted command)
one_rule (Run options) = one_run options
one_rule (Dump options) = one_dump options
one_rule (Restart options) = one_restart options
one_rule (Tasks options) = one_tasks options
one_rule Check = one_check
one_rule Asm = one_source
one_rule _ = tt

-- two readings of a text are one
request_is : (a b : Request) → jobs.Run a ≡ jobs.Run b → a ≡ b
request_is a b same = cc

pub same_request : (options : RunOptions) (text : List ℕ) (a b : Request) → RunAsks options text (jobs.Run a) → RunAsks options text (jobs.Run b) → a ≡ b
same_request options text a b first second = request_is a b (one_run options text (jobs.Run a) (jobs.Run b) first second)
