-- What `check` answers to a HEX text and a dump behind it is what the checker says of them.
use Rattle.std.proofs.Common.{◌≡◌, ℕ, ◌+◌, ◌≤◌, List, length, drop, subst, arith, inl, inr, None, Some}
use Rattle.flash_words.specs.Layouts.{layout_of}
use Rattle.hex_image.specs.HexText.{HexText}
use Rattle.hex_image.proofs.LawLemmas.{never_both, same_image}
use Rattle.flash_dump.specs.Dumps.{IsDump, dump_fault}
use Rattle.pool_check.specs.Verdicts.{IsVerdict}
use Rattle.pool_check.specs.declared.checking.Verdict.{Verdict}
use Rattle.flash_dump.proofs.Judgement as dumps
use Rattle.cli_words.specs.declared.command.Command.TheVariants.{Check}
use Rattle.cli_words.specs.declared.job.Job.{Job}
use Rattle.tkernel_cli.specs.declared.top.Exit.{Exit}
use Rattle.cli_requests.specs.CheckCommand.{CheckAsks, verdict_line, verdict_status}
use Rattle.printed_text.specs.Verdicts.{verdict_text}
use Rattle.cli_words.specs.Commands.{IsCommand}
use Rattle.cli_words.specs.Printed.{no_memory}
use Rattle.cli_requests.specs.Reading.{AsksByText, IsUnread, Bad, Good, most_input}
use Rattle.cli_words.specs.Stream.{Stream}
use Rattle.byte_streams.specs.Streams.{Input}
use Rattle.cli_requests.specs.Asking.{Asks, Tells}
use Rattle.tkernel_cli.specs.Runs.{Says}
use Rattle.tkernel_cli.specs.Answer.{Does, IsAnswer}
use Rattle.cli_requests.proofs.Reasons.{all_taken, taken_of}
use Rattle.cli_words.proofs.OneCommand.{one_command}

-- the line of a verdict on this flash
record IsLine (image flash : List ℕ) (job : Job) : Type 0 where
  verdict : Verdict
  is : IsVerdict (layout_of (length image)) image flash verdict
  line : job ≡ verdict_line verdict

-- what the parts are is one thing each
of_text : (text image flash : List ℕ) (position : ℕ) (job : Job) → HexText text image position → IsDump (drop position text) flash → CheckAsks text job → IsLine image flash job
of_text text image flash position job hex dump (Bad line word bad is) = absurd (never_both text image position line bad.0 hex bad.1)
of_text text image flash position job hex dump (Good value good asks) =
    let same = same_image text value.0 image value.1 position good hex in
    elim asks [
      | Bad line word bad is ↦ absurd (dumps.never_both (drop position text) flash line bad.0 dump (subst (λ p. dump_fault (drop p text) ≡ Some (line, bad.0)) same.1 bad.1))
      | Good words told says ↦
          let words_same = dumps.one_dump (drop position text) words flash (subst (λ p. IsDump (drop p text) words) same.1 told) dump in
          record {
            verdict = says.0;
            is = subst (λ w. IsVerdict (layout_of (length image)) image w says.0) words_same (subst (λ i. IsVerdict (layout_of (length i)) i words says.0) same.0 says.1);
            line = says.2;
          }
    ]

-- what is done for want of memory, or for a verdict
pub data Answers (image flash : List ℕ) (sink sink' : Stream) (exit : Exit) : Type 0 where
  Wanting : Does no_memory sink sink' exit → Answers image flash sink sink' exit
  Verdicts : (verdict : Verdict) → IsVerdict (layout_of (length image)) image flash verdict → Says (verdict_status verdict) (verdict_text verdict) sink sink' exit.status → exit.kept ≡ None
      → Answers image flash sink sink' exit

line_told : (image flash : List ℕ) (sink sink' : Stream) (exit : Exit) (job : Job) → Does job sink sink' exit → IsLine image flash job → Answers image flash sink sink' exit
line_told image flash sink sink' exit job done line =
    let own = subst (λ j. Does j sink sink' exit) line.line done in
    Verdicts line.verdict line.is own.0.0 own.0.1

by_source : (image flash text : List ℕ) (position : ℕ) (source source' : Input) (sink sink' : Stream) (exit : Exit) (job : Job) → Tells source source' text → length text ≤ most_input
    → HexText text image position → IsDump (drop position text) flash → Does job sink sink' exit → AsksByText CheckAsks source source' job → Answers image flash sink sink' exit
by_source image flash text position source source' sink sink' exit job tells short hex dump done (inl (IsUnread.ReadFault is rose taken)) = absurd (tells.read rose)
by_source image flash text position source source' sink sink' exit job tells short hex dump done (inl (IsUnread.TooLong is taken)) =
    absurd (omega (arith, taken_of source source' text (most_input + 1) tells.told taken, short))
by_source image flash text position source source' sink sink' exit job tells short hex dump done (inl (IsUnread.NoMemory is taken)) = Wanting (subst (λ j. Does j sink sink' exit) is done)
by_source image flash text position source source' sink sink' exit job tells short hex dump done (inr judged) =
    let gave = judged.1 in
    let same = all_taken source source' text judged.0 tells.told gave.taken gave.end in
    line_told image flash sink sink' exit job done (of_text text image flash position job hex dump (subst (λ t. CheckAsks t job) same judged.2))

pub check_answers : (words : List (List ℕ)) (image flash text : List ℕ) (position : ℕ) (source source' : Input) (sink sink' : Stream) (exit : Exit) → IsCommand words Check → Tells source source' text
    → length text ≤ most_input → HexText text image position → IsDump (drop position text) flash → IsAnswer words source source' sink sink' exit → Answers image flash sink sink' exit
check_answers words image flash text position source source' sink sink' exit is tells short hex dump answer = elim answer.asked [
  | inl asked ↦
      let same = one_command words asked.0 Check asked.1 is in
      by_source image flash text position source source' sink sink' exit answer.job tells short hex dump answer.done (subst (λ c. Asks c source source' answer.job) same asked.2)
  | inr none ↦ absurd (none.0 Check is)
]
