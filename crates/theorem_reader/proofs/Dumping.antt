-- What `dump` answers.
use Rattle.std.proofs.Common.{◌≡◌, ℕ, Bool, true, false, if◌then◌else◌, List, [], ◌∷◌, ◌++◌, flat_map, refl, ap, inl, inr}
use Rattle.std.specs.List.{range_with_len}
use Rattle.flash_words.specs.Pages.{page_of}
use Rattle.text_lines.specs.Written.{fed}
use Rattle.flash_dump.specs.WrittenDumps.{lines_of_page, page_line, is_erased}
use Rattle.program_steps.specs.Machines.{Machine}
use Rattle.cli_words.specs.declared.command.Command.TheVariants.{Dump}
use Rattle.cli_words.specs.declared.job.Job.TheVariants as jobs
use Rattle.cli_words.specs.declared.status.Status.{Status}
use Rattle.cli_requests.specs.Asking.{Tells}
use Rattle.tkernel_cli.specs.declared.top.Exit.{Exit}
use Rattle.cli_requests.specs.Reading.{Good}
use Rattle.tkernel_cli.specs.Runs.{Runs}
use Rattle.tkernel_cli.specs.DumpRuns.{HasDumped, silent}
use Rattle.theorem_reader.specs.Runs.{Asked, options_of}
use Rattle.theorem_reader.specs.Dumps.{AsksDump, page_text, HasEnded, Well, InAFault, IsDumped, NoMemory, Unwritten, Dumped}
use Rattle.theorem_reader.specs.Telling.{Sink}
use Rattle.theorem_reader.proofs.Answering.{script_of, request_of, ends_well_from_boot, ends_in_a_fault}
use Rattle.theorem_reader.proofs.Doing.{IsSoThen, Call, Somehow, not_risen, so_then, retold, told_how, told_by}

-- one page more
page_more : (b : Bool) (line : List ℕ) (others : List (List ℕ)) (text : List ℕ) → flat_map fed others ≡ text
    → flat_map fed ((if b then [] else line ∷ []) ++ others) ≡ (if b then [] else fed line) ++ text
page_more true line others text same = same
page_more false line others text same = ap (λ t. fed line ++ t) same

pages_same : (flash pages : List ℕ) → flat_map fed (flat_map (λ page. lines_of_page page (page_of flash page)) pages) ≡ flat_map (page_text flash) pages
unfolding page_of
pages_same flash [] = refl
pages_same flash (page ∷ pages) =
    page_more (is_erased (page_of flash page)) (page_line page (page_of flash page)) _ _ (pages_same flash pages)

pub has_ended : (asked : Asked) (told : Status) (m : Machine) → Runs (request_of asked) silent silent told m → HasEnded asked m
has_ended asked told m (Runs.Ended unlisted run) = Well (ends_well_from_boot asked silent silent told m unlisted run)
has_ended asked told m (Runs.Failed run) = InAFault (ends_in_a_fault asked silent silent told m run)
has_ended asked told m (Runs.Cut run) = absurd (not_risen 0 0 refl refl run.rose)

dumped : (asked : Asked) (words : List (List ℕ)) (exit : Exit) (status faults : ℕ) (taken : List ℕ) (call : Call words exit status faults taken)
    → HasDumped (request_of asked) call.sink call.sink' exit.status exit.kept → Somehow call.sink call.sink' (λ sink. IsDumped sink asked status taken exit.kept)
dumped asked words exit status faults taken call done =
    let ended = has_ended asked done.ended done.machine done.runs in
    let So : Sink → Type 0 = λ sink. IsDumped sink asked status taken exit.kept in
    elim done.said [
      | inl said ↦ so_then call.sink call.sink' _ So (λ sink told. Dumped done.machine done.kept ended
          (retold sink 0 0 _ _ status taken refl (pages_same done.machine.kernel.mote.flash.words (range_with_len 0 512)) told)) (told_how words exit status faults taken call _ _ said)
      | inr none ↦ so_then call.sink call.sink' _ So (λ sink told. Unwritten done.machine done.kept ended told) (told_how words exit status faults taken call _ _ none)
    ]

pub dump_told : (words : List (List ℕ)) (exit : Exit) (status faults : ℕ) (taken : List ℕ) (call : Call words exit status faults taken) (text : List ℕ) → Tells call.source call.source' text
    → (asked : Asked) → AsksDump words text asked → IsSoThen faults (λ sink. IsDumped sink asked status taken exit.kept)
dump_told words exit status faults taken call text tells asked asks =
    told_by words exit status faults taken call (jobs.Dump (request_of asked)) (λ sink. IsDumped sink asked status taken exit.kept)
    (inl (Dump (options_of asked), asks.command, (text, tells, inr (asks.front.short, Good (asked.image, asks.front.position) asks.front.hex (Good (script_of asked) asks.script refl)))))
    (λ sink told none alone. NoMemory told none) (λ done. dumped asked words exit status faults taken call done.0)
