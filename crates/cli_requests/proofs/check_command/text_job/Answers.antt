use Rattle.std.proofs.Common.{◌≡◌, ◌-◌, ◌∙◌, ap, drop, length, refl, rules, subst, take, Err, Some, inl}
use Rattle.flash_dump.specs.DumpAnswers.{IsRefusal}
use Rattle.flash_dump.specs.Dumps.{IsDump, dump_fault}
use Rattle.flash_dump.specs.DumpLines.{dump_word}
use Rattle.hex_image.specs.HexText.{hex_word}
use Rattle.cli_requests.specs.Reading.{Bad, Good}
use Rattle.cli_requests.proofs.Judging.{position_inside, rest_whole}
use Rattle.cli_requests.proofs.check_command.text_job.Goals as goal

pub returns-in-Err-Bad-clause-asks : goal.returns-in-Err-Bad-clause-asks
returns-in-Err-Bad-clause-asks c =
    let bad = c.read.ensures.bad c.in-Err-Bad.line c.in-Err-Bad.fault (c.in-Err-Bad.is ∙ ap Err c.in-Err-Bad.field-0-is) in
    inl (Bad c.in-Err-Bad.line (hex_word c.in-Err-Bad.fault) (c.in-Err-Bad.fault, bad, refl) (cc (c.bad_hex.ensures.job, c.in-Err-Bad.line-is, c.in-Err-Bad.fault-is)))

-- the dump stands behind the HEX text
pub slice_bounds-read_dump-count : goal.slice_bounds-read_dump-count
slice_bounds-read_dump-count c = position_inside _ _ _ c.in-Ok.ensures.found

pub slice_bounds-read_dump-start : goal.slice_bounds-read_dump-start
slice_bounds-read_dump-start c = let inside = position_inside _ _ _ c.in-Ok.ensures.found in search rules

pub returns-in-Err-Bad-read_dump-clause-asks : goal.returns-in-Err-Bad-read_dump-clause-asks
returns-in-Err-Bad-read_dump-clause-asks c =
    let text = c.args.text.now in
    let position = c.in-Ok.read.1 in
    let behind = rest_whole text position in
    let bad = subst (IsRefusal (take (length text - position) (drop position text))) c.in-Err-Bad-read_dump.field-0-is c.in-Err-Bad-read_dump.ensures.bad in
    inl (Good c.in-Ok.read c.in-Ok.ensures.found
    (Bad c.in-Err-Bad-read_dump.line (dump_word c.in-Err-Bad-read_dump.fault)
    (c.in-Err-Bad-read_dump.fault, subst (λ z. dump_fault z ≡ Some (c.in-Err-Bad-read_dump.line, c.in-Err-Bad-read_dump.fault)) behind bad, refl)
    (cc (c.bad_dump.ensures.job, c.in-Err-Bad-read_dump.line-is, c.in-Err-Bad-read_dump.fault-is))))

pub returns-clause-asks : goal.returns-clause-asks
returns-clause-asks c =
    let text = c.args.text.now in
    let position = c.in-Ok.read.1 in
    let behind = rest_whole text position in
    let words = c.in-Ok-read_dump.flash.words in
    inl (Good c.in-Ok.read c.in-Ok.ensures.found (Good words (subst (λ z. IsDump z words) behind c.in-Ok-read_dump.ensures.read)
    (c.verdict_of.result, c.verdict_of.ensures.verdict, c.verdict_line.ensures.job)))
