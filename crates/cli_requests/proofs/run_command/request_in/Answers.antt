use Rattle.std.proofs.Common.{◌∙◌, ap, refl, rules, subst, sym, Err, inl}
use Rattle.input_script.specs.Script.{IsScript, script_fault, script_word}
use Rattle.hex_image.specs.HexText.{hex_word}
use Rattle.cli_requests.specs.Reading.{Bad, Good}
use Rattle.cli_requests.proofs.Judging.{position_inside, rest_whole}
use Rattle.cli_requests.proofs.run_command.request_in.Goals as goal

pub returns-in-Err-Bad-clause-judged : goal.returns-in-Err-Bad-clause-judged
returns-in-Err-Bad-clause-judged c =
    let bad = c.read.ensures.bad c.in-Err-Bad.line c.in-Err-Bad.fault (c.in-Err-Bad.is ∙ ap Err c.in-Err-Bad.field-0-is) in
    λ asked. inl (Bad c.in-Err-Bad.line (hex_word c.in-Err-Bad.fault) (c.in-Err-Bad.fault, bad, refl) (cc (c.bad_hex.ensures.job, c.in-Err-Bad.line-is, c.in-Err-Bad.fault-is)))

-- the script stands behind the HEX text
pub slice_bounds-read-count : goal.slice_bounds-read-count
slice_bounds-read-count c = position_inside _ _ _ c.in-Ok.ensures.found

pub slice_bounds-read-start : goal.slice_bounds-read-start
slice_bounds-read-start c = let inside = position_inside _ _ _ c.in-Ok.ensures.found in search rules

pub returns-in-Err-Bad-read-clause-judged : goal.returns-in-Err-Bad-read-clause-judged
returns-in-Err-Bad-read-clause-judged c =
    let text = c.args.text.now in
    let position = c.in-Ok.read.1 in
    let behind = rest_whole text position in
    let bad = c.read-2.ensures.bad c.in-Err-Bad-read.line c.in-Err-Bad-read.fault (c.in-Err-Bad-read.is ∙ ap Err c.in-Err-Bad-read.field-0-is) in
    λ asked. inl (Good c.in-Ok.read c.in-Ok.ensures.found
    (Bad c.in-Err-Bad-read.line (script_word c.in-Err-Bad-read.fault)
    (c.in-Err-Bad-read.fault, sym (ap script_fault behind) ∙ bad, refl)
    (cc (c.bad_script.ensures.job, c.in-Err-Bad-read.line-is, c.in-Err-Bad-read.fault-is))))

pub returns-clause-judged : goal.returns-clause-judged
returns-clause-judged c =
    let text = c.args.text.now in
    let position = c.in-Ok.read.1 in
    let behind = rest_whole text position in
    λ asked. (Good c.in-Ok.read c.in-Ok.ensures.found (Good c.in-Ok-read.script (subst (λ z. IsScript z c.in-Ok-read.script) behind c.in-Ok-read.ensures.ok) refl))
