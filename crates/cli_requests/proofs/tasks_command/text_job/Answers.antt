use Rattle.std.proofs.Common.{◌≡◌, ◌∙◌, [], ap, length, refl, rules, subst, sym, Err, inl}
use Rattle.std.specs.Prelude.{All}
use Rattle.input_script.specs.Script.{Schedule, script_word}
use Rattle.task_input.specs.Scripts.{Schedules, scripts_fault}
use Rattle.task_input.proofs.FirstFaults.{each_task}
use Rattle.hex_image.specs.HexText.{hex_word}
use Rattle.cli_requests.specs.Reading.{Bad, Good}
use Rattle.cli_requests.specs.TasksCommand.{Placed, Refused}
use Rattle.cli_requests.proofs.Judging.{position_inside, rest_whole}
use Rattle.cli_requests.proofs.tasks_command.text_job.Goals as goal

pub returns-in-Err-Bad-clause-asks : goal.returns-in-Err-Bad-clause-asks
returns-in-Err-Bad-clause-asks c =
    let bad = c.read.ensures.bad c.in-Err-Bad.line c.in-Err-Bad.fault (c.in-Err-Bad.is ∙ ap Err c.in-Err-Bad.field-0-is) in
    inl (Bad c.in-Err-Bad.line (hex_word c.in-Err-Bad.fault) (c.in-Err-Bad.fault, bad, refl) (cc (c.bad_hex.ensures.job, c.in-Err-Bad.line-is, c.in-Err-Bad.fault-is)))

-- the script stands behind the HEX text
pub slice_bounds-read_scripts-count : goal.slice_bounds-read_scripts-count
slice_bounds-read_scripts-count c = position_inside _ _ _ c.in-Ok.ensures.found

pub slice_bounds-read_scripts-start : goal.slice_bounds-read_scripts-start
slice_bounds-read_scripts-start c = let inside = position_inside _ _ _ c.in-Ok.ensures.found in search rules

pub returns-in-Err-Bad-read_scripts-clause-asks : goal.returns-in-Err-Bad-read_scripts-clause-asks
returns-in-Err-Bad-read_scripts-clause-asks c =
    let text = c.args.text.now in
    let position = c.in-Ok.read.1 in
    let behind = rest_whole text position in
    let bad = c.read_scripts.ensures.bad c.in-Err-Bad-read_scripts.line c.in-Err-Bad-read_scripts.fault (c.in-Err-Bad-read_scripts.is ∙ ap Err c.in-Err-Bad-read_scripts.field-0-is) in
    inl (Good c.in-Ok.read c.in-Ok.ensures.found
    (Bad c.in-Err-Bad-read_scripts.line (script_word c.in-Err-Bad-read_scripts.fault)
    (c.in-Err-Bad-read_scripts.fault, sym (ap (scripts_fault c.args.options.count) behind) ∙ bad, refl)
    (cc (c.bad_script.ensures.job, c.in-Err-Bad-read_scripts.line-is, c.in-Err-Bad-read_scripts.fault-is))))

pub returns-in-Some-clause-asks : goal.returns-in-Some-clause-asks
returns-in-Some-clause-asks c =
    let text = c.args.text.now in
    let position = c.in-Ok.read.1 in
    let behind = rest_whole text position in
    let scripts = c.in-Ok-read_scripts.scripts.items in
    inl (Good c.in-Ok.read c.in-Ok.ensures.found
    (Good scripts (subst (λ z. Schedules c.args.options.count z scripts) behind c.in-Ok-read_scripts.ensures.ok)
    (Refused c.in-Some.address c.in-Some.ensures.cases c.bad_image.ensures.job)))

pub returns-in-None : goal.returns-in-None
returns-in-None c =
    let text = c.args.text.now in
    let position = c.in-Ok.read.1 in
    let behind = rest_whole text position in
    let scripts = c.in-Ok-read_scripts.scripts.items in
    record {
      asks = inl (Good c.in-Ok.read c.in-Ok.ensures.found
          (Good scripts (subst (λ z. Schedules c.args.options.count z scripts) behind c.in-Ok-read_scripts.ensures.ok)
          (Placed c.in-None.ensures.cases (cc (c.new.ensures.list)))));
      possible = record {
        possible = c.requires.possible;
        each_task = ap length c.new.ensures.list ∙ each_task c.args.options.count _ scripts c.in-Ok-read_scripts.ensures.ok;
        unfailing = subst (All (λ (script : Schedule). script.failing ≡ [])) (sym c.new.ensures.list) c.in-Ok-read_scripts.ensures.unfailing;
        placed = c.in-None.ensures.cases;
      };
    }
