use Rattle.std.proofs.Common.{ap₂, ◌∙◌, ◌++◌, ◌/◌}
use Rattle.printed_text.specs.TaskTexts.{device_told, stop_told}
use Rattle.tk_tasks.proofs.Telling.{told_as}
use Rattle.tk_tasks.proofs.run.put_shown.Goals as goal

pub returns-clause-text : goal.returns-clause-text
returns-clause-text g c =
    let s = c.args.shown.now in
    let told = ap₂ (λ e q. device_told s.task s.line ++ stop_told s.task e s.steps (s.crossings / q)) c.end_shown.ensures.value c.from.ensures
    ∙ told_as c.args.quantum s.task s.line s.end s.steps s.crossings in
    rw told at c.add_task.ensures.text
