use Rattle.std.proofs.lemmas.Result.{err_from_is_err_and}
use Rattle.printed_text.specs.TaskTexts.{device_told, stop_told}
use Rattle.printed_text.proofs.Gathered.{cut_first, gathers_on}
use Rattle.printed_text.proofs.gathered_task.add_task.Goals as goal

pub returns-in_err-add_device-clause-text : goal.returns-in_err-add_device-clause-text
returns-in_err-add_device-clause-text g c =
    let s = c.args.lines.now in
    let before = g.K.Sink.taken c.args.out.now in
    let after = g.K.Sink.taken c.add_device.new.out in
    let failed = err_from_is_err_and c.from_residual.result c.from_residual.ensures.1 in
    rw failed.1 (cut_first c.args.gathered.now.items (device_told s.task s.line) (stop_told s.task s.end s.steps s.checkpoints) before after c.in_err-add_device.ensures.text)

pub returns-clause-text : goal.returns-clause-text
returns-clause-text g c =
    let s = c.args.lines.now in
    let before = g.K.Sink.taken c.args.out.now in
    let after = g.K.Sink.taken c.add_device.new.out in
    let later = g.K.Sink.taken c.add_stop.new.out in
    gathers_on c.add_stop.result c.args.gathered.now.items c.add_device.new.gathered.items c.add_stop.new.gathered.items (device_told s.task s.line)
    (stop_told s.task s.end s.steps s.checkpoints) before after later c.in_ok-add_device.ensures.text c.add_stop.ensures.text
