use Rattle.std.proofs.Common.{ℕ, ◌++◌, ap, subst, arith}
use Rattle.kernel_entry.specs.Seen.{program as program_of}
use Rattle.program_steps.specs.Machines.{flat_of}
use Rattle.program_steps.specs.Wholes.{whole}
use Rattle.tk_run.specs.Running.{original_from}
use Rattle.cli_words.specs.Stream.{stream}
use Rattle.tkernel_cli.specs.Runs.{Says, status_of_stop}
use Rattle.tk_watch.specs.ProfileText.{times_at}
use Rattle.tk_watch.specs.StepTexts.{told_text}
use Rattle.tk_watch.specs.Watching.{HasShown, end_text, stop_of}
use Rattle.tk_watch.proofs.RunsShown.{left_same}
use Rattle.tk_watch.proofs.Stops.{said_behind}
use Rattle.tk_watch.proofs.showing.tell.Goals as goal

pub tell_end-requires : goal.tell_end-requires
tell_end-requires g c =
    let told = c.in-Ok.ensures.run.0 in
    let start = c.requires.start in
    let kept = told.advanced.keeps (omega (arith, start.begins, c.requires.steps)) start.kept in
    record { paged = kept.sound.order.paged; quantum = omega (arith, told.advanced.stays.quantum, start.quantum); size = c.run.ensures.size }

pub returns-in-Ok : goal.returns-in-Ok
returns-in-Ok g c =
    let view = c.args.view.now in
    let slots = c.args.bounds.slots in
    let events = c.args.bounds.events in
    let old = whole c.args.k.now c.args.p.now in
    let new = whole c.run.new.k c.run.new.p in
    let runs = original_from old in
    let told = c.in-Ok.ensures.run.0 in
    let end = c.in-Ok.end in
    let gathered = c.run.new.gathered.items in
    let before = stream g.K.Sink.taken g.K.Sink.faults c.args.out.now in
    let mid = stream g.K.Sink.taken g.K.Sink.faults c.run.new.out in
    let now = stream g.K.Sink.taken g.K.Sink.faults c.tell_end.new.out in
    let times : ℕ → ℕ = λ a. times_at runs a new.steps in
    let same = ap (λ t. gathered ++ (t ++ stop_of end new)) (left_same view slots events c.run.new.counts times new.kernel.mote.flash.ops (flat_of new).now c.in-Ok.ensures.run.1) in
    let said = subst (λ t. Says (status_of_stop end) t mid now c.tell_end.result) same c.tell_end.ensures.said in
    record {
      shown = HasShown.Whole told.text end told.advanced (said_behind (status_of_stop end) c.tell_end.result before mid now (told_text view (program_of old.kernel) runs new.steps) gathered
          (end_text view slots events times end new) told.sent c.in-Ok.ensures.cause.later said);
    }
