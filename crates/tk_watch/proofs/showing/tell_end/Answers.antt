use Rattle.std.proofs.Common.{◌++◌, append_assoc, subst}
use Rattle.std.specs.Prelude.{slice_index}
use Rattle.program_steps.specs.Machines.{flat_of}
use Rattle.program_steps.specs.Wholes.{whole}
use Rattle.cli_words.specs.declared.status.Status.TheVariants.{WriteFault}
use Rattle.cli_words.specs.Stream.{stream}
use Rattle.tkernel_cli.specs.Runs.{Says, status_of_stop}
use Rattle.tkernel_cli.proofs.Putting.{said_cut}
use Rattle.tk_watch.specs.Views.{left_text}
use Rattle.tk_watch.specs.Watching.{stop_of}
use Rattle.tk_watch.proofs.Stops.{said_behind}
use Rattle.tk_watch.proofs.showing.tell_end.Goals as goal

pub returns-in-Ok : goal.returns-in-Ok
returns-in-Ok g c =
    let m = whole c.args.k.now c.args.p.now in
    let end = c.args.end in
    let old = c.args.gathered.now.items in
    let text = left_text c.args.view.now c.args.bounds.slots c.args.bounds.events (slice_index c.args.counts.now) m.kernel.mote.flash.ops (flat_of m).now in
    let before = stream g.K.Sink.taken g.K.Sink.faults c.args.out.now in
    let mid = stream g.K.Sink.taken g.K.Sink.faults c.tell_left.new.out in
    let now = stream g.K.Sink.taken g.K.Sink.faults c.tell_stop.new.out in
    let said = said_behind (status_of_stop end) c.tell_stop.result before mid now (old ++ text) c.tell_left.new.gathered.items
    (stop_of end m) c.in-Ok.ensures.text c.in-Ok.ensures.cause.later c.tell_stop.ensures.said in
    record { said = subst (λ t. Says (status_of_stop end) t before now c.tell_stop.result) (append_assoc old text (stop_of end m)) said }

pub returns-in-Err : goal.returns-in-Err
returns-in-Err g c =
    let m = whole c.args.k.now c.args.p.now in
    let end = c.args.end in
    let old = c.args.gathered.now.items in
    let text = left_text c.args.view.now c.args.bounds.slots c.args.bounds.events (slice_index c.args.counts.now) m.kernel.mote.flash.ops (flat_of m).now in
    let before = stream g.K.Sink.taken g.K.Sink.faults c.args.out.now in
    let now = stream g.K.Sink.taken g.K.Sink.faults c.tell_left.new.out in
    record {
      said = subst (λ t. Says (status_of_stop end) t before now WriteFault) (append_assoc old text (stop_of end m))
          (said_cut (status_of_stop end) before now (old ++ text) (stop_of end m) c.in-Err.ensures.cause.failed c.in-Err.ensures.text);
    }
