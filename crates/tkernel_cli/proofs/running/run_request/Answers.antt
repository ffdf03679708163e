use Rattle.std.proofs.Common.{◌-◌, subst, inl, refl}
use Rattle.hex_image.specs.Image.{IsImage}
use Rattle.program_steps.specs.Ready.{IsKept}
use Rattle.tk_run.specs.InTurn.{GoOutInTurn}
use Rattle.tk_run.specs.Running.{HasAdvanced}
use Rattle.tk_run.proofs.InTurn.{begins_in_turn}
use Rattle.tk_run.proofs.WholeRun.{booted_is}
use Rattle.cli_words.specs.Stream.{Stream}
use Rattle.tkernel_cli.proofs.RunEnds.{answered, answered_cut}
use Rattle.tkernel_cli.proofs.running.run_request.Goals.{in-Ok-advance, in-Err-advance}
use Rattle.tkernel_cli.proofs.running.run_request.Goals as goal

pub returns : goal.returns
returns g c =
    let request = c.args.request in
    let advanced = subst (λ m. HasAdvanced m c.advance.new.self request.options.steps (g.K.Sink.taken c.args.out.now)
    (g.K.Sink.taken c.advance.new.out) c.advance.result) c.in-Ok.ensures.booted c.advance.ensures.advanced in
    let kept = subst IsKept c.in-Ok.ensures.booted c.in-Ok.ensures.kept in
    let before : Stream = record { told = g.K.Sink.taken c.args.out.now; faults = g.K.Sink.faults c.args.out.now } in
    let mid : Stream = record { told = g.K.Sink.taken c.advance.new.out; faults = g.K.Sink.faults c.advance.new.out } in
    let image : IsImage request.image = subst IsImage (c.image.view_is) c.image.invariant in
    let start = booted_is request.image request.script request.options.quantum request.options.swap image kept in
    let turns = subst (λ m. GoOutInTurn g.K.Sink.taken m c.args.out.now c.advance.new.out (c.advance.new.self.steps - m.steps)) c.in-Ok.ensures.booted c.advance.ensures.turns in
    record {
      done = inl (record {
        machine = c.advance.new.self;
        kept = refl;
        runs = elim c.match-advance.branch [
          | in-Ok-advance w ↦ rw (w.out-is, w.status-is)
              (answered request before mid _ w.tell_end-status.result c.advance.result
              w.in-Ok-advance.end c.advance.new.self image kept c.requires.steps advanced w.in-Ok-advance.is c.advance.ensures.cause w.tell_end-status.ensures.said)
          | in-Err-advance w ↦ rw (w.out-is, w.status-is)
              (answered_cut request before mid c.advance.result w.in-Err-advance.field-0 c.advance.new.self image kept c.requires.steps advanced w.in-Err-advance.is c.advance.ensures.cause
              (begins_in_turn g.K.Sink.taken _ _ _ request.script.failing c.advance.new.self c.args.out.now c.advance.new.out start turns))
        ];
      });
    }
