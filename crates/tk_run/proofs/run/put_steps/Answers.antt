use Rattle.std.proofs.lemmas.Result.{err_from_is_err_and}
use Rattle.program_steps.specs.Wholes.{whole}
use Rattle.tk_run.proofs.Putting.{made_failed, made_put, made_unput}
use Rattle.tk_run.proofs.run.put_steps.Goals as goal

pub returns-in_err-end : goal.returns-in_err-end
returns-in_err-end g c =
    let failed = err_from_is_err_and c.from_residual.result c.from_residual.ensures.1 in
    rw (failed.1, failed.2) (record {
      made = made_failed g.K.Sink.taken g.K.Sink.faults (whole c.args.k.now c.args.p.now) (whole c.all_steps.new.k c.all_steps.new.p) c.args.n c.all_steps.new.gathered.items c.args.out.now
          c.all_steps.new.out _ c.in_err-end.ensures.made;
    })

pub returns-in_err-send : goal.returns-in_err-send
returns-in_err-send g c =
    let failed = err_from_is_err_and c.from_residual-in_err-send.result c.from_residual-in_err-send.ensures.1 in
    rw failed.1 (record {
      made = made_unput g.K.Sink.taken g.K.Sink.faults (whole c.args.k.now c.args.p.now) (whole c.all_steps.new.k c.all_steps.new.p) c.args.n c.all_steps.new.gathered.items c.args.out.now
          c.all_steps.new.out c.send.new.out
          c.in_ok-end.end failed.0 c.requires.may c.in_ok-end.ensures.made c.in_err-send.ensures.text c.send.ensures.cause.later c.in_err-send.ensures.cause.failed;
    })

pub returns : goal.returns
returns g c = record {
  made = made_put g.K.Sink.taken g.K.Sink.faults (whole c.args.k.now c.args.p.now) (whole c.all_steps.new.k c.all_steps.new.p) c.args.n c.all_steps.new.gathered.items c.args.out.now
      c.all_steps.new.out c.send.new.out c.in_ok-end.end c.in_ok-end.ensures.made c.in_ok-send.ensures.text c.send.ensures.cause.later;
}
