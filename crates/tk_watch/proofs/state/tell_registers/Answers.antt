use Rattle.std.proofs.Common.{◌≡◌, arith}
use Rattle.std.specs.Prelude.{slice_index}
use Rattle.std.proofs.lemmas.Result.{err_from_is_err_and}
use Rattle.tk_watch.specs.StateText.{register_text}
use Rattle.tk_watch.proofs.Rows.{rows_begin, rows_next, rows_cut}
use Rattle.tk_watch.proofs.state.tell_registers.Goals as goal

pub registers-init : goal.registers-init
registers-init g c = record {
  within = omega arith;
  sent = rows_begin (λ n. register_text n (slice_index c.args.registers.now n)) c.args.gathered.now.items (g.K.Sink.taken c.args.out.now);
  faults = omega arith;
}

pub registers-preserved : goal.registers-preserved
registers-preserved g c = record {
  within = omega (arith, c.registers-test.true);
  sent = rows_next _ c.args.gathered.now.items c.registers.number c.registers.invariant.sent (rw c.register_text-line.ensures.text at c.in_ok-add.ensures.text);
  faults = omega (arith, c.registers.invariant.faults, c.in_ok-add.ensures.cause.later);
}

pub returns-in_err-add-clause-text : goal.returns-in_err-add-clause-text
returns-in_err-add-clause-text g c =
    let failed = err_from_is_err_and c.from_residual.result c.from_residual.ensures.1 in
    rw failed.1 (rows_cut _ c.args.gathered.now.items c.registers.number 32 _ c.registers-test.true c.registers.invariant.sent (rw c.register_text-line.ensures.text at c.in_err-add.ensures.text))

pub returns-clause-text : goal.returns-clause-text
returns-clause-text g c =
    let done : c.registers.number ≡ 32 = omega (arith, c.registers-test.false, c.registers.invariant.within) in
    rw done at c.registers.invariant.sent
