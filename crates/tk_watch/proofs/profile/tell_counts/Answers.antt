use Rattle.std.proofs.Common.{◌≡◌, arith}
use Rattle.std.specs.Prelude.{slice_index}
use Rattle.std.proofs.lemmas.Result.{err_from_is_err_and}
use Rattle.tk_watch.specs.ProfileText.{count_text}
use Rattle.tk_watch.proofs.Rows.{rows_begin, rows_next, rows_cut}
use Rattle.tk_watch.proofs.profile.tell_counts.Goals as goal

pub addresses-init : goal.addresses-init
addresses-init g c = record {
  within = omega arith;
  sent = rows_begin (λ a. count_text a (slice_index c.args.counts.now a)) c.args.gathered.now.items (g.K.Sink.taken c.args.out.now);
  faults = omega arith;
}

pub addresses-preserved : goal.addresses-preserved
addresses-preserved g c = record {
  within = omega (arith, c.addresses-test.true);
  sent = rows_next _ c.args.gathered.now.items c.addresses.at c.addresses.invariant.sent c.in_ok-add_count.ensures.text;
  faults = omega (arith, c.addresses.invariant.faults, c.in_ok-add_count.ensures.cause.later);
}

pub returns-in_err-add_count-clause-text : goal.returns-in_err-add_count-clause-text
returns-in_err-add_count-clause-text g c =
    let failed = err_from_is_err_and c.from_residual.result c.from_residual.ensures.1 in
    rw failed.1 (rows_cut _ c.args.gathered.now.items c.addresses.at 65536 _ c.addresses-test.true c.addresses.invariant.sent c.in_err-add_count.ensures.text)

pub returns-clause-text : goal.returns-clause-text
returns-clause-text g c =
    let done : c.addresses.at ≡ 65536 = omega (arith, c.addresses-test.false, c.addresses.invariant.within) in
    rw done at c.addresses.invariant.sent
