use Rattle.std.proofs.Common.{◌<◌, length, arith}
use Rattle.std.proofs.lemmas.Result.{err_from_is_err_and}
use Rattle.std.proofs.lemmas.Grind.{common_steps}
use Rattle.byte_streams.proofs.KnownBytes.{more_sent, part_sent}
use Rattle.byte_streams.proofs.sink.put.Goals as goal

-- the sink failed: what went out before is a shorter part from the front
pub returns-in_err-taken-clause-bytes : goal.returns-in_err-taken-clause-bytes
returns-in_err-taken-clause-bytes g c =
    let p = err_from_is_err_and c.from_residual.result c.from_residual.ensures.1 in
    let some : 0 < length c.loop-rest.rest.now = grind (arith, common_steps, c.loop-rest-test.true, c.is_empty.ensures) in
    rw p.1 (part_sent _ _ _ _ _ c.loop-rest.invariant.sent some c.in_err-taken.ensures.bytes)

pub loop-rest-preserved : goal.loop-rest-preserved
loop-rest-preserved g c = record {
  sent = more_sent _ _ _ _ _ _ _ (grind (arith, common_steps)) c.loop-rest.invariant.sent c.in_ok-taken.ensures.bytes;
  later = omega (arith, c.in_ok-taken.ensures.cause.later);
}
