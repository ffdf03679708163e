use Rattle.std.proofs.Common.{arith, subst}
use Rattle.flash_model.specs.MicroOps.{CanStandFor}
use Rattle.flash_model.specs.declared.decoded.Decoded.{Decoded}
use Rattle.flash_model.proofs.Renewing.{micro_op_set}
use Rattle.flash_model.proofs.decode_cache.DecodeCache.predecode.Goals as goal

pub returns-in-Undecoded-clause-cache : goal.returns-in-Undecoded-clause-cache
returns-in-Undecoded-clause-cache c =
    let words = c.args.cells.now.words in
    let op = c.micro_op.result in
    let stands = subst (λ (d : Decoded). CanStandFor op d.instr d.next_size) c.decoded_by-decoded.ensures.value c.micro_op.ensures.stands in
    record { decoded = c.requires.cache.decoded; micro_ops = micro_op_set words c.args.self.now.micro_ops.items c.args.a op (omega (arith, c.ranges.a)) stands c.requires.cache.micro_ops }
