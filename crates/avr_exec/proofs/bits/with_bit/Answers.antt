use Rattle.std.proofs.Common.{◌<◌, arith}
use Rattle.avr_exec.proofs.BitTables.{set_bit, clear_bit}
use Rattle.avr_exec.proofs.bits.with_bit.Goals as goal

pub returns-then-value : goal.returns-then-value
returns-then-value c =
    let fits : c.args.byte < 256 = omega arith in
    rw (c.bit_weight-weight.ensures, c.if-value.true) (set_bit _ _ fits c.requires)

pub returns-else-value : goal.returns-else-value
returns-else-value c =
    let fits : c.args.byte < 256 = omega arith in
    rw (c.bit_weight-weight.ensures, c.if-value.false) (clear_bit _ _ fits c.requires)
