use Rattle.std.proofs.Common.{◌<◌, refl, rules}
use Rattle.avr_flags.proofs.PairLaws.{sum_carry, sum_overflow}
use Rattle.avr_flags.proofs.pairs.adiw.Goals as goal

pub returns : goal.returns
returns c =
    let fits : c.args.d < 65536 = search rules in
    let carry = sum_carry c.args.d c.args.k fits c.requires.small in
    let overflow = sum_overflow c.args.d c.args.k fits c.requires.small in
    record { outcome = rw (c.outcome.ensures, c.from.ensures, c.from-2.ensures, carry, overflow) refl }
