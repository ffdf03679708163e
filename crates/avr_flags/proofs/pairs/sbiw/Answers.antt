use Rattle.std.proofs.Common.{◌≡◌, ◌+◌, ◌-◌, ◌%◌, ◌<◌, refl, rules, arith}
use Rattle.avr_flags.proofs.PairLaws.{raised, difference_carry, difference_overflow}
use Rattle.avr_flags.proofs.pairs.sbiw.Goals as goal

pub returns : goal.returns
returns c =
    let fits : c.args.d < 65536 = search rules in
    let small = c.requires.small in
    let value : raised c.args.d c.args.k % 65536 ≡ (c.args.d + 65536 - c.args.k) % 65536 = omega arith in
    let carry = difference_carry c.args.d c.args.k fits small in
    let overflow = difference_overflow c.args.d c.args.k fits small in
    record { outcome = rw (c.outcome.ensures, c.from.ensures, c.from-2.ensures, carry, overflow, value) refl }
