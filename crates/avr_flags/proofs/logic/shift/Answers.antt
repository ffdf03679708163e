use Rattle.std.proofs.Common.{◌≡◌, ◌+◌, ◌*◌, ◌/◌, ◌%◌, ◌<◌, arith, rules}
use Rattle.std.proofs.lemmas.Nat.{and_mask}
use Rattle.avr_flags.proofs.CarryLaws.{shift_told}
use Rattle.avr_flags.proofs.logic.shift.Goals as goal

pub returns : goal.returns
returns c =
    let fits : c.args.d < 256 = search rules in
    let bit = c.requires.top_is_bit in
    let value : c.args.top * 128 % 256 + c.args.d / 2 ≡ c.args.d / 2 + 128 * c.args.top = omega arith in
    let told = rw (c.new.ensures, c.from.ensures, c.from-2.ensures, and_mask _ 1) at c.with_top_carries.ensures in
    rw (c.sreg.ensures, told, value) (shift_told c.args.sreg c.args.d c.args.top fits bit)
