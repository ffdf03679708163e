use Rattle.std.proofs.Common.{◌<◌, rules}
use Rattle.std.proofs.lemmas.Nat.{and_mask}
use Rattle.avr_flags.proofs.CarryLaws.{sum_told}
use Rattle.avr_flags.proofs.sums.sum.Goals as goal

pub returns : goal.returns
returns c =
    let fits-d : c.args.d < 256 = search rules in
    let fits-r : c.args.r < 256 = search rules in
    let told = rw (c.new.ensures, c.from.ensures, c.from-2.ensures, c.from-3.ensures, c.from-4.ensures, c.from-5.ensures, and_mask _ 8) at c.with_sum.ensures in
    rw (c.sreg.ensures, told, c.from.ensures, c.from-2.ensures, c.from-3.ensures, and_mask _ 8) (sum_told c.args.sreg c.args.d c.args.r c.args.carry fits-d fits-r c.requires.carry_is_bit)
