use Rattle.std.proofs.Common.{refl, arith, w8}
use Rattle.std.proofs.lemmas.Nat.Bits.{bit_at-trailing_zeros}
use Rattle.kernel_entry.proofs.interrupts.lowest.Goals as goal

pub returns : goal.returns
returns c =
    let least = bit_at-trailing_zeros w8 c.args.n (omega (arith, c.requires.some)) c.ranges.n.fits in
    record { value = refl; bit = least.1; small = least.0 }
