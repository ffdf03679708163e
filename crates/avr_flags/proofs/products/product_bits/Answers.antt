use Rattle.std.proofs.Common.{w16, arith}
use Rattle.std.proofs.lemmas.Int.{fits_signed_mul, to_z-of_z}
use Rattle.avr_flags.proofs.products.product_bits.Goals as goal

pub overflow_mul-product : goal.overflow_mul-product
overflow_mul-product c =
    let d_fits = c.ranges.d in
    let r_fits = c.ranges.r in
    simp to_z-of_z (fits_signed_mul w16 c.args.d c.args.r 128 255 c.requires.left c.requires.right (omega arith))
