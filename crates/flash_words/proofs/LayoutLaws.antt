-- The layout of an image is right.
use Rattle.std.proofs.Common.{◌≡◌, ℕ, ◌≤◌, Bool, true, false, refl, arith}
use Rattle.std.specs.Prelude.{nat_le, if◌then◌else◌}
use Rattle.std.proofs.lemmas.Bool.Decides.{nat_tests}
use Rattle.flash_words.specs.Layouts.{IsRight, layout_of, most_image_pages, most_image_words}

right_by : (words : ℕ) (short : Bool) → nat_le words 16384 ≡ short → words ≤ most_image_words
    → IsRight (record { image_words = words; pool_first = if short then 128 else most_image_pages; pool_pages = if short then 352 else 288 })
right_by words true is few =
    let below : words ≤ 16384 = grind (arith, nat_tests) in
    record { image_fits = omega arith; image_below_pool = omega arith; pool_first = omega arith; pool_pages = omega arith; pool_below_kernel = omega arith }
right_by words false is few =
    record { image_fits = omega arith; image_below_pool = omega arith; pool_first = omega arith; pool_pages = omega arith; pool_below_kernel = omega arith }

pub layout_right : (words : ℕ) → words ≤ most_image_words → IsRight (layout_of words)
layout_right words few = right_by words (nat_le words 16384) refl few
