-- The words of a program's part, and those of the image.
use Rattle.std.proofs.Common.{◌≡◌, ℕ, ◌+◌, ◌<◌, ◌≤◌, Bool, true, false, refl, ap, arith}
use Rattle.std.specs.Prelude.{◌||◌, not}
use Rattle.std.proofs.lemmas.Bool.Decides.{nat_tests}
use Rattle.flat_machine.specs.declared.part.Part.{Part}
use Rattle.flat_machine.specs.FlatMachine.{is_own}
use Rattle.step_laws.specs.Links.{part_number, number_of}
use Rattle.step_laws.specs.States.{admits}
use Rattle.program_steps.specs.Ready.{IsRightPart}
use Rattle.flat_machine.proofs.PartLaws.{own_range}

range_own : (part : Part) (a : ℕ) → part.first ≤ a → a < part.first + part.count → is_own part a ≡ true
range_own part a from to = grind (arith, nat_tests)

out_own : (part : Part) (a : ℕ) → part.first + part.count ≤ a → is_own part a ≡ false
out_own part a beyond = grind (arith, nat_tests)

-- the part ends with the image, or before
end_by : {part : Part} {words : ℕ} (shut : Bool) → part.shut ≡ shut → IsRightPart part words → part.first + part.count ≤ words
end_by true is right = (right.quarter is).3
end_by false is right = let all = right.whole is in omega (arith, all.0, all.1)

pub beyond_own : {part : Part} {words : ℕ} (a : ℕ) → IsRightPart part words → words ≤ a → is_own part a ≡ false
beyond_own {part} a right beyond = out_own part a (omega (arith, beyond, end_by part.shut refl right))

-- its words have its number, and no others of the image
number_by : {part : Part} {words : ℕ} (a : ℕ) (shut : Bool) → part.shut ≡ shut → IsRightPart part words → is_own part a ≡ true → part_number shut a ≡ part_number shut part.first
number_by {part} a true is right own =
    let range = own_range part a own in
    let quarter = right.quarter is in
    omega (arith, range.0, range.1, quarter.1, quarter.2)
number_by a false is right own = refl

own_by : {part : Part} {words : ℕ} (a : ℕ) (shut : Bool) → part.shut ≡ shut → IsRightPart part words → a < words → part_number shut a ≡ part_number shut part.first → is_own part a ≡ true
own_by {part} a true is right below same =
    let quarter = right.quarter is in
    range_own part a (omega (arith, same, quarter.1)) (omega (arith, same, quarter.1, quarter.2))
own_by {part} a false is right below same =
    let all = right.whole is in
    range_own part a (omega (arith, all.0)) (omega (arith, all.0, all.1, below))

pub number_own : {part : Part} {words : ℕ} (a : ℕ) → IsRightPart part words → a < words → part_number part.shut a ≡ number_of part → is_own part a ≡ true
number_own {part} a right below same = own_by a part.shut refl right below same

-- where control may arrive
admitted_by : {part : Part} {words : ℕ} (a : ℕ) (shut : Bool) → part.shut ≡ shut → IsRightPart part words → not shut || is_own part a ≡ true → part_number shut a ≡ part_number shut part.first
admitted_by a true is right own = number_by a true is right own
admitted_by a false is right own = refl

pub admitted_number : {part : Part} {words : ℕ} (a : ℕ) → IsRightPart part words → admits part a ≡ true → part_number part.shut a ≡ number_of part
admitted_number {part} a right own = admitted_by a part.shut refl right own

pub admitted_own : {part : Part} {words : ℕ} (a : ℕ) → IsRightPart part words → admits part a ≡ true → a < words → is_own part a ≡ true
admitted_own a right own below = number_own a right below (admitted_number a right own)

pub open_admits : (part : Part) (a : ℕ) → part.shut ≡ false → admits part a ≡ true
open_admits part a unshut = ap (λ b. not b || is_own part a) unshut
