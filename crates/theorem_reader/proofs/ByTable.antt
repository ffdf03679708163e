-- What words mean is what the manual's table has.
use Rattle.std.proofs.Common.{◌≡◌, ℕ, Bool, true, false, cond, IsTrue, ◌⊎◌, inl, inr, ◌↔◌, refl, arith}
use Rattle.avr_isa.specs.Encoding.{BeginsTwoWords}
use Rattle.avr_decode.specs.Decoding.{is_long, size_by_first_word}
use Rattle.decode_laws.proofs.Decoded.{the_form_is_decoded}
use Rattle.decode_laws.proofs.Lengths.{is_long_iff}
use Rattle.theorem_reader.specs.Words.{AreReadByTable, AreSizedByTable}

pub read_by_table : AreReadByTable
read_by_table = the_form_is_decoded

abbrev words_if : Bool → ℕ
words_if long = cond long 2 1

two_or_one : (long : Bool) → ((words_if long ≡ 2) ↔ IsTrue long) × ((words_if long ≡ 1) ⊎ (words_if long ≡ 2))
two_or_one true = ((λ two. refl, λ long. refl), inr refl)
two_or_one false = ((λ two. absurd (omega (arith, two)), λ long. absurd (let e : ◌≡◌ {A = Bool} false true = long in cc)), inl refl)

pub sized_by_table : AreSizedByTable
sized_by_table w fits =
    let sizes : ((size_by_first_word w ≡ 2) ↔ IsTrue (is_long w)) × ((size_by_first_word w ≡ 1) ⊎ (size_by_first_word w ≡ 2)) = two_or_one (is_long w) in
    let table : IsTrue (is_long w) ↔ BeginsTwoWords w = is_long_iff w fits in
    ((λ two. table.0 (sizes.0.0 two), λ begins. sizes.0.1 (table.1 begins)), sizes.1)
