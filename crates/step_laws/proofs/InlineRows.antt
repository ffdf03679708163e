-- The instructions of an inline template where its words stand in flash; they are valid where the program's instruction is, and
-- use no register of Z.
use Rattle.std.proofs.Common.{◌≡◌, ℕ, ◌+◌, ◌%◌, ◌<◌, List, [], ◌∷◌, ◌++◌, length, map, arith, refl, ap, subst, ◌∙◌, Bool, true, false}
use Rattle.std.specs.Prelude.{Option, Some, None, IsTrue, ◌&&◌, nat_lt}
use Rattle.std.specs.Option.{option_to_list}
use Rattle.std.proofs.lemmas.List.{length-append}
use Rattle.avr_isa.specs.declared.form.Form.{Form}
use Rattle.avr_isa.specs.Encoding.{first_word, second_word, IsRow}
use Rattle.avr_isa.specs.Instruction.{is_valid, fields_in_range}
use Rattle.decode_laws.proofs.Decoded.{the_form_only}
use Rattle.avr_isa.specs.Addresses.{wrapping_sum}
use Rattle.flash_words.specs.Pages.{word_at}
use Rattle.nat_template.specs.declared.piece.Piece.{Piece}
use Rattle.nat_template.specs.declared.piece.Piece.TheVariants.{Fixed}
use Rattle.nat_template.specs.Words.{words_of_form, words_of_forms, width_of}
use Rattle.nat_template.specs.Templates.{inline, is_z}
use Rattle.page_draft.specs.Standing.{Stands}
use Rattle.inline_laws.specs.Rows.{Row}
use Rattle.avr_isa.specs.declared.form.Form.TheVariants.{Push, Pop, LoadOff, StoreOff, Word}
use Rattle.avr_isa.specs.declared.operation.WordOp.TheVariants.{Adiw}
use Rattle.avr_isa.specs.declared.operation.Base.TheVariants.{Y, Z}
use Rattle.avr_isa.specs.UndefinedPairs.{is_undefined}
use Rattle.nat_template.specs.Inline.{back, trap, push_forms, pop_forms, load_forms, store_forms}
use Rattle.inline_laws.specs.InlineWays.{IsOther}

-- each is an instruction
abbrev pub AreValid : List Form → Type 0
AreValid [] = Unit {0}
AreValid (form ∷ forms) = IsTrue (is_valid form) × AreValid forms

-- the words from a on are these
abbrev pub Stand : List ℕ → ℕ → List ℕ → Type 0
Stand words a [] = Unit {0}
Stand words a (w ∷ ws) = (word_at words a ≡ w) × Stand words (a + 1) ws

stand_split : (words : List ℕ) (a : ℕ) (xs ys : List ℕ) → Stand words a (xs ++ ys) → Stand words a xs × Stand words (a + length xs) ys
stand_split words a [] ys all = (tt, let P : ℕ → Type 0 = λ b. Stand words b ys in subst P (omega arith) all)
stand_split words a (x ∷ xs) ys all =
    let rest = stand_split words (a + 1) xs ys all.1 in
    let there : a + 1 + length xs ≡ a + length (x ∷ xs) = omega arith in
    ((all.0, rest.0), rw there at rest.1)

row_by : (form : Form) (words : List ℕ) (a : ℕ) (second : Option ℕ) → second_word form ≡ second → a + 1 < 65536 → Stand words a (first_word form ∷ option_to_list second)
    → IsRow form (word_at words a) (word_at words (wrapping_sum a 1))
row_by form words a None is room stands = record {
  opcode = stands.0;
  address = rw is tt;
}
row_by form words a (Some w) is room stands = record {
  opcode = stands.0;
  address = let here : (a + 1) % 65536 ≡ a + 1 = omega arith in rw is (ap (word_at words) here ∙ stands.1.0);
}

pub row_stands : (words : List ℕ) (a : ℕ) (forms : List Form) → a + length (words_of_forms forms) + 1 < 65536 → AreValid forms → Stand words a (words_of_forms forms) → Row words a forms
row_stands words a [] room valid stands = tt
row_stands words a (form ∷ forms) room valid stands =
    let two = stand_split words a (words_of_form form) (words_of_forms forms) stands in
    let here : a + 1 < 65536 = omega arith in
    let more : a + width_of form + length (words_of_forms forms) + 1 < 65536 = omega (arith, length-append (option_to_list (second_word form)) (words_of_forms forms)) in (
      the_form_only form (word_at words a) (word_at words (wrapping_sum a 1)) valid.0 (row_by form words a (second_word form) refl here two.0),
      row_stands words (a + width_of form) forms more valid.1 two.1,
    )

-- from the pieces of an inline template; behind them stands the pc
pub fixed_stand : (leads : ℕ → ℕ → Type 0) (words : List ℕ) (a : ℕ) (ws : List ℕ) (rest : List Piece) → Stands leads words a (map (λ w. Fixed w) ws ++ rest)
    → Stand words a ws × Stands leads words (a + length ws) rest
fixed_stand leads words a [] rest stands = (tt, let P : ℕ → Type 0 = λ b. Stands leads words b rest in subst P (omega arith) stands)
fixed_stand leads words a (w ∷ ws) rest stands =
    let more = fixed_stand leads words (a + 1) ws rest stands.1 in
    let there : a + 1 + length ws ≡ a + length (w ∷ ws) = omega arith in
    ((stands.0, more.0), rw there at more.1)

pub inline_row : (leads : ℕ → ℕ → Type 0) (words : List ℕ) (a pc : ℕ) (forms : List Form) → a + length (words_of_forms forms) + 1 < 65536 → AreValid forms → Stands leads words a (inline forms pc)
    → Row words a forms × (word_at words (a + length (words_of_forms forms)) ≡ pc)
inline_row leads words a pc forms room valid stands =
    let parts = fixed_stand leads words a (words_of_forms forms) (Fixed pc ∷ []) stands in
    (row_stands words a forms room valid parts.0, parts.1.0)

pub other_than_z : (d : ℕ) → is_z d ≡ false → IsOther d
other_than_z d is = (
  λ same. absurd (let e : is_z d ≡ true = ap is_z same in cc),
  λ same. absurd (let e : is_z d ≡ true = ap is_z same in cc),
)

register_by : (b : Bool) → IsTrue (b && true) → b ≡ true
register_by true is = refl
register_by false is = absurd (cc)

two_by : (b c : Bool) → IsTrue (b && c && true) → (b ≡ true) × (c ≡ true)
two_by true true is = (refl, refl)
two_by true false is = absurd (cc)
two_by false c is = absurd (cc)

push_register : (d : ℕ) → IsTrue (is_valid (Push d)) → nat_lt d 32 ≡ true
unfolding is_valid fields_in_range is_undefined
push_register d valid = register_by (nat_lt d 32) valid

pop_register : (d : ℕ) → IsTrue (is_valid (Pop d)) → nat_lt d 32 ≡ true
unfolding is_valid fields_in_range is_undefined
pop_register d valid = register_by (nat_lt d 32) valid

load_fields : (d q : ℕ) → IsTrue (is_valid (LoadOff d Y q)) → (nat_lt d 32 ≡ true) × (nat_lt q 64 ≡ true)
unfolding is_valid fields_in_range is_undefined
load_fields d q valid = two_by (nat_lt d 32) (nat_lt q 64) valid

store_fields : (q d : ℕ) → IsTrue (is_valid (StoreOff Y q d)) → (nat_lt d 32 ≡ true) × (nat_lt q 64 ≡ true)
unfolding is_valid fields_in_range is_undefined
store_fields q d valid = two_by (nat_lt d 32) (nat_lt q 64) valid

-- LD d, Z; ST Z, d; and ADIW
load_valid : (d : ℕ) → nat_lt d 32 ≡ true → IsTrue (is_valid (LoadOff d Z 0))
unfolding is_valid fields_in_range is_undefined
load_valid d fits = ap (λ b. b && true && true) fits

store_valid : (d : ℕ) → nat_lt d 32 ≡ true → IsTrue (is_valid (StoreOff Z 0 d))
unfolding is_valid fields_in_range is_undefined
store_valid d fits = ap (λ b. b && true && true) fits

raise_valid : (q : ℕ) → nat_lt q 64 ≡ true → IsTrue (is_valid (Word Adiw 30 q))
unfolding is_valid fields_in_range is_undefined
raise_valid q fits = ap (λ b. b && true) fits

-- back and the trap, with which each template ends; and the whole templates
back_valid : AreValid (back ++ trap)
unfolding second_word is_valid fields_in_range is_undefined
back_valid = (refl, (refl, (refl, (refl, (refl, (refl, (refl, (refl, (refl, (refl, tt))))))))))

pub push_valid : (d : ℕ) → IsTrue (is_valid (Push d)) → AreValid (push_forms d)
unfolding push_forms second_word is_valid fields_in_range is_undefined
push_valid d valid = (refl, (refl, (refl, (refl, (refl, (refl, (refl, (refl, (refl, (refl, (store_valid d (push_register d valid), (refl, (refl, (refl, back_valid))))))))))))))

pub pop_valid : (d : ℕ) → IsTrue (is_valid (Pop d)) → AreValid (pop_forms d)
unfolding pop_forms second_word is_valid fields_in_range is_undefined
pop_valid d valid = (refl, (refl, (refl, (refl, (refl, (refl, (refl, (refl, (refl, (refl, (refl, (load_valid d (pop_register d valid), (refl, (refl, back_valid))))))))))))))

pub frame_load_valid : (d q : ℕ) → IsTrue (is_valid (LoadOff d Y q)) → AreValid (load_forms d q)
unfolding load_forms second_word is_valid fields_in_range is_undefined
frame_load_valid d q valid = (refl, (refl, (refl, (refl, (refl, (raise_valid q (load_fields d q valid).1, (refl, (refl, (refl, (refl, (load_valid d (load_fields d q valid).0, back_valid)))))))))))

pub frame_store_valid : (q d : ℕ) → IsTrue (is_valid (StoreOff Y q d)) → AreValid (store_forms q d)
unfolding store_forms second_word is_valid fields_in_range is_undefined
frame_store_valid q d valid = (refl, (refl, (refl, (refl, (refl, (raise_valid q (store_fields q d valid).1, (refl, (refl, (refl, (refl, (store_valid d (store_fields q d valid).0, back_valid)))))))))))
