-- What words mean has these words: by computing it at all first words that `Own` leaves, 8,192.
use Rattle.std.proofs.Common.{◌≡◌, ℕ, ◌+◌, ◌*◌, ◌/◌, ◌%◌, ◌<◌, Bool, true, false, cond, ◌||◌, ◌==◌, Option, Some, None, MatchOption, is_none, IfSome, IsTrue, refl, sym, arith}
use Rattle.std.specs.Bool.{⊤}
use Rattle.std.proofs.lemmas.Bool.{and_parts, eqb-true}
use Rattle.std.proofs.lemmas.Bool.Decides.{nat_tests}
use Rattle.avr_isa.specs.declared.form.Form.{Form}
use Rattle.avr_isa.specs.declared.form.Form.TheVariants.{Lds, Sts, Jmp, Call}
use Rattle.avr_isa.specs.Instruction.{fields_in_range, is_valid}
use Rattle.avr_isa.specs.UndefinedPairs.{is_undefined}
use Rattle.avr_isa.specs.Encoding.{first_word, second_word, IsRow}
use Rattle.decode_laws.proofs.Own.{begins_own, is_one_word, own_fits}
use Rattle.decode_laws.proofs.Tables.{below, below-at}
use Rattle.avr_decode.specs.Decoding.{product_form, move_or_product_form, form_0000, form_0001, form_0010, displaced_form, load_form, store_form, plain_form, flag_or_plain_form, one_register_form}
use Rattle.avr_decode.specs.Decoding.{register_or_pair_form, io_bit_form, transfer_form, form_1001, io_form, register_bit_form, form_1111, one_word_form, destination_of, is_direct, is_long}
use Rattle.avr_decode.specs.Decoding.{two_word_form, defined_form, if_defined, the_form}

-- the words that begin with one byte, unless the byte tells the instruction
abbrev page : ℕ → Bool
page p = begins_own p || below (λ n. is_one_word (256 * p + n) (one_word_form (256 * p + n))) 256

every_word : below page 256 ≡ true
unfolding is_one_word first_word second_word fields_in_range product_form move_or_product_form form_0000 form_0001 form_0010 displaced_form load_form
    store_form plain_form flag_or_plain_form one_register_form register_or_pair_form io_bit_form transfer_form form_1001 io_form register_bit_form
    form_1111 one_word_form
every_word = refl

on_page : (own : Bool) (w : ℕ) → begins_own (w / 256) ≡ own → own || below (λ n. is_one_word (256 * (w / 256) + n) (one_word_form (256 * (w / 256) + n))) 256 ≡ true
    → is_one_word w (one_word_form w) ≡ true
on_page true w own h = own_fits w own
on_page false w own h =
    let column : ℕ → Bool = λ n. is_one_word (256 * (w / 256) + n) (one_word_form (256 * (w / 256) + n)) in
    let whole : 256 * (w / 256) + w % 256 ≡ w = omega arith in
    rw whole at (below-at column 256 h (w % 256) (omega arith))

pub one_word_fits : (w : ℕ) → w < 65536 → is_one_word w (one_word_form w) ≡ true
one_word_fits w bound = on_page (begins_own (w / 256)) w refl (below-at page 256 every_word (w / 256) (omega arith))

-- what is to be shown of the answer at two words
abbrev IsSound : ℕ → ℕ → Option Form → Type 0
IsSound first second o = IfSome o (λ f. IsTrue (is_valid f) × IsRow f first second)

unless_undefined : (f : Form) (b : Bool) (first second : ℕ) → is_undefined f ≡ b → fields_in_range f ≡ true → IsRow f first second → IsSound first second (cond b None (Some f))
unfolding is_valid
unless_undefined f true first second undefined ranges row = tt
unless_undefined f false first second undefined ranges row = (rw (ranges, undefined) refl, row)

defined_is_sound : (f : Form) (first second : ℕ) → fields_in_range f ≡ true → IsRow f first second → IsSound first second (defined_form f)
unfolding defined_form
defined_is_sound f first second = unless_undefined f (is_undefined f) first second refl

no_address : (o : Option ℕ) (second : ℕ) → is_none o ≡ true → MatchOption o ⊤ (λ a. second ≡ a)
no_address None second h = tt
no_address (Some a) second h = absurd (cc)

one_word_is_sound : (o : Option Form) (first second : ℕ) → is_one_word first o ≡ true → IsSound first second (if_defined o)
unfolding is_one_word if_defined
one_word_is_sound None first second h = tt
one_word_is_sound (Some f) first second h =
    let outer = and_parts _ _ h in
    let inner = and_parts _ _ outer.0 in
    defined_is_sound f first second inner.1 (record { opcode = sym (eqb-true _ _ inner.0); address = no_address (second_word f) second outer.1 })

-- the four instructions of two words, by the tests that tell them apart
two_words_by_tests : (jump call load : Bool) (w a : ℕ) → (w == 0x940C) ≡ jump → (w == 0x940E) ≡ call → (w / 512 % 2 == 0) ≡ load
    → is_direct w || (jump || call) ≡ true → a < 65536
    → IsSound w a (defined_form (cond jump (Jmp a) (cond call (Call a) (cond load (Lds (destination_of w) a) (Sts a (destination_of w))))))
unfolding defined_form is_undefined is_valid fields_in_range first_word second_word
two_words_by_tests true call load w a j c l long bound = (grind (arith, nat_tests), record { opcode = eqb-true _ _ j; address = refl })
two_words_by_tests false true load w a j c l long bound = (grind (arith, nat_tests), record { opcode = eqb-true _ _ c; address = refl })
two_words_by_tests false false true w a j c l long bound =
    let fixed : (w / 1024 ≡ 36) × (w % 16 ≡ 0) = grind (arith, nat_tests) in
    let zero_bit : w / 512 % 2 ≡ 0 = eqb-true _ _ l in
    (grind (arith, nat_tests), record { opcode = omega arith; address = refl })
two_words_by_tests false false false w a j c l long bound =
    let fixed : (w / 1024 ≡ 36) × (w % 16 ≡ 0) = grind (arith, nat_tests) in
    let one_bit : w / 512 % 2 ≡ 1 = grind (arith, nat_tests) in
    (grind (arith, nat_tests), record { opcode = omega arith; address = refl })

two_words_are_sound : (first second : ℕ) → is_long first ≡ true → second < 65536 → IsSound first second (defined_form (two_word_form first second))
unfolding is_long two_word_form
two_words_are_sound first second long bound = two_words_by_tests (first == 0x940C) (first == 0x940E) (first / 512 % 2 == 0) first second refl refl refl long bound

by_length : (long : Bool) (first second : ℕ) → is_long first ≡ long → first < 65536 → second < 65536
    → IsSound first second (if_defined (cond long (Some (two_word_form first second)) (one_word_form first)))
unfolding if_defined
by_length true first second long first_fits second_fits = two_words_are_sound first second long second_fits
by_length false first second short first_fits second_fits = one_word_is_sound (one_word_form first) first second (one_word_fits first first_fits)

-- what two words mean is valid and has these words
pub sound : (first second : ℕ) → first < 65536 → second < 65536 → IfSome (the_form first second) (λ f. IsTrue (is_valid f) × IsRow f first second)
unfolding the_form
sound first second = by_length (is_long first) first second refl
