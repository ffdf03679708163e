-- How many words an instruction has, by its first word.
use Rattle.std.proofs.Common.{◌≡◌, ℕ, ◌<◌, Bool, true, false, cond, ◌==◌, Option, Some, None, MatchOption, is_none, unwrap_or, IsTrue, ◌↔◌, refl, arith}
use Rattle.std.specs.Bool.{⊤}
use Rattle.std.proofs.lemmas.Bool.{and_parts, eqb-true}
use Rattle.avr_isa.specs.declared.form.Form.{Form}
use Rattle.avr_isa.specs.declared.form.Form.TheVariants.{Lds, Sts, Jmp, Call}
use Rattle.avr_isa.specs.Instruction.{is_valid, size_of}
use Rattle.avr_isa.specs.UndefinedPairs.{is_undefined}
use Rattle.avr_isa.specs.Encoding.{first_word, second_word, IsRow, BeginsTwoWords}
use Rattle.avr_isa.proofs.Laws.{size_of-second_word}
use Rattle.avr_decode.specs.Decoding.{one_word_form, is_long, size_by_first_word, two_word_form, defined_form, if_defined, the_form}
use Rattle.decode_laws.proofs.Complete.{complete}
use Rattle.decode_laws.proofs.Own.{is_one_word}
use Rattle.decode_laws.proofs.Sound.{one_word_fits, sound}

-- without a second word in its instruction, the word after it is free
pub the_form-second : (first a b : ℕ) → is_long first ≡ false → the_form first a ≡ the_form first b
unfolding the_form
the_form-second first a b short = rw short refl

unless : (undefined : Bool) (g f : Form) → cond undefined None (Some g) ≡ Some f → g ≡ f
unless true g f same = absurd (cc)
unless false g f same = cc

defined_form-same : (g f : Form) → defined_form g ≡ Some f → g ≡ f
unfolding defined_form
defined_form-same g f = unless (is_undefined g) g f

-- what holds of the four instructions of two words, holds of the one that the tests tell
by_tests : (P : Form → Type 0) (jump call load : Bool) (a d : ℕ) → P (Jmp a) → P (Call a) → P (Lds d a) → P (Sts a d)
    → P (cond jump (Jmp a) (cond call (Call a) (cond load (Lds d a) (Sts a d))))
by_tests P true call load a d jmp called lds sts = jmp
by_tests P false true load a d jmp called lds sts = called
by_tests P false false true a d jmp called lds sts = lds
by_tests P false false false a d jmp called lds sts = sts

size_of-two_word_form : (w a : ℕ) → size_of (two_word_form w a) ≡ 2
unfolding two_word_form size_of
size_of-two_word_form w a = by_tests (λ f. size_of f ≡ 2) _ _ _ a _ refl refl refl refl

is_undefined-two_word_form : (w a : ℕ) → is_undefined (two_word_form w a) ≡ false
unfolding two_word_form is_undefined
is_undefined-two_word_form w a = by_tests (λ f. is_undefined f ≡ false) _ _ _ a _ refl refl refl refl

one_word_size : (o : Option Form) (f : Form) (w : ℕ) → is_one_word w o ≡ true → if_defined o ≡ Some f → size_of f ≡ 1
unfolding is_one_word if_defined
one_word_size None f w fits same = absurd (cc)
one_word_size (Some g) f w fits same =
    let alone : is_none (second_word g) ≡ true = (and_parts _ _ fits).1 in
    let one : (size_of g == 1) ≡ true = rw size_of-second_word at alone in
    rw (← defined_form-same g f same) (eqb-true _ _ one)

size_by_length : (long : Bool) (first second : ℕ) (f : Form) → first < 65536 → if_defined (cond long (Some (two_word_form first second)) (one_word_form first)) ≡ Some f → size_of f ≡ cond long 2 1
unfolding if_defined
size_by_length true first second f fits same = rw (← defined_form-same (two_word_form first second) f same) (size_of-two_word_form first second)
size_by_length false first second f fits same = one_word_size (one_word_form first) f first (one_word_fits first fits) same

-- the number of words is told by the first word
pub the_form-size : (first second : ℕ) (f : Form) → first < 65536 → the_form first second ≡ Some f → size_of f ≡ size_by_first_word first
unfolding the_form
the_form-size first second f = size_by_length (is_long first) first second f

-- a first word of two is long
address : (o : Option ℕ) → MatchOption o ⊤ (λ a. unwrap_or o 0 ≡ a)
address None = tt
address (Some a) = refl

length_tells : (long : Bool) (n : ℕ) → n ≡ 2 → n ≡ cond long 2 1 → long ≡ true
length_tells true n two told = refl
length_tells false n two told = absurd (omega arith)

long_word : (f : Form) (w : ℕ) → w < 65536 → IsTrue (is_valid f) → size_of f ≡ 2 → w ≡ first_word f → is_long w ≡ true
long_word f w fits valid size same =
    let second : ℕ = unwrap_or (second_word f) 0 in
    let means : the_form w second ≡ Some f = rw same (complete f second valid (address (second_word f))) in
    length_tells (is_long w) (size_of f) size (the_form-size w second f fits means)

long_row : (w : ℕ) → w < 65536 → is_long w ≡ true → IsTrue (is_valid (two_word_form w 0)) × IsRow (two_word_form w 0) w 0
unfolding the_form if_defined defined_form
long_row w fits long = rw (long, is_undefined-two_word_form) at (sound w 0 fits (omega arith))

-- the tests of a long word are those of the table
pub is_long_iff : (w : ℕ) → w < 65536 → IsTrue (is_long w) ↔ BeginsTwoWords w
is_long_iff w fits = (
  λ long.
      let row : IsTrue (is_valid (two_word_form w 0)) × IsRow (two_word_form w 0) w 0 = long_row w fits long in
      (two_word_form w 0, (row.0, size_of-two_word_form w 0, row.1.opcode)),
  λ two. long_word two.0 w fits two.1.0 two.1.1 two.1.2,
)
