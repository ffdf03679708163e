-- Numbers as they are written.
use Rattle.std.proofs.Common.{◌≡◌, ◌∙◌, ℕ, ◌<◌, ◌≤◌, ◌^◌, ◌&&◌, Bool, true, false, eqb, leb, cond, List, [], ◌∷◌, ◌++◌, length, arith, refl, ap, sym, subst, codes}
use Rattle.std.specs.Prelude.{Option, Some, None, MatchOption, option_and_then}
use Rattle.std.specs.Char.{digit_value, is_digit}
use Rattle.std.specs.List.{list_all}
use Rattle.std.specs.Str.Parse.{digits_value, AllDigits, IsNumeral}
use Rattle.std.proofs.lemmas.Bool.{and_parts, eqb-true}
use Rattle.std.proofs.lemmas.Bool.Decides.{nat_tests}
use Rattle.std.proofs.lemmas.Int.Digits.{digits_value-lt}
use Rattle.std.proofs.Math.Nat.{pow-le-pow_left, pow-le-pow_right}
use Rattle.text_lines.specs.Cutting.{Lacks}
use Rattle.text_lines.specs.Stripping.{stripped}
use Rattle.text_lines.proofs.DigitTests.{all_digits, digits_all, some_other}
use Rattle.text_lines.proofs.StripLaws.{stripped_front}
use Rattle.input_script.specs.Grammar.{digits_in, number_of, hex_in}
use Rattle.input_script.specs.GrammarLaw.{IsNumber, IsWritten}

-- what `value_of` answers of a text
abbrev pub IsRead : ℕ → List ℕ → Option ℕ → Type 0
IsRead radix text found = MatchOption found (¬ AllDigits radix text) (λ value. AllDigits radix text × (value ≡ digits_value radix text))

-- is what so many digits write
pub read_digits : (radix width : ℕ) (text : List ℕ) (found : Option ℕ) → length text ≡ width → IsRead radix text found → found ≡ digits_in radix width text
read_digits radix width text None long read =
    let same : eqb (length text) width ≡ true = grind (arith, nat_tests) in
    rw (same, some_other radix text read) refl
read_digits radix width text (Some value) long read =
    let same : eqb (length text) width ≡ true = grind (arith, nat_tests) in
    rw (same, all_digits radix text read.0) (ap Some read.1)

-- 1 to 10 decimal ones
pub read_number : (text : List ℕ) (found : Option ℕ) → 1 ≤ length text → length text ≤ 10 → IsRead 10 text found → found ≡ number_of text
read_number text found some most read =
    let least : leb 1 (length text) ≡ true = grind (arith, nat_tests) in
    let few : leb (length text) 10 ≡ true = grind (arith, nat_tests) in
    rw (least, few) (read_digits 10 (length text) text found refl read)

-- and what a word that is read as a number writes: the words of a command line are read so
pub numeral_number : (text : List ℕ) (found : Option ℕ) → length text ≤ 10 → MatchOption found (¬ IsNumeral 10 text) (λ value. IsNumeral 10 text × (value ≡ digits_value 10 text))
    → found ≡ number_of text
numeral_number text (Some value) most (numeral, is) = read_number text (Some value) numeral.0 most (numeral.1, is)
numeral_number [] None most none = refl
numeral_number (b ∷ text) None most none = read_number (b ∷ text) None (omega arith) most (λ digits. none (omega arith, digits))

-- up to three digits write a small number
pub digits_bound : (radix width value : ℕ) (text : List ℕ) → length text ≡ width → AllDigits radix text → value ≡ digits_value radix text → value < radix ^ width
digits_bound radix width value text long digits is =
    let below : digits_value radix text < radix ^ width = subst (λ n. digits_value radix text < radix ^ n) long (digits_value-lt radix text digits) in
    omega (arith, below, is)

pub digits_fit : (radix width value : ℕ) (text : List ℕ) → radix ≤ 16 → width ≤ 3 → length text ≡ width → AllDigits radix text → value ≡ digits_value radix text → value < 65536
digits_fit radix width value text base few long digits is =
    let most : radix ^ width ≤ 16 ^ width = pow-le-pow_left base width in
    let more : 16 ^ width ≤ 16 ^ 3 = pow-le-pow_right {n = 16} (omega arith) {i = width} {j = 3} few in
    omega (arith, digits_bound radix width value text long digits is, most, more)

-- What is read as a number is one as the format has it. ---------------------------------------------------

tested : {T : Type 0} (test : Bool) (inner : Option T) (found : T) → cond test inner None ≡ Some found → (test ≡ true) × (inner ≡ Some found)
tested true inner found is = (refl, is)
tested false inner found is = absurd (cc)

pub digits_written : (radix width n : ℕ) (text : List ℕ) → digits_in radix width text ≡ Some n → IsWritten [] radix width text n
digits_written radix width n text is =
    let found = tested (eqb (length text) width && list_all (λ b. is_digit b radix) text) (Some (digits_value radix text)) n is in
    let tests = and_parts (eqb (length text) width) (list_all (λ b. is_digit b radix) text) found.0 in
    let same : Some (digits_value radix text) ≡ Some n = found.1 in
    record { digits = text; written = refl; all = digits_all radix text tests.1; size = eqb-true (length text) width tests.0; value = cc }

pub number_written : (n : ℕ) (text : List ℕ) → number_of text ≡ Some n → IsNumber text n
number_written n text is =
    let found = tested (leb 1 (length text) && leb (length text) 10) (digits_in 10 (length text) text) n is in
    let tests = and_parts (leb 1 (length text)) (leb (length text) 10) found.0 in
    (grind (arith, nat_tests, tests.0), grind (arith, nat_tests, tests.1), digits_written 10 (length text) n text found.1)

hex_by : (width n : ℕ) (text : List ℕ) (found : Option (List ℕ)) → stripped (codes "0x") text ≡ found → option_and_then (digits_in 16 width) found ≡ Some n → IsWritten (codes "0x") 16 width text n
hex_by width n text None front is = absurd (cc)
hex_by width n text (Some digits) front is =
    let its = digits_written 16 width n digits is in
    record {
      digits = digits;
      written = stripped_front (codes "0x") text digits front;
      all = subst (AllDigits 16) (sym its.written) its.all;
      size = ap length its.written ∙ its.size;
      value = its.value
          ∙ ap (digits_value 16) (sym its.written);
    }

pub hex_written : (width n : ℕ) (text : List ℕ) → hex_in width text ≡ Some n → IsWritten (codes "0x") 16 width text n
hex_written width n text is = hex_by width n text (stripped (codes "0x") text) refl is

-- a number has a digit, and nothing else
pub number_digits : (n : ℕ) (text : List ℕ) → number_of text ≡ Some n → IsNumeral 10 text
number_digits n text is =
    let number = number_written n text is in
    (number.0, subst (AllDigits 10) (sym number.2.written) number.2.all)

-- A space is no digit. -----------------------------------------------------------------------------------

pub digits_lack_space : (radix : ℕ) (text : List ℕ) → radix ≤ 16 → AllDigits radix text → Lacks 32 text
digits_lack_space radix [] base all = tt
digits_lack_space radix (b ∷ text) base all = (λ space. omega (arith, ap digit_value space, all.0, base), digits_lack_space radix text base all.1)

-- so a text with one writes no number
front_lacks : (front digits : List ℕ) → Lacks 32 front → Lacks 32 digits → Lacks 32 (front ++ digits)
front_lacks [] digits lacks more = more
front_lacks (b ∷ front) digits lacks more = (lacks.0, front_lacks front digits lacks.1 more)

pub written_lacks : (front : List ℕ) (radix width n : ℕ) (text : List ℕ) → radix ≤ 16 → Lacks 32 front → IsWritten front radix width text n → Lacks 32 text
written_lacks front radix width n text base lacks is =
    subst (Lacks 32) (sym is.written) (front_lacks front is.digits lacks (digits_lack_space radix is.digits base is.all))
