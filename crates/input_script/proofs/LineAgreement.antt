-- The functions that read a script say what the format says.
use Rattle.std.proofs.Common.{◌≡◌, ℕ, zero, suc, ◌≤◌, ◌&&◌, Bool, true, false, cond, eqb, List, [], ◌∷◌, ◌++◌, length, codes, arith, ap, ap₂, ◌∙◌, sym, refl, subst, inl, inr}
use Rattle.std.specs.Prelude.{Option, Some, None, option_map, option_and_then, bytes_eq}
use Rattle.std.specs.Str.Parse.{digits_value, AllDigits}
use Rattle.std.proofs.lemmas.Bool.{and_parts, eqb-true}
use Rattle.std.proofs.lemmas.Bool.Decides.{nat_tests}
use Rattle.std.proofs.lemmas.List.{append_assoc}
use Rattle.std.proofs.lemmas.List.Splits.{join_with_byte-slice_split}
use Rattle.text_lines.specs.Cutting.{Lacks}
use Rattle.text_lines.proofs.CutLaws.{lacks_unplaced}
use Rattle.text_lines.proofs.FaultLaws.{found_is}
use Rattle.input_script.specs.declared.input.Input.{Input}
use Rattle.input_script.specs.declared.input.Input.TheVariants.{Pin, Uart, Adc, Int}
use Rattle.input_script.specs.declared.line.Statement.{Statement}
use Rattle.input_script.specs.declared.line.Statement.TheVariants.{Nothing, At, FailFlash}
use Rattle.input_script.specs.Grammar.{digits_in, hex_in, input_in, is_skipped, number_of, said_in, statement_of, words_of}
use Rattle.input_script.specs.GrammarLaw.{IsInput, IsNumber, IsStatement, IsWritten}
use Rattle.input_script.proofs.Digits.{digits_written, hex_written, number_written, read_digits, read_number, written_lacks}
use Rattle.input_script.proofs.Words.{cut_word, first_word, one_word, same_word}

-- Numbers. ----------------------------------------------------------------------------------------------------

written_digits : (front : List ℕ) (radix width n : ℕ) (text : List ℕ) → (is : IsWritten front radix width text n) → digits_in radix width is.digits ≡ Some n
written_digits front radix width n text is = sym (read_digits radix width is.digits (Some n) is.size (is.all, is.value))

written_number : (text : List ℕ) (n : ℕ) → IsNumber text n → number_of text ≡ Some n
written_number text n (some, most, is) =
    sym (read_number text (Some n) some most (subst (λ (t : List ℕ). AllDigits 10 t × (n ≡ digits_value 10 t)) (sym is.written) (is.all, is.value)))

number_spaceless : (text : List ℕ) (n : ℕ) → IsNumber text n → Lacks 32 text
number_spaceless text n number = written_lacks [] 10 (length text) n text (omega arith) tt number.2

-- Inputs. -----------------------------------------------------------------------------------------------------

-- a kind's word and its value, cut at the space
record IsCutInput (text : List ℕ) (input : Input) : Type 0 where
  word : List ℕ
  value : List ℕ
  cut : text ≡ word ++ 32 ∷ value
  word_lacks : Lacks 32 word
  value_lacks : Lacks 32 value
  is : input_in word value ≡ Some input

hex_cut : (word text : List ℕ) (kind : ℕ → Input) (width n : ℕ) → Lacks 32 word → ((t : List ℕ) → input_in word t ≡ option_map kind (hex_in width t)) → IsWritten (word ++ codes " 0x") 16 width text n
    → IsCutInput text (kind n)
hex_cut word text kind width n lacks reads is =
    let value = codes "0x" ++ is.digits in record {
      word = word;
      value = value;
      cut = is.written ∙ append_assoc word (codes " 0x") is.digits;
      word_lacks = lacks;
      value_lacks = written_lacks (codes "0x") 16 width n value (omega arith) (lacks_unplaced 32 (codes "0x") refl)
          (record { digits = is.digits; written = refl; all = is.all; size = is.size; value = is.value });
      is = reads value ∙ ap (option_map kind) (written_digits (word ++ codes " 0x") 16 width n text is);
    }

cut_input : (text : List ℕ) (input : Input) → IsInput text input → IsCutInput text input
cut_input text (Pin zero n) (port, is) = hex_cut (codes "pina") text (Pin 0) 2 n (lacks_unplaced 32 (codes "pina") refl) (λ t. refl) is
cut_input text (Pin (suc zero) n) (port, is) = hex_cut (codes "pinb") text (Pin 1) 2 n (lacks_unplaced 32 (codes "pinb") refl) (λ t. refl) is
cut_input text (Pin (suc (suc zero)) n) (port, is) = hex_cut (codes "pinc") text (Pin 2) 2 n (lacks_unplaced 32 (codes "pinc") refl) (λ t. refl) is
cut_input text (Pin (suc (suc (suc zero))) n) (port, is) = hex_cut (codes "pind") text (Pin 3) 2 n (lacks_unplaced 32 (codes "pind") refl) (λ t. refl) is
cut_input text (Pin (suc (suc (suc (suc more)))) n) (port, is) = absurd (omega (arith, port))
cut_input text (Uart n) is = hex_cut (codes "uart") text Uart 2 n (lacks_unplaced 32 (codes "uart") refl) (λ t. refl) is
cut_input text (Adc n) is = hex_cut (codes "adc") text Adc 3 n (lacks_unplaced 32 (codes "adc") refl) (λ t. refl) is
cut_input text (Int n) is = record {
  word = codes "int";
  value = is.digits;
  cut = is.written;
  word_lacks = lacks_unplaced 32 (codes "int") refl;
  value_lacks = written_lacks [] 8 1 n is.digits (omega arith) tt (record { digits = is.digits; written = refl; all = is.all; size = is.size; value = is.value });
  is = ap (option_map Int) (written_digits (codes "int ") 8 1 n text is);
}

mapped : {T U : Type 0} (f : T → U) (found : Option T) (x : U) → option_map f found ≡ Some x → (y : T) × (found ≡ Some y) × (f y ≡ x)
mapped f None x is = absurd (cc)
mapped f (Some y) x is = (y, refl, (let same : Some (f y) ≡ Some x = is in cc))

-- what a word and a value write
abbrev Writes : (word value : List ℕ) → Input → Type 0
Writes word value input = IsInput (word ++ 32 ∷ value) input

by_hex : (kind_word word value : List ℕ) (kind : ℕ → Input) (width : ℕ) (input : Input) (test : Bool) (others : Option Input) → bytes_eq word kind_word ≡ test
    → ((n : ℕ) → IsWritten (kind_word ++ codes " 0x") 16 width (kind_word ++ 32 ∷ value) n → Writes kind_word value (kind n))
    → (others ≡ Some input → Writes word value input) → cond test (option_map kind (hex_in width value)) others ≡ Some input → Writes word value input
by_hex kind_word word value kind width input false others eq mine later is = later is
by_hex kind_word word value kind width input true others eq mine later is =
    let its = mapped kind (hex_in width value) input is in
    let hex = hex_written width its.0 value its.1 in
    subst (λ w. Writes w value input) (sym (same_word word kind_word eq)) (subst (λ i. Writes kind_word value i) its.2 (mine its.0 (record {
      digits = hex.digits;
      written = ap (λ v. kind_word ++ 32 ∷ v) hex.written ∙ sym (append_assoc kind_word (codes " 0x") hex.digits);
      all = hex.all;
      size = hex.size;
      value = hex.value;
    })))

by_int : (word value : List ℕ) (input : Input) (test : Bool) → bytes_eq word (codes "int") ≡ test → cond test (option_map Int (digits_in 8 1 value)) None ≡ Some input → Writes word value input
by_int word value input false eq is = absurd (cc)
by_int word value input true eq is =
    let its = mapped Int (digits_in 8 1 value) input is in
    let octal = digits_written 8 1 its.0 value its.1 in
    subst (λ w. Writes w value input) (sym (same_word word (codes "int") eq)) (subst (λ i. Writes (codes "int") value i) its.2
    (record { digits = octal.digits; written = ap (λ v. codes "int " ++ v) octal.written; all = octal.all; size = octal.size; value = octal.value }))

input_written : (word value : List ℕ) (input : Input) → input_in word value ≡ Some input → Writes word value input
input_written word value input is =
    by_hex (codes "pina") word value (Pin 0) 2 input _ _ refl (λ n w. (omega arith, w))
    (by_hex (codes "pinb") word value (Pin 1) 2 input _ _ refl (λ n w. (omega arith, w))
    (by_hex (codes "pinc") word value (Pin 2) 2 input _ _ refl (λ n w. (omega arith, w))
    (by_hex (codes "pind") word value (Pin 3) 2 input _ _ refl (λ n w. (omega arith, w))
    (by_hex (codes "uart") word value Uart 2 input _ _ refl (λ n w. w)
    (by_hex (codes "adc") word value Adc 3 input _ _ refl (λ n w. w)
    (by_int word value input _ refl)))))) is

-- Lines. ------------------------------------------------------------------------------------------------------

-- no line that begins with a letter is skipped
letter_stays : (b : ℕ) (rest : List ℕ) → 64 ≤ b → is_skipped (b ∷ rest) ≡ false
letter_stays b rest far =
    let some : eqb (length (b ∷ rest)) 0 ≡ false = grind (arith, nat_tests) in
    let letter : eqb b 35 ≡ false = grind (arith, nat_tests) in
    rw (some, letter) refl

-- what its words say
stays_said : (line : List ℕ) (words : List (List ℕ)) → is_skipped line ≡ false → words_of line ≡ words → statement_of line ≡ said_in words
stays_said line words stays are = ap (λ b. cond b (Some Nothing) (said_in (words_of line))) stays ∙ ap said_in are

pub statement_to : (line : List ℕ) (statement : Statement) → IsStatement line statement → statement_of line ≡ Some statement
statement_to line Nothing (inl empty) = ap statement_of empty
statement_to line Nothing (inr (comment, is)) =
    let some : eqb (length (35 ∷ comment)) 0 ≡ false = grind (arith, nat_tests) in
    let skipped : is_skipped (35 ∷ comment) ≡ true = rw some refl in
    ap statement_of is ∙ ap (λ b. cond b (Some Nothing) (said_in (words_of (35 ∷ comment)))) skipped
statement_to line (At n input) (number, rest, written, is, its) =
    let i = cut_input rest input its in
    let tail = number ++ 32 ∷ rest in
    let whole : line ≡ codes "at" ++ 32 ∷ tail = written ∙ append_assoc (codes "at " ++ number) (codes " ") rest ∙ append_assoc (codes "at ") number (32 ∷ rest) in
    let words : words_of line ≡ codes "at" ∷ number ∷ i.word ∷ i.value ∷ [] =
    cut_word line (codes "at") tail (lacks_unplaced 32 (codes "at") refl) whole
    ∙ ap (λ ws. codes "at" ∷ ws) (first_word number rest (number_spaceless number n is)
    ∙ ap (λ ws. number ∷ ws) (cut_word rest i.word i.value i.word_lacks i.cut ∙ ap (λ ws. i.word ∷ ws) (one_word i.value i.value_lacks))) in
    stays_said line _ (ap is_skipped whole ∙ letter_stays 97 (116 ∷ 32 ∷ tail) (omega arith)) words
    ∙ ap₂ (λ m (x : Option Input). option_and_then (λ k. option_map (At k) x) m) (written_number number n is) i.is
statement_to line (FailFlash n) (number, written, is) =
    let words : words_of line ≡ codes "fail" ∷ codes "flash" ∷ number ∷ [] = ap words_of written ∙ ap (λ ws. codes "fail" ∷ codes "flash" ∷ ws) (one_word number (number_spaceless number n is)) in
    stays_said line _ (ap is_skipped written ∙ letter_stays 102 (codes "ail flash " ++ number) (omega arith)) words ∙ ap (option_map FailFlash) (written_number number n is)

fail_from : (line a b c : List ℕ) (statement : Statement) (test : Bool) → line ≡ a ++ 32 ∷ (b ++ 32 ∷ c) → (bytes_eq a (codes "fail") && bytes_eq b (codes "flash")) ≡ test
    → cond test (option_map FailFlash (number_of c)) None ≡ Some statement → IsStatement line statement
fail_from line a b c statement false whole eq is = absurd (cc)
fail_from line a b c statement true whole eq is =
    let both = and_parts (bytes_eq a (codes "fail")) (bytes_eq b (codes "flash")) eq in
    let its = mapped FailFlash (number_of c) statement is in
    subst (IsStatement line) its.2 (c, whole ∙ ap₂ (λ x y. x ++ 32 ∷ (y ++ 32 ∷ c)) (same_word a (codes "fail") both.0) (same_word b (codes "flash") both.1), number_written its.0 c its.1)

event_by : (line b c d : List ℕ) (statement : Statement) (n : Option ℕ) (x : Option Input) → line ≡ codes "at" ++ 32 ∷ (b ++ 32 ∷ (c ++ 32 ∷ d)) → number_of b ≡ n → input_in c d ≡ x
    → option_and_then (λ m. option_map (At m) x) n ≡ Some statement → IsStatement line statement
event_by line b c d statement None x whole number input is = absurd (cc)
event_by line b c d statement (Some m) None whole number input is = absurd (cc)
event_by line b c d statement (Some m) (Some i) whole number input is =
    let rest = c ++ 32 ∷ d in
    found_is (IsStatement line) (At m i) statement is
    (b, rest, whole ∙ sym (append_assoc (codes "at " ++ b) (codes " ") rest ∙ append_assoc (codes "at ") b (32 ∷ rest)), number_written m b number, input_written c d i input)

event_from : (line a b c d : List ℕ) (statement : Statement) (test : Bool) → line ≡ a ++ 32 ∷ (b ++ 32 ∷ (c ++ 32 ∷ d)) → bytes_eq a (codes "at") ≡ test
    → cond test (option_and_then (λ n. option_map (At n) (input_in c d)) (number_of b)) None ≡ Some statement → IsStatement line statement
event_from line a b c d statement false whole eq is = absurd (cc)
event_from line a b c d statement true whole eq is =
    event_by line b c d statement (number_of b) (input_in c d) (whole ∙ ap (λ z. z ++ 32 ∷ (b ++ 32 ∷ (c ++ 32 ∷ d))) (same_word a (codes "at") eq)) refl refl is

words_from : (line : List ℕ) (words : List (List ℕ)) (statement : Statement) → words_of line ≡ words → said_in words ≡ Some statement → IsStatement line statement
words_from line [] statement cut is = absurd (cc)
words_from line (a ∷ []) statement cut is = absurd (cc)
words_from line (a ∷ b ∷ []) statement cut is = absurd (cc)
words_from line (a ∷ b ∷ c ∷ []) statement cut is = fail_from line a b c statement _ (sym (rw cut at (join_with_byte-slice_split 32 line))) refl is
words_from line (a ∷ b ∷ c ∷ d ∷ []) statement cut is = event_from line a b c d statement _ (sym (rw cut at (join_with_byte-slice_split 32 line))) refl is
words_from line (a ∷ b ∷ c ∷ d ∷ e ∷ more) statement cut is = absurd (cc)

skipped_from : (line : List ℕ) → is_skipped line ≡ true → IsStatement line Nothing
skipped_from [] is = inl refl
skipped_from (b ∷ rest) is =
    let some : eqb (length (b ∷ rest)) 0 ≡ false = grind (arith, nat_tests) in
    let hash : eqb b 35 ≡ true = rw some at is in
    inr (rest, ap (λ c. c ∷ rest) (eqb-true b 35 hash))

statement_by : (line : List ℕ) (statement : Statement) (test : Bool) → is_skipped line ≡ test → cond test (Some Nothing) (said_in (words_of line)) ≡ Some statement → IsStatement line statement
statement_by line statement true skipped is =
    found_is (IsStatement line) Nothing statement is (skipped_from line skipped)
statement_by line statement false stays is = words_from line (words_of line) statement refl is

pub statement_from : (line : List ℕ) (statement : Statement) → statement_of line ≡ Some statement → IsStatement line statement
statement_from line statement is = statement_by line statement (is_skipped line) refl is
