-- The words of a line, cut at a space.
use Rattle.std.proofs.Common.{◌≡◌, ℕ, ◌&&◌, Bool, true, false, eqb, cond, List, [], ◌∷◌, ◌++◌, length, arith, refl, ap, sym, ◌∙◌, codes}
use Rattle.std.specs.Prelude.{Option, Some, None, option_map, option_and_then, bytes_eq}
use Rattle.std.specs.List.{onto_first}
use Rattle.std.proofs.lemmas.Bool.Decides.{nat_tests}
use Rattle.std.proofs.lemmas.List.Splits.{join_with_byte-slice_split}
use Rattle.std.proofs.lemmas.Slice.Eq.{bytes_eq-Decides}
use Rattle.text_lines.specs.Cutting.{Lacks}
use Rattle.text_lines.proofs.CutLaws.{lacks_unplaced}
use Rattle.input_script.specs.declared.line.Statement.{Statement}
use Rattle.input_script.specs.declared.line.Statement.TheVariants.{At, FailFlash}
use Rattle.input_script.specs.declared.input.Input.{Input}
use Rattle.input_script.specs.Grammar.{digits_in, number_of, hex_in, input_in, words_of, said_in}
use Rattle.input_script.proofs.Digits.{digits_written, hex_written, number_written, written_lacks}

-- a text without a space is one word
pub one_word : (text : List ℕ) → Lacks 32 text → words_of text ≡ text ∷ []
one_word [] lacks = refl
one_word (b ∷ text) lacks =
    let other : eqb b 32 ≡ false = grind (arith, nat_tests, lacks.0) in
    rw other (ap (onto_first b) (one_word text lacks.1))

-- a word ends at the first space
pub first_word : (word rest : List ℕ) → Lacks 32 word → words_of (word ++ 32 ∷ rest) ≡ word ∷ words_of rest
first_word [] rest lacks = refl
first_word (b ∷ word) rest lacks =
    let other : eqb b 32 ≡ false = grind (arith, nat_tests, lacks.0) in
    rw other (ap (onto_first b) (first_word word rest lacks.1))

pub cut_word : (text word rest : List ℕ) → Lacks 32 word → text ≡ word ++ 32 ∷ rest → words_of text ≡ word ∷ words_of rest
cut_word text word rest lacks cut = ap words_of cut ∙ first_word word rest lacks

-- one word is the text
only_word : (text word : List ℕ) → words_of text ≡ word ∷ [] → word ≡ text
only_word text word is = rw is at (join_with_byte-slice_split 32 text)

no_word : (text : List ℕ) → words_of text ≡ [] → text ≡ []
no_word text is = sym (rw is at (join_with_byte-slice_split 32 text))

never_no_word : (text : List ℕ) → words_of text ≡ [] → ⊥
never_no_word text is =
    let none : words_of [] ≡ [] = ap words_of (sym (no_word text is)) ∙ is in
    absurd (cc)

-- several words have a space
several : (text word next : List ℕ) (more : List (List ℕ)) → words_of text ≡ word ∷ next ∷ more → ¬ Lacks 32 text
several text word next more is lacks =
    let same : text ∷ [] ≡ word ∷ next ∷ more = sym (one_word text lacks) ∙ is in
    absurd (cc)

none_found : {T : Type 0} (found : Option T) → ((value : T) → found ≡ Some value → ⊥) → found ≡ None
none_found None never = refl
none_found (Some value) never = absurd (never value refl)

-- so they write no number, and no value of a kind
no_number : (text : List ℕ) → ¬ Lacks 32 text → number_of text ≡ None
no_number text spaced = none_found (number_of text) (λ n is. spaced (written_lacks [] 10 (length text) n text (omega arith) tt (number_written n text is).2))

no_hex : (width : ℕ) (text : List ℕ) → ¬ Lacks 32 text → hex_in width text ≡ None
no_hex width text spaced =
    none_found (hex_in width text) (λ n is. spaced (written_lacks (codes "0x") 16 width n text (omega arith) (lacks_unplaced 32 (codes "0x") refl) (hex_written width n text is)))

no_digits : (text : List ℕ) → ¬ Lacks 32 text → digits_in 8 1 text ≡ None
no_digits text spaced = none_found (digits_in 8 1 text) (λ n is. spaced (written_lacks [] 8 1 n text (omega arith) tt (digits_written 8 1 n text is)))

never : {T : Type 0} (test : Bool) (other : Option T) → other ≡ None → cond test None other ≡ None
never true other is = refl
never false other is = is

no_input : (word text : List ℕ) → ¬ Lacks 32 text → input_in word text ≡ None
no_input word text spaced =
    rw (no_hex 2 text spaced, no_hex 3 text spaced, no_digits text spaced)
    (never (bytes_eq word (codes "pina")) _ (never (bytes_eq word (codes "pinb")) _
    (never (bytes_eq word (codes "pinc")) _ (never (bytes_eq word (codes "pind")) _
    (never (bytes_eq word (codes "uart")) _ (never (bytes_eq word (codes "adc")) _ (never (bytes_eq word (codes "int")) _ refl)))))))

-- What the words of a line say. --------------------------------------------------------------------------

fail_by : (text : List ℕ) (words : List (List ℕ)) → words_of text ≡ words → said_in (codes "fail" ∷ codes "flash" ∷ words) ≡ option_map FailFlash (number_of text)
fail_by text [] is = absurd (never_no_word text is)
fail_by text (word ∷ []) is = ap (λ t. option_map FailFlash (number_of t)) (only_word text word is)
fail_by text (word ∷ next ∷ []) is = sym (ap (option_map FailFlash) (no_number text (several text word next [] is)))
fail_by text (word ∷ next ∷ third ∷ more) is = sym (ap (option_map FailFlash) (no_number text (several text word next (third ∷ more) is)))

-- a number behind the words of a fail line
pub fail_words : (text : List ℕ) → said_in (codes "fail" ∷ codes "flash" ∷ words_of text) ≡ option_map FailFlash (number_of text)
fail_words text = fail_by text (words_of text) refl

nothing_then : {T U : Type 0} (found : Option T) → option_and_then (λ (x : T). let none : Option U = None in none) found ≡ None
nothing_then None = refl
nothing_then (Some x) = refl

abbrev event_by : List ℕ → List ℕ → List ℕ → Option Statement
event_by number word value = option_and_then (λ n. option_map (At n) (input_in word value)) (number_of number)

no_event : (number word text : List ℕ) → ¬ Lacks 32 text → event_by number word text ≡ None
no_event number word text spaced = ap (λ (i : Option Input). option_and_then (λ n. option_map (At n) i) (number_of number)) (no_input word text spaced) ∙ nothing_then (number_of number)

value_by : (number word text : List ℕ) (words : List (List ℕ)) → words_of text ≡ words → said_in (codes "at" ∷ number ∷ word ∷ words) ≡ event_by number word text
value_by number word text [] is = absurd (never_no_word text is)
value_by number word text (value ∷ []) is = ap (event_by number word) (only_word text value is)
value_by number word text (value ∷ next ∷ more) is = sym (no_event number word text (several text value next more is))

-- a value behind the words of an event
pub event_words : (number word text : List ℕ) → said_in (codes "at" ∷ number ∷ word ∷ words_of text) ≡ event_by number word text
event_words number word text = value_by number word text (words_of text) refl

-- Words that begin otherwise say nothing.
pub other_words : (first second : List ℕ) (words : List (List ℕ)) → bytes_eq first (codes "at") ≡ false → (bytes_eq first (codes "fail") && bytes_eq second (codes "flash")) ≡ false
    → said_in (first ∷ second ∷ words) ≡ None
other_words first second [] at fail = refl
other_words first second (third ∷ []) at fail = rw fail refl
other_words first second (third ∷ fourth ∷ []) at fail = rw at refl
other_words first second (third ∷ fourth ∷ fifth ∷ more) at fail = refl

pub same_word : (word other : List ℕ) → bytes_eq word other ≡ true → word ≡ other
same_word word other same = (bytes_eq-Decides word other).0 same

-- a text cut at a space
abbrev pub IsCutAt : (text word rest : List ℕ) → Type 0
IsCutAt text word rest = Lacks 32 word × (text ≡ word ++ 32 ∷ rest)

-- two words, and what stands behind them
pub two_words : (text first rest second behind : List ℕ) → IsCutAt text first rest → IsCutAt rest second behind → words_of text ≡ first ∷ second ∷ words_of behind
two_words text first rest second behind cut next = cut_word text first rest cut.0 cut.1 ∙ ap (λ words. first ∷ words) (cut_word rest second behind next.0 next.1)
