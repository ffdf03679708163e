-- The words that a line of a dump tells.
use Rattle.std.proofs.Common.{◌≡◌, ℕ, zero, suc, ◌+◌, ◌*◌, ◌<◌, ◌≤◌, ◌^◌, ◌==◌, Bool, true, false, ◌&&◌, List, [], ◌∷◌, length, get_or, take, drop, arith, refl, ap, sym, ◌∙◌, drop-drop, length-drop}
use Rattle.std.specs.Prelude.{codes, nat_eq, slice_index}
use Rattle.std.specs.List.{starts_with}
use Rattle.std.proofs.lemmas.Bool.Decides.{nat_tests}
use Rattle.text_lines.proofs.DigitTests.{all_digits, some_other}
use Rattle.std.proofs.Math.Nat.{pow-le-pow_right}
use Rattle.std.proofs.lemmas.Grind.{same_number_lists}
use Rattle.std.proofs.lemmas.List.FromFn.{length-map-range_with_len, get_or-map-range_with_len}
use Rattle.base.proofs.Pieces.{length-part}
use Rattle.std.proofs.lemmas.Int.Digits.{digits_value-lt}
use Rattle.std.specs.Str.Parse.{digits_value, AllDigits}
use Rattle.flash_dump.specs.DumpLines.{has_page, number_digits, word_digits, words_in}

pub words_told : (line words : List ℕ) → length words ≡ 128 → ((k : ℕ) → k < 128 → get_or words k 0 ≡ digits_value 16 (word_digits line k)) → words ≡ words_in line
words_told line words long told =
    let word : ℕ → ℕ = λ k. digits_value 16 (word_digits line k) in
    same_number_lists words (words_in line) (long ∙ sym (length-map-range_with_len word 0 128)) (λ k below.
    let first : 0 + k ≡ k = omega arith in
    told k (omega (arith, long)) ∙ sym (get_or-map-range_with_len word 0 128 k k 0 (omega (arith, long)) first))

pub number_fits : (line : List ℕ) → length line ≡ 521 → AllDigits 10 (number_digits line) → digits_value 10 (number_digits line) < 1000
number_fits line size digits =
    let long : length (number_digits line) ≡ 3 = length-part 5 3 line (omega arith) in
    let most : 10 ^ length (number_digits line) ≤ 10 ^ 3 = pow-le-pow_right {n = 10} (omega arith) {i = length (number_digits line)} {j = 3} (omega arith) in
    omega (arith, digits_value-lt 10 (number_digits line) digits, most)

-- Digits of the words, and of all of them together. -----------------------------------------------------------

digits_take : (n : ℕ) (text : List ℕ) → AllDigits 16 text → AllDigits 16 (take n text)
digits_take zero text digits = tt
digits_take (suc n) [] digits = tt
digits_take (suc n) (b ∷ text) digits = (digits.0, digits_take n text digits.1)

digits_drop : (n : ℕ) (text : List ℕ) → AllDigits 16 text → AllDigits 16 (drop n text)
digits_drop zero text digits = digits
digits_drop (suc n) [] digits = tt
digits_drop (suc n) (b ∷ text) digits = digits_drop n text digits.1

digits_joined : (n : ℕ) (text : List ℕ) → AllDigits 16 (take n text) → AllDigits 16 (drop n text) → AllDigits 16 text
digits_joined zero text front behind = behind
digits_joined (suc n) [] front behind = tt
digits_joined (suc n) (b ∷ text) front behind = (front.0, digits_joined n text front.1 behind)

digits_of_fours : (count : ℕ) (text : List ℕ) → length text ≤ 4 * count → ((k : ℕ) → k < count → AllDigits 16 (take 4 (drop (4 * k) text))) → AllDigits 16 text
digits_of_fours zero [] few each = tt
digits_of_fours zero (b ∷ text) few each = absurd (omega arith)
digits_of_fours (suc count) text few each =
    digits_joined 4 text (each 0 (omega arith)) (digits_of_fours count (drop 4 text) (omega (arith, length-drop 4 text)) (λ k below.
    let next : 4 + 4 * k ≡ 4 * (k + 1) = omega arith in
    rw (drop-drop (4 * k) 4 text ∙ ap (λ n. drop n text) next) (each (k + 1) (omega arith))))

pub all_words : (line : List ℕ) → length line ≡ 521 → ((k : ℕ) → k < 128 → AllDigits 16 (word_digits line k)) → AllDigits 16 (drop 9 line)
all_words line size each =
    digits_of_fours 128 (drop 9 line) (omega (arith, length-drop 9 line)) (λ k below.
    rw (drop-drop (4 * k) 9 line) (each k below))

pub word_of_all : (line : List ℕ) (k : ℕ) → AllDigits 16 (drop 9 line) → AllDigits 16 (word_digits line k)
word_of_all line k all = rw (drop-drop (4 * k) 9 line) at (digits_take 4 (drop (4 * k) (drop 9 line)) (digits_drop (4 * k) (drop 9 line) all))

-- a line with a page
pub told_page : (line : List ℕ) → length line ≡ 521 → starts_with nat_eq line (codes "page ") ≡ true → slice_index line 8 ≡ 32
    → AllDigits 10 (number_digits line) → AllDigits 16 (drop 9 line) → has_page line ≡ true
told_page line size front space number words =
    let size_is : (length line == 521) ≡ true = grind (arith, nat_tests) in
    let space_is : (slice_index line 8 == 32) ≡ true = grind (arith, nat_tests) in
    rw (size_is, front, space_is, all_digits 10 (number_digits line) number) (all_digits 16 (drop 9 line) words)

-- .. and one whose number, or words, have another byte
other_first : (first last : Bool) → first ≡ false → (first && last) ≡ false
other_first first last is = ap (λ b. b && last) is

other_last : (first last : Bool) → last ≡ false → (first && last) ≡ false
other_last true last is = is
other_last false last is = refl

pub other_words : (line : List ℕ) → ¬ AllDigits 16 (drop 9 line) → has_page line ≡ false
other_words line none = other_last _ _ (some_other 16 (drop 9 line) none)

pub other_number : (line : List ℕ) → ¬ AllDigits 10 (number_digits line) → has_page line ≡ false
other_number line none = other_first _ _ (other_last _ _ (some_other 10 (number_digits line) none))
