-- What is written for words of flash is a dump of these words.
use Rattle.std.proofs.Common.{◌≡◌, ℕ, zero, suc, ◌+◌, ◌-◌, ◌*◌, ◌/◌, ◌%◌, ◌<◌, ◌≤◌, cond, Bool, true, false, ◌&&◌, List, [], ◌∷◌, ◌++◌, length, get_or, take, drop}
use Rattle.std.proofs.Common.{refl, sym, ap, ◌∙◌, arith, inl, inr, ⊎_elim}
use Rattle.std.specs.Prelude.{nat_le, slice_index, All, ◌==◌, None}
use Rattle.std.specs.List.{AllByRecursion}
use Rattle.std.specs.Char.{digit_value}
use Rattle.std.specs.Str.Parse.{digits_value, AllDigits}
use Rattle.std.proofs.lemmas.Bool.{and_parts, cases_lt, eqb-true}
use Rattle.std.proofs.lemmas.Bool.Decides.{nat_tests}
use Rattle.std.proofs.lemmas.Grind.{same_number_lists}
use Rattle.std.proofs.lemmas.List.Elements.{All-cons, All-nil}
use Rattle.hex.specs.Hex.{encode_upper, encode_with, upper_digits}
use Rattle.hex.proofs.HexLemmas.{length-encode_with}
use Rattle.flash_words.specs.Pages.{word_count, page_words, page_count, word_at, page_of, set_page}
use Rattle.flash_words.specs.Memory.{AreWords}
use Rattle.flash_words.proofs.PageLaws.{page_word, length-page_of, length-set_page, word_in_page, word_out_of_page}
use Rattle.base.proofs.ManyLaws.{length-many, get_or-many, length-two_each}
use Rattle.text_lines.specs.Lines.{lines_of}
use Rattle.text_lines.specs.Faults.{after_lines, first_fault}
use Rattle.text_lines.specs.Cutting.{Lacks}
use Rattle.text_lines.specs.Written.{IsPlain}
use Rattle.text_lines.proofs.FaultLaws.{fault_behind}
use Rattle.text_lines.proofs.TextLaws.{lines_of-fed}
use Rattle.flash_dump.specs.DumpLines.{fault_at, has_page, next_page, page_in, with_line, word_digits, words_in}
use Rattle.flash_dump.specs.Dumps.{IsDump, erased}
use Rattle.flash_dump.specs.WrittenDumps.{bytes_of_words, is_erased, line_front, lines_of_pages, page_line, three_digits, written}
use Rattle.flash_dump.proofs.DumpLaws.{page_size, page_some, page_sound}
use Rattle.flash_dump.proofs.DumpLineLaws.{told_page, words_told}

-- ---- digits

-- a test of the numbers below one
abbrev all_below : (ℕ → Bool) → ℕ → Bool
all_below test zero = true
all_below test (suc n) = test n && all_below test n

one_below : (test : ℕ → Bool) (n i : ℕ) → all_below test n ≡ true → i < n → test i ≡ true
one_below test zero i all below = absurd (omega arith)
one_below test (suc n) i all below =
    let parts = and_parts (test n) (all_below test n) all in
    ⊎_elim (one_below test n i parts.1) (λ last. let is : i ≡ n = omega arith in rw is parts.0) (cases_lt i n)

-- a hexadecimal digit reads as its number, and is no control character
abbrev hex_reads : ℕ → Bool
hex_reads d = (digit_value (slice_index upper_digits d) == d) && nat_le 48 (slice_index upper_digits d)

hex_digit_parts : (d : ℕ) → d < 16 → ((digit_value (slice_index upper_digits d) == d) ≡ true) × (nat_le 48 (slice_index upper_digits d) ≡ true)
hex_digit_parts d low = and_parts _ _ (one_below hex_reads 16 d refl low)

hex_digit : (d : ℕ) → d < 16 → digit_value (slice_index upper_digits d) ≡ d
hex_digit d low = eqb-true _ _ (hex_digit_parts d low).0

hex_high : (d : ℕ) → d < 16 → 14 ≤ slice_index upper_digits d
hex_high d low = let high = (hex_digit_parts d low).1 in grind (arith, nat_tests)

-- .. and a decimal one
abbrev decimal_reads : ℕ → Bool
decimal_reads d = digit_value (48 + d) == d

decimal_digit : (d : ℕ) → d < 10 → digit_value (48 + d) ≡ d
decimal_digit d low = eqb-true _ _ (one_below decimal_reads 10 d refl low)

-- ---- a word

abbrev digits_of_word : ℕ → List ℕ
digits_of_word word = encode_upper (word / 256 ∷ word % 256 ∷ [])

word_read : (word : ℕ) → word < 65536 → digits_value 16 (digits_of_word word) ≡ word
unfolding encode_with
word_read word fits =
    let a = hex_digit (word / 256 / 16) (omega arith) in
    let b = hex_digit (word / 256 % 16) (omega arith) in
    let c = hex_digit (word % 256 / 16) (omega arith) in
    let d = hex_digit (word % 256 % 16) (omega arith) in
    rw (a, b, c, d) (omega arith)

word_digits_all : (word : ℕ) → word < 65536 → AllDigits 16 (digits_of_word word)
unfolding encode_with
word_digits_all word fits = (
  omega (arith, hex_digit (word / 256 / 16) (omega arith)),
  (
    omega (arith, hex_digit (word / 256 % 16) (omega arith)),
    (omega (arith, hex_digit (word % 256 / 16) (omega arith)), (omega (arith, hex_digit (word % 256 % 16) (omega arith)), tt)),
  ),
)

words_digits_all : (words : List ℕ) → AreWords words → AllDigits 16 (encode_upper (bytes_of_words words))
unfolding encode_with
words_digits_all [] fit = tt
words_digits_all (word ∷ words) fit =
    let here = word_digits_all word (fit 0) in
    (here.0, (here.1.0, (here.1.1.0, (here.1.1.1.0, words_digits_all words (λ a. fit (suc a))))))

word_part : (words : List ℕ) (k : ℕ) → k < length words → take 4 (drop (4 * k) (encode_upper (bytes_of_words words))) ≡ digits_of_word (get_or words k 0)
unfolding encode_with
word_part [] k inside = absurd (omega arith)
word_part (word ∷ words) zero inside = refl
word_part (word ∷ words) (suc k) inside =
    let next : 4 * suc k ≡ suc (suc (suc (suc (4 * k)))) = omega arith in
    rw next (word_part words k (omega arith))

-- ---- a line

word_of_line : (page : ℕ) (words : List ℕ) (k : ℕ) → k < length words → word_digits (page_line page words) k ≡ digits_of_word (get_or words k 0)
word_of_line page words k inside =
    let text = encode_upper (bytes_of_words words) in
    let front : 9 + 4 * k ≡ suc (suc (suc (suc (suc (suc (suc (suc (suc (4 * k))))))))) = omega arith in
    ap (λ n. take 4 (drop n (line_front page ++ text))) front ∙ word_part words k inside

number_read : (page : ℕ) → page < 1000 → digits_value 10 (three_digits page) ≡ page
number_read page low =
    let a = decimal_digit (page / 100) (omega arith) in
    let b = decimal_digit (page / 10 % 10) (omega arith) in
    let c = decimal_digit (page % 10) (omega arith) in
    rw (a, b, c) (omega arith)

number_digits_all : (page : ℕ) → page < 1000 → AllDigits 10 (three_digits page)
number_digits_all page low =
    (omega (arith, decimal_digit (page / 100) (omega arith)), (omega (arith, decimal_digit (page / 10 % 10) (omega arith)), (omega (arith, decimal_digit (page % 10) (omega arith)), tt)))

word_small : (words : List ℕ) (k : ℕ) → AreWords words → get_or words k 0 < 65536
word_small words k fit = fit k

line_has_page : (page : ℕ) (words : List ℕ) → page < 512 → length words ≡ 128 → AreWords words → has_page (page_line page words) ≡ true
line_has_page page words low long fit =
    let text = encode_upper (bytes_of_words words) in
    let size : length text ≡ 512 = length-encode_with upper_digits (bytes_of_words words) ∙ omega (arith, length-two_each (λ word. word / 256) (λ word. word % 256) words) in
    told_page (page_line page words) (omega (arith, size)) refl refl (number_digits_all page (omega arith)) (words_digits_all words fit)

line_words : (page : ℕ) (words : List ℕ) → length words ≡ 128 → AreWords words → words_in (page_line page words) ≡ words
line_words page words long fit =
    sym (words_told (page_line page words) words long (λ k below. sym (ap (digits_value 16) (word_of_line page words k (omega arith)) ∙ word_read (get_or words k 0) (word_small words k fit))))

-- ---- a line has no line end

abbrev IsHigh : List ℕ → Type 0
IsHigh line = AllByRecursion (λ c. 14 ≤ c) line

bytes_high : (words : List ℕ) → AreWords words → IsHigh (encode_upper (bytes_of_words words))
unfolding encode_with
bytes_high [] fit = tt
bytes_high (word ∷ words) fit =
    let fits = fit 0 in (
      hex_high (word / 256 / 16) (omega arith),
      (
        hex_high (word / 256 % 16) (omega arith),
        (hex_high (word % 256 / 16) (omega arith), (hex_high (word % 256 % 16) (omega arith), bytes_high words (λ a. fit (suc a)))),
      ),
    )

line_high : (page : ℕ) (words : List ℕ) → AreWords words → IsHigh (page_line page words)
line_high page words fit = (omega arith, (omega arith, (omega arith, (omega arith, (omega arith, (omega arith, (omega arith, (omega arith, (omega arith, bytes_high words fit)))))))))

high_lacks : (line : List ℕ) → IsHigh line → Lacks 10 line
high_lacks [] high = tt
high_lacks (c ∷ line) high = (λ is. omega (arith, is, high.0), high_lacks line high.1)

high_at : (line : List ℕ) (i : ℕ) → IsHigh line → i < length line → 14 ≤ get_or line i 0
high_at [] i high below = absurd (omega arith)
high_at (c ∷ line) zero high below = high.0
high_at (c ∷ line) (suc i) high below = high_at line i high.1 (omega arith)

no_return : (c : ℕ) → 14 ≤ c → (c == 13) ≡ false
no_return c high = grind (arith, nat_tests)

line_plain : (line : List ℕ) → IsHigh line → 0 < length line → IsPlain line
line_plain line high some =
    let last : (get_or line (length line - 1) 0 == 13) ≡ false = no_return _ (high_at line (length line - 1) high (omega arith)) in
    record { inside = high_lacks line high; plain = ap (λ b. cond b (take (length line - 1) line) line) last }

-- ---- all lines

-- flash has the words of the pages below one, and is erased from that on
record IsSetTo (words flash : List ℕ) (page : ℕ) : Type 0 where
  whole : length flash ≡ word_count
  done : (a : ℕ) → a < page_words * page → word_at flash a ≡ word_at words a
  rest : (a : ℕ) → page_words * page ≤ a → a < word_count → word_at flash a ≡ 0xFFFF

-- the lines that are left make the words
record IsBack (words flash : List ℕ) (least : ℕ) (lines : List (List ℕ)) : Type 0 where
  sound : (number : ℕ) → first_fault fault_at next_page number least lines ≡ None
  words_are : after_lines with_line flash lines ≡ words
  plain : All IsPlain lines

erased_word : (own : List ℕ) (k : ℕ) → is_erased own ≡ true → k < length own → get_or own k 0 ≡ 0xFFFF
erased_word [] k all below = absurd (omega arith)
erased_word (word ∷ own) zero all below = eqb-true _ _ (and_parts (word == 0xFFFF) (is_erased own) all).0
erased_word (word ∷ own) (suc k) all below = erased_word own k (and_parts (word == 0xFFFF) (is_erased own) all).1 (omega arith)

module _ (words flash : List ℕ) (page : ℕ) (whole : length words ≡ word_count) (low : page < page_count) (set : IsSetTo words flash page) where
  -- an erased page
  set_erased : is_erased (page_of words page) ≡ true → IsSetTo words flash (page + 1)
  set_erased all =
      let long : length (page_of words page) ≡ page_words = length-page_of words page (omega (arith, whole)) in
      record {
        whole = set.whole;
        done = λ a below. elim (cases_lt a (page_words * page)) [
          | inl before ↦ set.done a before
          | inr from ↦ (
              let k = a - page_words * page in
              let here : page_words * page + k ≡ a = omega arith in
              let own : word_at words a ≡ 0xFFFF = ap (word_at words) (sym here) ∙ sym (page_word words page k (omega arith)) ∙ erased_word (page_of words page) k all (omega (arith, long)) in
              set.rest a from (omega arith) ∙ sym own)
        ];
        rest = λ a from below. set.rest a (omega arith) below;
      }

  -- a page with a line
  set_line : IsSetTo words (set_page flash page (page_of words page)) (page + 1)
  set_line =
      let own = page_of words page in
      let long : length own ≡ page_words = length-page_of words page (omega (arith, whole)) in
      let room : page_words * page + page_words ≤ length flash = omega (arith, set.whole) in
      record {
        whole = length-set_page flash own page long room ∙ set.whole;
        done = λ a below. elim (cases_lt a (page_words * page)) [
          | inl before ↦ word_out_of_page flash own page a long room (inl before) ∙ set.done a before
          | inr from ↦ (
              let k = a - page_words * page in
              let here : page_words * page + k ≡ a = omega arith in
              word_in_page flash own page a long room from (omega arith) ∙ page_word words page k (omega arith) ∙ ap (word_at words) here)
        ];
        rest = λ a from below. word_out_of_page flash own page a long room (inr (omega arith)) ∙ set.rest a (omega arith) below;
      }

page_fits : (words : List ℕ) (page : ℕ) → AreWords words → length (page_of words page) ≡ page_words → AreWords (page_of words page)
page_fits words page fit long k = elim (cases_lt k page_words) [
  | inl below ↦ omega (arith, page_word words page k below, fit (page_words * page + k))
  | inr above ↦ omega (arith, past (page_of words page) k (omega (arith, long)))
] where
  past : (own : List ℕ) (k : ℕ) → length own ≤ k → get_or own k 0 ≡ 0
  past [] k beyond = refl
  past (word ∷ own) zero beyond = absurd (omega arith)
  past (word ∷ own) (suc k) beyond = past own k (omega arith)

-- one page more
page_back : (words flash : List ℕ) (page least : ℕ) (later : List (List ℕ)) (test : Bool) → length words ≡ word_count → AreWords words → page < page_count → least ≤ page → IsSetTo words flash page
    → is_erased (page_of words page) ≡ test
    → ((flash' : List ℕ) (least' : ℕ) → least' ≤ page + 1 → IsSetTo words flash' (page + 1) → IsBack words flash' least' later)
    → IsBack words flash least (cond test [] (page_line page (page_of words page) ∷ []) ++ later)
page_back words flash page least later true whole fit low least_low set test later_back =
    later_back flash least (omega arith) (set_erased words flash page whole low set test)
page_back words flash page least later false whole fit low least_low set test later_back =
    let own = page_of words page in
    let line = page_line page own in
    let long : length own ≡ page_words = length-page_of words page (omega (arith, whole)) in
    let own_fit = page_fits words page fit long in
    let has = line_has_page page own low long own_fit in
    let some = page_some line has in
    let page_is : page_in line ≡ page = number_read page (omega arith) in
    let next_is : next_page least line ≡ page + 1 = ap (λ b. cond b least (page_in line + 1)) some ∙ ap (λ p. p + 1) page_is in
    let words_is = ap (λ b. cond b flash (set_page flash (page_in line) (words_in line))) some ∙ ap (λ p. set_page flash p (words_in line)) page_is
    ∙ ap (set_page flash page) (line_words page own long own_fit) in
    let after : IsSetTo words (with_line flash line) (page + 1) = rw words_is (set_line words flash page whole low set) in
    let back = later_back (with_line flash line) (next_page least line) (omega (arith, next_is)) after in
    record {
      sound = λ number.
          let fine = page_sound least line has (omega (arith, page_is)) (omega (arith, page_is)) in
          fault_behind fault_at next_page number least line (line ∷ later) later refl fine ∙ back.sound (number + 1);
      words_are = back.words_are;
      plain = All-cons IsPlain line later (line_plain line (line_high page own own_fit) (omega (arith, page_size line has))) back.plain;
    }

pages_back : (words flash : List ℕ) (page count least : ℕ) → page + count ≡ page_count → length words ≡ word_count → AreWords words → least ≤ page → IsSetTo words flash page
    → IsBack words flash least (lines_of_pages words page count)
pages_back words flash page zero least all whole fit low set = record {
  sound = λ number. refl;
  words_are = same_number_lists flash words (set.whole ∙ sym whole) (λ a below. set.done a (omega (arith, set.whole)));
  plain = All-nil IsPlain;
}
pages_back words flash page (suc count) least all whole fit low set =
    page_back words flash page least (lines_of_pages words (page + 1) count) (is_erased (page_of words page)) whole fit (omega arith) low set refl
    (λ flash' least' low' set'. pages_back words flash' (page + 1) count least' (omega arith) whole fit low' set')

pub dump_written : (words : List ℕ) → length words ≡ word_count → AreWords words → IsDump (written words) words
dump_written words whole fit =
    let set : IsSetTo words erased 0 = record {
      whole = length-many word_count 0xFFFF;
      done = λ a below. absurd (omega arith);
      rest = λ a from below. get_or-many word_count 0xFFFF a below;
    } in
    let back = pages_back words erased 0 512 0 refl whole fit (omega arith) set in
    let lines : lines_of (written words) ≡ lines_of_pages words 0 page_count = lines_of-fed (lines_of_pages words 0 page_count) back.plain in
    record { sound = ap (first_fault fault_at next_page 1 0) lines ∙ back.sound 1; words_are = sym (ap (after_lines with_line erased) lines ∙ back.words_are) }
