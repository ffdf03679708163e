-- A line has a page just where it has the form.
use Rattle.std.proofs.Common.{◌≡◌, ℕ, ◌==◌, List, [], ◌∷◌, ◌++◌, length, drop, arith, refl, sym, ap, ◌∙◌, subst, true, append_assoc, length-append, drop-drop, length-drop, take-append-drop}
use Rattle.std.specs.Prelude.{codes, nat_eq, slice_index}
use Rattle.std.specs.List.{list_all, starts_with}
use Rattle.std.specs.Char.{is_digit}
use Rattle.std.specs.Str.Parse.{AllDigits}
use Rattle.std.proofs.lemmas.Bool.{and_parts, eqb-true}
use Rattle.std.proofs.lemmas.Bool.Decides.{Decides-eqb}
use Rattle.std.proofs.lemmas.List.{drop_more, drop_at, get_or_at, take_at}
use Rattle.std.proofs.lemmas.Slice.Eq.{starts_is}
use Rattle.text_lines.proofs.DigitTests.{digits_all}
use Rattle.base.proofs.Pieces.{length-part}
use Rattle.flash_dump.specs.DumpLines.{has_page, number_digits}
use Rattle.flash_dump.specs.GrammarLaw.{HasPage}
use Rattle.flash_dump.proofs.DumpLineLaws.{told_page}

-- a text behind the word, cut at a space behind three digits
abbrev joined : (number words : List ℕ) → List ℕ
joined number words = codes "page " ++ (number ++ 32 ∷ words)

join_same : (number words : List ℕ) → codes "page " ++ number ++ codes " " ++ words ≡ joined number words
join_same number words = append_assoc (codes "page " ++ number) (codes " ") words ∙ append_assoc (codes "page ") number (32 ∷ words)

cut_line : (line : List ℕ) → length line ≡ 521 → starts_with nat_eq line (codes "page ") ≡ true → slice_index line 8 ≡ 32 → line ≡ joined (number_digits line) (drop 9 line)
cut_line line long front space =
    let later : drop 3 (drop 5 line) ≡ 32 ∷ drop 9 line = drop-drop 3 5 line ∙ drop_more line 8 0 (omega (arith, long)) ∙ ap (λ b. b ∷ drop 9 line) space in
    let behind : drop 5 line ≡ number_digits line ++ 32 ∷ drop 9 line = sym (take-append-drop 3 (drop 5 line)) ∙ ap (λ z. number_digits line ++ z) later in
    (starts_is Decides-eqb line (codes "page ") _ refl).0 front ∙ ap (λ z. codes "page " ++ z) behind

pub form_of : (line : List ℕ) → has_page line ≡ true → HasPage line
form_of line has =
    let words = and_parts _ (list_all (λ b. is_digit b 16) (drop 9 line)) has in
    let number = and_parts _ (list_all (λ b. is_digit b 10) (number_digits line)) words.0 in
    let space = and_parts _ (slice_index line 8 == 32) number.0 in
    let front = and_parts (length line == 521) (starts_with nat_eq line (codes "page ")) space.0 in
    let long : length line ≡ 521 = eqb-true (length line) 521 front.0 in
    record {
      number = number_digits line;
      words = drop 9 line;
      written = cut_line line long front.1 (eqb-true (slice_index line 8) 32 space.1) ∙ sym (join_same (number_digits line) (drop 9 line));
      decimal = digits_all 10 (number_digits line) number.1;
      three = length-part 5 3 line (omega (arith, long));
      hexadecimal = digits_all 16 (drop 9 line) words.1;
      size = omega (arith, length-drop 9 line, long);
    }

pub page_of_form : (line : List ℕ) → HasPage line → has_page line ≡ true
page_of_form line is =
    let whole : line ≡ joined is.number is.words = is.written ∙ join_same is.number is.words in
    let number : number_digits (joined is.number is.words) ≡ is.number = take_at is.number (32 ∷ is.words) 3 is.three in
    let four : length (is.number ++ 32 ∷ []) ≡ 4 = omega (arith, length-append is.number (32 ∷ []), is.three) in
    let words : drop 9 (joined is.number is.words) ≡ is.words = ap (drop 4) (sym (append_assoc is.number (32 ∷ []) is.words)) ∙ drop_at (is.number ++ 32 ∷ []) is.words 4 four in
    let long : length (joined is.number is.words) ≡ 521 = omega (arith, length-append is.number (32 ∷ is.words), is.three, is.size) in
    subst (λ l. has_page l ≡ true) (sym whole)
    (told_page (joined is.number is.words) long refl (get_or_at is.number 32 is.words 0 3 is.three) (subst (AllDigits 10) (sym number) is.decimal) (subst (AllDigits 16) (sym words) is.hexadecimal))
