-- A dump that is read line by line.
use Rattle.std.proofs.Common.{◌≡◌, ℕ, ◌+◌, ◌*◌, ◌<◌, ◌≤◌, false, cond, eqb, true, List, ◌∷◌, length, arith, refl, sym, ap, ◌∙◌}
use Rattle.std.specs.Prelude.{nat_le, nat_lt, Some, None}
use Rattle.std.proofs.lemmas.Bool.{and_parts, eqb-true}
use Rattle.std.proofs.lemmas.Bool.Decides.{nat_tests}
use Rattle.std.proofs.lemmas.Grind.{same_number_lists}
use Rattle.std.proofs.lemmas.List.FromFn.{length-map-range_with_len}
use Rattle.base.proofs.ManyLaws.{length-many, get_or-many}
use Rattle.std.specs.Str.Parse.{digits_value}
use Rattle.flash_words.specs.Pages.{word_count, page_words, word_at, page_of, set_page, blank, many}
use Rattle.flash_words.specs.Memory.{Memory, erased_flash}
use Rattle.flash_words.specs.Operations.{programmed_page}
use Rattle.flash_words.proofs.PageLaws.{page_word, length-page_of, length-set_page, page_other}
use Rattle.text_lines.specs.Lines.{lines_of}
use Rattle.text_lines.specs.Faults.{after_lines, first_fault}
use Rattle.text_lines.proofs.FaultLaws.{fault_behind, not_found}
use Rattle.flash_dump.specs.declared.dump_line.DumpFault.TheVariants.{Form, Order, Range}
use Rattle.flash_dump.specs.DumpLines.{fault_at, has_page, next_page, page_fault, page_in, with_line, word_digits, words_in}
use Rattle.flash_dump.specs.Dumps.{IsOpen, IsReadTo, IsTaken, erased}

length-words_in : (line : List ℕ) → length (words_in line) ≡ 128
length-words_in line = length-map-range_with_len (λ k. digits_value 16 (word_digits line k)) 0 128

-- a line with a page isn't empty
pub page_size : (line : List ℕ) → has_page line ≡ true → length line ≡ 521
page_size line has = eqb-true (length line) 521 (and_parts _ _ (and_parts _ _ (and_parts _ _ (and_parts _ _ has).0).0).0).0

pub page_some : (line : List ℕ) → has_page line ≡ true → eqb (length line) 0 ≡ false
page_some line has = let long = page_size line has in grind (arith, nat_tests)

-- and has the fault of its page's number
pub fault_of_page : (least : ℕ) (line : List ℕ) → has_page line ≡ true → fault_at least line ≡ page_fault least (page_in line)
fault_of_page least line has = let some = page_some line has in rw (some, has) refl

-- a page's number without a fault
pub may_follow : (least page : ℕ) → page_fault least page ≡ None → (least ≤ page) × (page < 512)
may_follow least page none =
    let late = not_found (nat_lt page least) Order _ none in
    let beyond = not_found (nat_le 512 page) Range None late.1 in
    ((let test = late.0 in grind (arith, nat_tests)), (let test = beyond.0 in grind (arith, nat_tests)))

pub page_sound : (least : ℕ) (line : List ℕ) → has_page line ≡ true → least ≤ page_in line → page_in line < 512 → fault_at least line ≡ None
page_sound least line has from below =
    let ordered : nat_lt (page_in line) least ≡ false = grind (arith, nat_tests) in
    let inside : nat_le 512 (page_in line) ≡ false = grind (arith, nat_tests) in
    fault_of_page least line has ∙ rw (ordered, inside) refl

-- a line with a page
pub taken_page : (line : List ℕ) (least page : ℕ) (words : List ℕ) (old new : Memory) → has_page line ≡ true → page ≡ page_in line → words ≡ words_in line → least ≤ page → page < 512
    → IsOpen old least
    → new ≡ programmed_page old page words → IsTaken line least (page + 1) old new
taken_page line least page words old new has page_is words_are from below open' after =
    let some = page_some line has in
    let long : length words ≡ 128 = ap length words_are ∙ length-words_in line in
    let room : page_words * page + page_words ≤ length old.words = omega (arith, open'.whole) in
    let new_words : new.words ≡ set_page old.words page words = ap (λ (m : Memory). m.words) after in
    let same : set_page old.words page words ≡ set_page old.words (page_in line) (words_in line) = ap (λ p. set_page old.words p words) page_is ∙ ap (set_page old.words (page_in line)) words_are in
    record {
      sound = page_sound least line has (omega (arith, page_is)) (omega (arith, page_is));
      after_is = ap (λ p. p + 1) page_is ∙ sym (ap (λ b. cond b least (page_in line + 1)) some);
      words_are = new_words ∙ same ∙ sym (ap (λ b. cond b old.words (set_page old.words (page_in line) (words_in line))) some);
      is_open = record {
        whole = ap length new_words ∙ length-set_page old.words words page long room ∙ open'.whole;
        failing = ap (λ (m : Memory). m.failing) after ∙ open'.failing;
        erases = ap (λ (m : Memory). m.erases) after ∙ open'.erases;
        few = omega (arith, ap (λ (m : Memory). m.ops) after, open'.few);
        blank_on = λ other above low. ap (λ ws. page_of ws other) new_words ∙ page_other old.words words page other long room (λ is. omega arith) ∙ open'.blank_on other (omega arith) low;
      };
      low = omega arith;
    }

-- an empty line
pub taken_none : (line : List ℕ) (least : ℕ) (flash : Memory) → eqb (length line) 0 ≡ true → IsOpen flash least → least ≤ 512 → IsTaken line least least flash flash
taken_none line least flash none open' low = record { sound = rw none refl; after_is = rw none refl; words_are = rw none refl; is_open = open'; low = low }

-- a line without the form of one
pub fault_of_form : (least : ℕ) (line : List ℕ) → eqb (length line) 0 ≡ false → has_page line ≡ false → fault_at least line ≡ Some Form
fault_of_form least line some other = rw (some, other) refl

-- one line more of the text
pub read_more : (text rest line behind : List ℕ) (least after number : ℕ) (old new : Memory) → IsReadTo text rest least number old → lines_of rest ≡ line ∷ lines_of behind
    → IsTaken line least after old new → IsReadTo text behind after (number + 1) new
read_more text rest line behind least after number old new read lines taken =
    record {
      is_open = taken.is_open;
      faults =
          ap (λ known. first_fault fault_at next_page (number + 1 + 1) known (lines_of behind)) taken.after_is
          ∙ sym (fault_behind fault_at next_page (number + 1) least line (lines_of rest) (lines_of behind) lines taken.sound)
          ∙ read.faults;
      words_are = ap (λ ws. after_lines with_line ws (lines_of behind)) taken.words_are ∙ sym (ap (after_lines with_line old.words) lines) ∙ read.words_are;
    }

-- a flash that is erased
pub erased_open : (flash : Memory) → flash ≡ erased_flash → IsOpen flash 0
unfolding blank
erased_open flash is =
    let words : flash.words ≡ erased = ap (λ (m : Memory). m.words) is in
    let whole : length flash.words ≡ word_count = ap length words ∙ length-many word_count 0xFFFF in
    record {
      whole = whole;
      failing = ap (λ (m : Memory). m.failing) is;
      erases = ap (λ (m : Memory). m.erases) is;
      few = omega (arith, ap (λ (m : Memory). m.ops) is);
      blank_on = λ page above low.
          let long : length (page_of flash.words page) ≡ page_words = length-page_of flash.words page (omega (arith, whole)) in
          same_number_lists (page_of flash.words page) (many page_words 0xFFFF) (long ∙ sym (length-many page_words 0xFFFF)) (λ k below.
          page_word flash.words page k (omega (arith, long)) ∙ ap (λ ws. word_at ws (page_words * page + k)) words ∙ get_or-many word_count 0xFFFF (page_words * page + k) (omega (arith, long))
          ∙ sym (get_or-many page_words 0xFFFF k (omega (arith, long))));
    }
