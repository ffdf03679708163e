-- A line has no fault exactly where it is a record whose bytes have places of their own.
use Rattle.std.proofs.Common.{◌≡◌, ◌≢◌, ℕ, zero, suc, ◌+◌, ◌*◌, ◌%◌, ◌≤◌, ◌==◌, ◌||◌, not, true, false, cond, List, [], ◌∷◌, length, get_or, sum, refl, sym, ap, ◌∙◌, arith, inl, inr, None, Ok, Result}
use Rattle.std.specs.Prelude.{All, AllPairs, is_some, nat_lt}
use Rattle.std.specs.List.{enumerate_from, list_any}
use Rattle.std.specs.Result.{result_unwrap_or}
use Rattle.std.proofs.lemmas.Bool.{cases_eq, eqb-true, false_from_ne_true, not-false, or_parts}
use Rattle.std.proofs.lemmas.Bool.Decides.{nat_tests}
use Rattle.std.proofs.lemmas.List.Folds.{list_any_at, list_any_none}
use Rattle.std.proofs.lemmas.List.FromFn.{get_or-enumerate_from, length-enumerate_from}
use Rattle.std.proofs.lemmas.List.Sums.{AllPass-from_list_all}
use Rattle.hex.specs.Hex.{decode_of, is_hex_digit}
use Rattle.hex.specs.declared.error.FromHexError.{FromHexError}
use Rattle.hex.proofs.HexLemmas.{decode_of-digits, decode_of-ok}
use Rattle.text_lines.proofs.FaultLaws.{neither, not_found}
use Rattle.hex_image.specs.Image.{most_bytes}
use Rattle.hex_image.specs.Lines.{address_in, bytes_of, content_in, count_in, data_in, digits_of, kind_in, has_right_count}
use Rattle.hex_image.specs.Places.{Cell, Known, byte_given, cells_at, extent}
use Rattle.hex_image.specs.HexText.{fault_at}
use Rattle.hex_image.specs.Reading.{fault_in, own_fault, place_fault}
use Rattle.hex_image.specs.GrammarLaw.{IsRecord}
use Rattle.hex_image.proofs.LineLemmas.{empty_bytes, faults_of, own_in}
use Rattle.hex_image.specs.declared.fault.HexFault.TheVariants.{Kind, TooLarge}

-- ---- a line's form

colon_first : (byte : ℕ) (rest : List ℕ) → (byte == 58) ≡ true → byte ∷ rest ≡ 58 ∷ rest
colon_first byte rest is = ap (λ b. b ∷ rest) (eqb-true byte 58 is)

-- a line without a fault of its own is a record
pub sound_record : (line : List ℕ) → line ≢ [] → own_fault line ≡ None → IsRecord line
sound_record [] some none = absurd (some refl)
sound_record (byte ∷ digits) some none =
    let line = byte ∷ digits in
    let bytes = bytes_of line in
    let colon = not_found _ _ _ none in
    let digit = not_found _ _ _ colon.1 in
    let size = not_found _ _ _ digit.1 in
    let sums = not_found _ _ _ size.1 in
    let count = not_found (not (has_right_count (kind_in bytes) (count_in bytes))) Kind None sums.1 in
    let all = AllPass-from_list_all is_hex_digit digits (not-false _ digit.0) in
    let long : length digits ≡ 10 + 2 * count_in bytes = eqb-true (length digits) (10 + 2 * count_in bytes) (not-false _ (or_parts (nat_lt (length digits) 10) _ size.0).1) in
    let decoded = decode_of-digits digits (omega (arith, long)) all in
    let same : decode_of digits ≡ Ok bytes = decoded.1 ∙ ap (λ z. Ok z) (sym (ap (λ (r : Result (List ℕ) FromHexError). result_unwrap_or r []) decoded.1)) in
    record {
      colon = colon_first byte digits (not-false _ colon.0);
      bytes_are = same;
      size = omega (arith, long, (decode_of-ok digits bytes same).2);
      sum_is = eqb-true (sum bytes % 256) 0 (not-false _ sums.0);
      count = not-false _ count.0;
    }

-- and a record has none
pub record_sound : (line : List ℕ) → IsRecord line → own_fault line ≡ None
record_sound line is =
    let bytes = bytes_of line in
    let size : (nat_lt (length bytes) 5 || not (length bytes == 5 + count_in bytes)) ≡ false = (let long = is.size in grind (arith, nat_tests)) in
    let sums : (sum bytes % 256 == 0) ≡ true = (let zero_is = is.sum_is in grind (arith, nat_tests)) in
    let none : fault_in bytes ≡ None = rw (size, sums, is.count) refl in
    ap own_fault is.colon ∙ own_in (digits_of line) bytes (decode_of-ok (digits_of line) bytes is.bytes_are).1 is.bytes_are ∙ none

-- ---- different places

-- two cells have different places
abbrev pub AreApart : Cell → Cell → Type 0
AreApart cell other = cell.0 ≢ other.0

-- a place that no cell has
unplaced : (cells : List Cell) (place : ℕ) → All (λ (cell : Cell). cell.0 ≢ place) cells → is_some (byte_given cells place) ≡ false
unplaced [] place none = refl
unplaced (cell ∷ cells) place none =
    let here = none 0 cell (omega arith) in
    let other : (cell.0 == place) ≡ false = grind (arith, nat_tests) in
    rw other (unplaced cells place (λ k d below. none (suc k) d (omega arith)))

placed : (cells : List Cell) (place : ℕ) → is_some (byte_given cells place) ≡ false → All (λ (cell : Cell). cell.0 ≢ place) cells
placed [] place none k d below = absurd (omega (arith, below))
placed (cell ∷ cells) place none zero d below = λ same.
    let is : (cell.0 == place) ≡ true = grind (arith, nat_tests) in
    let some : is_some (byte_given (cell ∷ cells) place) ≡ true = rw is refl in
    absurd (cc)
placed (cell ∷ cells) place none (suc k) d below = elim (cases_eq cell.0 place) [
  | inl same ↦
      let is : (cell.0 == place) ≡ true = grind (arith, nat_tests) in
      let some : is_some (byte_given (cell ∷ cells) place) ≡ true = rw is refl in
      absurd (cc)
  | inr other ↦
      let is : (cell.0 == place) ≡ false = grind (arith, nat_tests) in
      placed cells place (rw is at none) k d (omega arith)
]

-- no cell has a place that others have: each of the first, and of the others
abbrev pub AreNew : List Cell → List Cell → Type 0
AreNew cells others = All (λ (other : Cell). All (λ (cell : Cell). AreApart cell other) cells) others

new_from : (cells others : List Cell) → list_any (λ (cell : Cell). is_some (byte_given cells cell.0)) others ≡ false → AreNew cells others
new_from cells others none k d below =
    placed cells (get_or others k d).0 (false_from_ne_true _ (λ some. let any = list_any_at (λ (cell : Cell). is_some (byte_given cells cell.0)) others k d below some in absurd (cc)))

new_to : (cells others : List Cell) → AreNew cells others → list_any (λ (cell : Cell). is_some (byte_given cells cell.0)) others ≡ false
new_to cells others new = list_any_none (λ (cell : Cell). is_some (byte_given cells cell.0)) others (λ k d below. unplaced cells (get_or others k d).0 (new k d below))

-- bytes in a row have different places
pub row_apart : (start : ℕ) (content : List ℕ) → AllPairs AreApart (enumerate_from start content)
row_apart start content i j d less below = λ same.
    let long = length-enumerate_from start content in
    let first = ap (λ (c : Cell). c.0) (get_or-enumerate_from start content i d (omega (arith, long, less, below))) in
    let second = ap (λ (c : Cell). c.0) (get_or-enumerate_from start content j d (omega (arith, long, below))) in
    omega (arith, first, second, same, less)

-- ---- a line's places

-- what a line without a fault is, behind what is known
pub record IsSoundLine (known : Known) (line : List ℕ) : Type 0 where
  pub form : IsRecord line
  pub fits : address_in (bytes_of line) + length (data_in line) ≤ 65536
  pub new : AreNew known.cells (cells_at known.base line)
  pub small : extent (cells_at known.base line) ≤ most_bytes

pub sound_line : (known : Known) (line : List ℕ) → line ≢ [] → fault_at known line ≡ None → IsSoundLine known line
sound_line known line some none =
    let parts = neither (own_fault line) (place_fault known.cells known.base (address_in (bytes_of line)) (data_in line)) (sym (faults_of known line some) ∙ none) in
    let cells = cells_at known.base line in
    let wrap = not_found _ _ _ parts.1 in
    let twice = not_found _ _ _ wrap.1 in
    let large = not_found (nat_lt most_bytes (extent cells)) TooLarge None twice.1 in
    record {
      form = sound_record line some parts.0;
      fits = (let test = wrap.0 in grind (arith, nat_tests));
      new = new_from known.cells cells twice.0;
      small = (let test = large.0 in grind (arith, nat_tests));
    }

pub line_sound : (known : Known) (line : List ℕ) → line ≢ [] → IsSoundLine known line → fault_at known line ≡ None
line_sound known line some is =
    let cells = cells_at known.base line in
    let fits : nat_lt 65536 (address_in (bytes_of line) + length (data_in line)) ≡ false = (let low = is.fits in grind (arith, nat_tests)) in
    let small : nat_lt most_bytes (extent cells) ≡ false = (let low = is.small in grind (arith, nat_tests)) in
    let places : place_fault known.cells known.base (address_in (bytes_of line)) (data_in line) ≡ None = rw (fits, new_to known.cells cells is.new, small) refl in
    faults_of known line some ∙ rw (record_sound line is.form) places

-- the bytes of a line without a fault reach no further than the image may
pub few_at : (known : Known) (line : List ℕ) → fault_at known line ≡ None → extent (cells_at known.base line) ≤ most_bytes
few_at known [] none =
    let nothing : data_in [] ≡ [] = ap (λ bytes. cond (kind_in bytes == 0) (content_in bytes) []) empty_bytes in
    omega (arith, ap (λ z. extent (enumerate_from (known.base + address_in (bytes_of [])) z)) nothing)
few_at known (byte ∷ rest) none = (sound_line known (byte ∷ rest) (λ e. cc e) none).small
