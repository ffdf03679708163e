-- Judging a line.
use Rattle.std.proofs.Common.{◌≡◌, ◌≢◌, ℕ, ◌+◌, ◌*◌, ◌/◌, ◌%◌, ◌<◌, ◌==◌, nat_lt, not, ◌||◌, true, false, cond, List, [], ◌∷◌, length, refl, sym, ap, ◌∙◌, subst, arith, inl, inr, Ok, Err, Some, None}
use Rattle.std.proofs.Common.{Result, MatchResult}
use Rattle.std.specs.Prelude.{◌⊎◌, slice_index}
use Rattle.std.specs.Option.{option_or}
use Rattle.std.specs.Result.{is_err, result_unwrap_or}
use Rattle.std.specs.List.{AllPass}
use Rattle.std.proofs.lemmas.Bool.{cases_eq}
use Rattle.std.proofs.lemmas.Bool.Decides.{nat_tests}
use Rattle.std.proofs.lemmas.List.Folds.{find-append}
use Rattle.std.proofs.lemmas.List.Sums.{list_all-from_AllPass}
use Rattle.hex.specs.Hex.{decode_of, decode_sized, is_hex_digit}
use Rattle.hex.specs.declared.error.FromHexError.{FromHexError}
use Rattle.hex.proofs.OnLiterals.{hex_on_literals}
use Rattle.hex.proofs.HexLemmas.{decode_of-digits, decode_of-ok, decode_sized-twice}
use Rattle.hex_image.specs.declared.fault.HexFault.{HexFault}
use Rattle.hex_image.specs.declared.fault.HexFault.TheVariants.{Start, Digit, Length, Checksum, Kind, Wrap, Twice, TooLarge}
use Rattle.hex_image.specs.declared.line.Line.{Line}
use Rattle.hex_image.specs.Lines.{address_in, base_behind, bytes_of, content_in, count_in, data_in, digits_of, is_end, kind_in, word_in}
use Rattle.hex_image.specs.Places.{Known, nothing}
use Rattle.hex_image.specs.HexText.{fault_at, has_fault}
use Rattle.hex_image.specs.Reading.{IsData, IsRecordOf, IsRecordOfBytes, SaysIn, fault_in, own_fault, place_fault}

-- a line of digits whose number is wrong
wrong_length : (digits : List ℕ) → AllPass is_hex_digit digits → has_fault nothing (58 ∷ digits) Length ≡ true → own_fault (58 ∷ digits) ≡ Some Length
wrong_length digits all wrong =
    rw (list_all-from_AllPass is_hex_digit digits all, wrong) refl

-- a count is a byte
count_small : (digits : List ℕ) (r : Result (List ℕ) FromHexError) → decode_of digits ≡ r → count_in (result_unwrap_or r []) < 256
count_small digits (Ok bytes) e = (decode_of-ok digits bytes e).3 0
count_small digits (Err f) e = omega arith

-- more digits than a record has
pub too_long : (digits : List ℕ) → AllPass is_hex_digit digits → 520 < length digits → own_fault (58 ∷ digits) ≡ Some Length
too_long digits all long =
    let small : count_in (bytes_of (58 ∷ digits)) < 256 = count_small digits (decode_of digits) refl in
    wrong_length digits all (grind (arith, nat_tests))

odd_length : (n c : ℕ) → n % 2 ≡ 1 → (nat_lt n 10 || not (n == 10 + 2 * c)) ≡ true
odd_length n c odd = grind (arith, nat_tests)

-- digits that don't decode are odd in number
pub undecoded : (digits out : List ℕ) (n : ℕ) (r : Result (Unit {0}) FromHexError) → AllPass is_hex_digit digits → n ≡ length digits / 2
    → MatchResult (decode_sized digits n) (λ bytes. (r ≡ Ok tt) × (out ≡ bytes)) (λ e. r ≡ Err e) → is_err r ≡ true
    → own_fault (58 ∷ digits) ≡ Some Length
undecoded digits out n r all half answer bad =
    elim (cases_eq (length digits % 2) 1) [
      | inl odd ↦ wrong_length digits all (odd_length (length digits) (count_in (bytes_of (58 ∷ digits))) odd)
      | inr even ↦
          let ok = rw (decode_sized-twice digits n (omega arith) ∙ (decode_of-digits digits (omega arith) all).1) at answer in
          absurd (cc (ok.0, bad))
    ]

same_length : (n m c : ℕ) → n ≡ 2 * m → (nat_lt n 10 || not (n == 10 + 2 * c)) ≡ (nat_lt m 5 || not (m == 5 + c))
same_length n m c twice = grind (arith, nat_tests)

-- an empty line spells no bytes
pub empty_bytes : bytes_of [] ≡ []
unfolding hex_on_literals
empty_bytes = refl

-- the faults of a line of digits are those of its bytes
pub own_in : (digits bytes : List ℕ) → AllPass is_hex_digit digits → decode_of digits ≡ Ok bytes → own_fault (58 ∷ digits) ≡ fault_in bytes
own_in digits bytes all decoded =
    let size = same_length (length digits) (length bytes) (count_in bytes) (decode_of-ok digits bytes decoded).2 in
    rw (list_all-from_AllPass is_hex_digit digits all, ap (λ (r : Result (List ℕ) FromHexError). result_unwrap_or r []) decoded, size) refl

-- what was answered for the bytes is right for the line
pub record_from_bytes : (digits bytes : List ℕ) (r : Result Line HexFault) → AllPass is_hex_digit digits → decode_of digits ≡ Ok bytes → IsRecordOfBytes bytes r
    → MatchResult r (IsRecordOf (58 ∷ digits)) (λ fault. own_fault (58 ∷ digits) ≡ Some fault)
record_from_bytes digits bytes (Ok told) all decoded answer =
    record {
      sound = own_in digits bytes all decoded ∙ answer.judged.0;
      says = subst (λ z. SaysIn z told) (sym (ap (λ (r : Result (List ℕ) FromHexError). result_unwrap_or r []) decoded)) answer.judged.1;
    }
record_from_bytes digits bytes (Err fault) all decoded answer = own_in digits bytes all decoded ∙ answer.judged

-- a line without a fault of its own isn't empty
pub record_some : (line : List ℕ) → own_fault line ≡ None → line ≢ []
record_some line sound empty =
    let start : Some Start ≡ None = ap own_fault (sym empty) ∙ sound in
    cc start

-- ---- a line behind others

-- its faults are its own, and then those of its places
pub faults_of : (known : Known) (line : List ℕ) → line ≢ []
    → fault_at known line ≡ option_or (own_fault line) (place_fault known.cells known.base (address_in (bytes_of line)) (data_in line))
faults_of known [] some = absurd (some refl)
faults_of known (byte ∷ rest) some =
    find-append (has_fault known (byte ∷ rest)) (Start ∷ Digit ∷ Length ∷ Checksum ∷ Kind ∷ []) (Wrap ∷ Twice ∷ TooLarge ∷ [])

pub fault_of_own : (known : Known) (line : List ℕ) (fault : HexFault) → line ≢ [] → own_fault line ≡ Some fault → fault_at known line ≡ Some fault
fault_of_own known line fault some is =
    faults_of known line some ∙ ap (λ o. option_or o (place_fault known.cells known.base (address_in (bytes_of line)) (data_in line))) is

pub fault_of_places : (known : Known) (line : List ℕ) → own_fault line ≡ None
    → fault_at known line ≡ place_fault known.cells known.base (address_in (bytes_of line)) (data_in line)
fault_of_places known line sound =
    faults_of known line (record_some line sound) ∙ ap (λ o. option_or o (place_fault known.cells known.base (address_in (bytes_of line)) (data_in line))) sound

-- an address has 16 bits
byte_small : (digits : List ℕ) (i : ℕ) (r : Result (List ℕ) FromHexError) → decode_of digits ≡ r → slice_index (result_unwrap_or r []) i < 256
byte_small digits i (Ok bytes) e = (decode_of-ok digits bytes e).3 i
byte_small digits i (Err f) e = omega arith

address_small : (line : List ℕ) → address_in (bytes_of line) < 65536
address_small line = omega (arith, byte_small (digits_of line) 1 (decode_of (digits_of line)) refl, byte_small (digits_of line) 2 (decode_of (digits_of line)) refl)

-- a record that gives no bytes has no fault by its places
pub quiet_fault : (known : Known) (line : List ℕ) → own_fault line ≡ None → data_in line ≡ [] → fault_at known line ≡ None
quiet_fault known line sound none =
    let fits : nat_lt 65536 (address_in (bytes_of line) + 0) ≡ false = grind (arith, nat_tests, address_small line) in
    fault_of_places known line sound ∙ ap (place_fault known.cells known.base (address_in (bytes_of line))) none ∙ rw fits refl

-- ---- what a line says, by its kind

pub record OfKind (line : List ℕ) (kind : ℕ) : Type 0 where
  pub gives : data_in line ≡ cond (kind == 0) (content_in (bytes_of line)) []
  pub ends : is_end line ≡ (kind == 1)
  pub base : (from : ℕ) → base_behind from line
      ≡ cond (kind == 2) (16 * word_in (content_in (bytes_of line))) (cond (kind == 4) (65536 * word_in (content_in (bytes_of line))) from)

pub of_kind : (line : List ℕ) (kind : ℕ) → kind_in (bytes_of line) ≡ kind → OfKind line kind
of_kind line kind is = record {
  gives = ap (λ k. cond (k == 0) (content_in (bytes_of line)) []) is;
  ends = ap (λ k. k == 1) is;
  base = λ from. ap (λ k. cond (k == 2) (16 * word_in (content_in (bytes_of line))) (cond (k == 4) (65536 * word_in (content_in (bytes_of line))) from)) is;
}

-- the kinds of two kinds
pub two_kinds : (kind a b : ℕ) → (kind == a || kind == b) ≡ true → (kind ≡ a) ⊎ (kind ≡ b)
two_kinds kind a b is =
    elim (cases_eq kind a) [
      | inl first ↦ inl first
      | inr other ↦ inr (grind (arith, nat_tests))
    ]

-- a data record
pub data_fault : (known : Known) (line : List ℕ) (address : ℕ) (content : List ℕ) → IsData line address content
    → fault_at known line ≡ place_fault known.cells known.base address content
data_fault known line address content is =
    fault_of_places known line is.sound
    ∙ ap (place_fault known.cells known.base (address_in (bytes_of line))) ((of_kind line 0 is.kind).gives ∙ sym is.content_is)
    ∙ ap (λ a. place_fault known.cells known.base a content) (sym is.address_is)
