-- What is written is read back, line by line.
use Rattle.std.proofs.Common.{◌≡◌, ℕ, zero, suc, ◌+◌, ◌-◌, ◌/◌, ◌%◌, ◌<◌, ◌==◌, nat_lt, not, ◌||◌, true, false, cond, Bool, List, [], ◌∷◌, ◌++◌, length, get_or, take, sum, refl, sym, ap, ◌∙◌, arith}
use Rattle.std.proofs.Common.{None, Ok, Result}
use Rattle.std.specs.Prelude.{◌≢◌}
use Rattle.std.specs.List.{AllPass}
use Rattle.std.specs.Result.{result_unwrap_or}
use Rattle.std.proofs.lemmas.Bool.Decides.{nat_tests}
use Rattle.std.proofs.lemmas.List.{length_push, take_at}
use Rattle.std.proofs.lemmas.List.Elements.{All-cons, All-get_or, All-head, All-tail, All-weaker}
use Rattle.std.proofs.lemmas.List.Sums.{sum_by-append}
use Rattle.hex.specs.Hex.{IsBytes, decode_of, encode_upper, is_hex_digit}
use Rattle.hex.specs.declared.error.FromHexError.{FromHexError}
use Rattle.hex.proofs.HexLemmas.{decode_of-encode_upper, decode_of-ok}
use Rattle.text_lines.specs.Cutting.{Lacks}
use Rattle.text_lines.specs.Written.{IsPlain}
use Rattle.hex_image.specs.Lines.{address_in, bytes_of, content_in, has_right_count, kind_in}
use Rattle.hex_image.specs.Written.{checksum_of, fields_of, record_bytes, record_line}
use Rattle.hex_image.specs.Reading.{IsData, fault_in, own_fault}
use Rattle.hex_image.proofs.LineLemmas.{own_in}

-- a record that has a line
pub record IsWritable (kind address : ℕ) (content : List ℕ) : Type 0 where
  pub kind_fits : kind < 256
  pub address_fits : address < 65536
  pub bytes : IsBytes content
  pub short : length content < 256
  pub right : has_right_count kind (length content) ≡ true

IsBytes-cons : (byte : ℕ) (bytes : List ℕ) → byte < 256 → IsBytes bytes → IsBytes (byte ∷ bytes)
IsBytes-cons byte bytes fits all zero = fits
IsBytes-cons byte bytes fits all (suc i) = all i

IsBytes-push : (bytes : List ℕ) (byte : ℕ) → IsBytes bytes → byte < 256 → IsBytes (bytes ++ byte ∷ [])
IsBytes-push [] byte all fits zero = fits
IsBytes-push [] byte all fits (suc i) = omega arith
IsBytes-push (x ∷ xs) byte all fits zero = all 0
IsBytes-push (x ∷ xs) byte all fits (suc i) = IsBytes-push xs byte (λ k. all (suc k)) fits i

-- the bytes of a record are bytes
record_bytes-fit : (kind address : ℕ) (content : List ℕ) → IsWritable kind address content → IsBytes (record_bytes kind address content)
record_bytes-fit kind address content w =
    let rest = content ++ checksum_of (fields_of kind address content) ∷ [] in
    IsBytes-cons (length content) (address / 256 ∷ address % 256 ∷ kind ∷ rest) w.short
    (IsBytes-cons (address / 256) (address % 256 ∷ kind ∷ rest) (omega (arith, w.address_fits))
    (IsBytes-cons (address % 256) (kind ∷ rest) (omega arith)
    (IsBytes-cons kind rest w.kind_fits (IsBytes-push content (checksum_of (fields_of kind address content)) w.bytes (omega arith)))))

sum-push : (xs : List ℕ) (y : ℕ) → sum (xs ++ y ∷ []) ≡ sum xs + y
sum-push xs y = sum_by-append (λ x. x) xs (y ∷ []) ∙ omega arith

balanced : (total : ℕ) → ((total + (256 - total % 256) % 256) % 256 == 0) ≡ true
balanced total = grind (arith, nat_tests)

whole_length : (n : ℕ) → (nat_lt (suc (suc (suc (suc (n + 1))))) 5 || not (suc (suc (suc (suc (n + 1)))) == 5 + n)) ≡ false
whole_length n = grind (arith, nat_tests)

-- the bytes of a record have no fault
record_bytes-sound : (kind address : ℕ) (content : List ℕ) → IsWritable kind address content → fault_in (record_bytes kind address content) ≡ None
record_bytes-sound kind address content w =
    let fields = fields_of kind address content in
    rw (length_push content (checksum_of fields), whole_length (length content), sum-push fields (checksum_of fields), balanced (sum fields), w.right) refl

-- a line that is written has the bytes of its record
pub record_line-bytes : (kind address : ℕ) (content : List ℕ) → IsWritable kind address content → bytes_of (record_line kind address content) ≡ record_bytes kind address content
record_line-bytes kind address content w =
    ap (λ (r : Result (List ℕ) FromHexError). result_unwrap_or r []) (decode_of-encode_upper (record_bytes kind address content) (record_bytes-fit kind address content w))

-- and no fault of its own
pub record_line-sound : (kind address : ℕ) (content : List ℕ) → IsWritable kind address content → own_fault (record_line kind address content) ≡ None
record_line-sound kind address content w =
    let bytes = record_bytes kind address content in
    let digits = encode_upper bytes in
    let decoded : decode_of digits ≡ Ok bytes = decode_of-encode_upper bytes (record_bytes-fit kind address content w) in
    own_in digits bytes ((decode_of-ok digits bytes decoded).1) decoded ∙ record_bytes-sound kind address content w

-- a data record gives its bytes
pub data_line-is : (address : ℕ) (content : List ℕ) → IsWritable 0 address content → IsData (record_line 0 address content) address content
data_line-is address content w =
    let fields = fields_of 0 address content in
    let bytes = record_line-bytes 0 address content w in
    record {
      sound = record_line-sound 0 address content w;
      kind = ap kind_in bytes;
      address_is = sym (ap address_in bytes ∙ omega arith);
      content_is = sym (ap content_in bytes ∙ take_at content (checksum_of fields ∷ []) (length content) refl);
    }

abbrev IsDigit : ℕ → Type 0
IsDigit c = is_hex_digit c ≡ true

-- a digit is neither a line feed nor a carriage return
digit_no_feed : (c : ℕ) → is_hex_digit c ≡ true → c ≢ 10
digit_no_feed c digit same = grind (arith, nat_tests)

digit_no_return : (c : ℕ) → is_hex_digit c ≡ true → not (c == 13) ≡ true
digit_no_return c digit = grind (arith, nat_tests)

digits_lack_feed : (digits : List ℕ) → AllPass is_hex_digit digits → Lacks 10 digits
digits_lack_feed [] all = tt
digits_lack_feed (c ∷ digits) all =
    (digit_no_feed c (All-head IsDigit c digits all), digits_lack_feed digits (All-tail IsDigit c digits all))

kept : (b : Bool) (line : List ℕ) → not b ≡ true → cond b (take (length line - 1) line) line ≡ line
kept false line last = refl
kept true line last = cc last

pub record_line-plain : (kind address : ℕ) (content : List ℕ) → IsWritable kind address content → IsPlain (record_line kind address content)
record_line-plain kind address content w =
    let bytes = record_bytes kind address content in
    let digits = encode_upper bytes in
    let all : AllPass is_hex_digit digits = (decode_of-ok digits bytes (decode_of-encode_upper bytes (record_bytes-fit kind address content w))).1 in
    let returns : AllPass (λ c. not (c == 13)) digits = All-weaker IsDigit (λ c. not (c == 13) ≡ true) digit_no_return digits all in
    let last : not (get_or (58 ∷ digits) (length (58 ∷ digits) - 1) 0 == 13) ≡ true =
    All-get_or (λ c. not (c == 13) ≡ true) (58 ∷ digits) (length (58 ∷ digits) - 1) 0 (omega arith) (All-cons (λ c. not (c == 13) ≡ true) 58 digits refl returns) in
    record {
      inside = (λ same. omega (arith, same), digits_lack_feed digits all);
      plain = kept (get_or (58 ∷ digits) (length (58 ∷ digits) - 1) 0 == 13) (58 ∷ digits) last;
    }
