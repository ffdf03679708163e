-- The text that is written for an image (Intel's "Hexadecimal Object File Format Specification", sections
-- on the general record format, the data record and the end of file record).
use Rattle.std.specs.Prelude.{ℕ, ◌+◌, ◌-◌, ◌*◌, ◌/◌, ◌%◌, List, [], ◌∷◌, ◌++◌, length, take, drop, map, sum, flat_map}
use Rattle.std.specs.List.{range_with_len}
use Rattle.hex.specs.Hex.{encode_upper}
use Rattle.text_lines.specs.Written.{fed}

-- the byte that makes the sum a multiple of 256
abbrev pub checksum_of : List ℕ → ℕ
checksum_of bytes = (256 - sum bytes % 256) % 256

-- the bytes of a record before its checksum, and all of them
abbrev pub fields_of : (kind address : ℕ) (content : List ℕ) → List ℕ
fields_of kind address content = length content ∷ address / 256 ∷ address % 256 ∷ kind ∷ content

abbrev pub record_bytes : (kind address : ℕ) (content : List ℕ) → List ℕ
record_bytes kind address content = fields_of kind address content ++ checksum_of (fields_of kind address content) ∷ []

-- the line of a record: a colon (58), and its bytes in upper case
abbrev pub record_line : (kind address : ℕ) (content : List ℕ) → List ℕ
record_line kind address content = 58 ∷ encode_upper (record_bytes kind address content)

-- the bytes of words, the low byte first
abbrev pub bytes_of_words : List ℕ → List ℕ
bytes_of_words words = flat_map (λ word. word % 256 ∷ word / 256 ∷ []) words

-- what the record of a number has: eight words, of which the last record may have fewer
abbrev pub record_content : List ℕ → ℕ → List ℕ
record_content words number = bytes_of_words (take 8 (drop (8 * number) words))

-- its line: a data record (kind 0), 16 bytes a record
abbrev pub data_line : List ℕ → ℕ → List ℕ
data_line words number = record_line 0 (16 * number) (record_content words number)

-- how many of them there are
abbrev pub record_count : List ℕ → ℕ
record_count words = (length words + 7) / 8

-- the text: the data records in the order of their addresses, and then the end record (kind 1)
abbrev pub written : List ℕ → List ℕ
written words = flat_map fed (map (data_line words) (range_with_len 0 (record_count words))) ++ fed (record_line 1 0 [])
