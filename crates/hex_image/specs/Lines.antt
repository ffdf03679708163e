-- What one line says by itself (Intel's "Hexadecimal Object File Format Specification", sections on the
-- general record format and on each kind of record).
use Rattle.std.specs.Prelude.{ℕ, ◌+◌, ◌*◌, ◌==◌, Bool, ◌&&◌, ◌||◌, if◌then◌else◌, List, [], take, drop, slice_index}
use Rattle.std.specs.Result.{result_unwrap_or}
use Rattle.hex.specs.Hex.{decode_of}

-- the digits of a line: all that stands behind its first byte
abbrev pub digits_of : List ℕ → List ℕ
digits_of line = drop 1 line

-- the bytes that the digits spell, two digits a byte; an odd number of digits spells none
abbrev pub bytes_of : List ℕ → List ℕ
bytes_of line = result_unwrap_or (decode_of (digits_of line)) []

-- The fields of a record's bytes: how many bytes its content has, its address, the high byte first, its
-- kind, and its content. A checksum stands behind them.
abbrev pub count_in : List ℕ → ℕ
count_in bytes = slice_index bytes 0

abbrev pub address_in : List ℕ → ℕ
address_in bytes = slice_index bytes 1 * 256 + slice_index bytes 2

abbrev pub kind_in : List ℕ → ℕ
kind_in bytes = slice_index bytes 3

abbrev pub content_in : List ℕ → List ℕ
content_in bytes = take (count_in bytes) (drop 4 bytes)

-- the count that a record of each kind has: data (0) any; end of file (1) none; extended segment address
-- (2) and extended linear address (4) two; start segment (3) and start linear address (5) four
abbrev pub has_right_count : (kind count : ℕ) → Bool
has_right_count kind count =
    kind == 0
    || (kind == 1 && count == 0)
    || (kind == 2 && count == 2)
    || (kind == 3 && count == 4)
    || (kind == 4 && count == 2)
    || (kind == 5 && count == 4)

-- the bytes that a line gives: those of a data record (0); an empty line gives none
abbrev pub data_in : List ℕ → List ℕ
data_in line = if kind_in (bytes_of line) == 0 then content_in (bytes_of line) else []

-- whether a line without a fault is the end record (1)
abbrev pub is_end : List ℕ → Bool
is_end line = kind_in (bytes_of line) == 1

-- what two bytes stand for, the high one first
abbrev pub word_in : List ℕ → ℕ
word_in content = slice_index content 0 * 256 + slice_index content 1

-- the base of the addresses behind a line: a segment (2) counts 16 bytes, a linear base (4) is the upper half of an address
-- of 32 bits, and another line leaves the base that was before it
abbrev pub base_behind : ℕ → List ℕ → ℕ
base_behind from line =
    if kind_in (bytes_of line) == 2 then 16 * word_in (content_in (bytes_of line))
    else if kind_in (bytes_of line) == 4 then 65536 * word_in (content_in (bytes_of line))
    else from
