-- A program image: the list of its words from word 0 on. Outside it flash is erased.
use Rattle.std.specs.Prelude.{ℕ, ◌/◌, ◌%◌, ◌==◌, if◌then◌else◌, List, slice_index_or}

-- the word at a word address, 0xFFFF outside
abbrev pub word : List ℕ → ℕ → ℕ
word image a = slice_index_or image a 0xFFFF

-- the byte at a byte address, as LPM reads it: the low byte of a word has the even address
abbrev pub byte : List ℕ → ℕ → ℕ
byte image a = if a % 2 == 0 then word image (a / 2) % 256 else word image (a / 2) / 256
