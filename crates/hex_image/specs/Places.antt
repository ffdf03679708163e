-- The bytes that records give, and where each of them stands (Intel's "Hexadecimal Object File Format
-- Specification", sections on the data record and on the extended address records).
use Rattle.std.specs.Prelude.{ℕ, ◌+◌, ◌*◌, ◌/◌, ◌==◌, max, if◌then◌else◌, List, [], ◌∷◌, ◌++◌, map, unwrap_or, Option, Some, None}
use Rattle.std.specs.List.{enumerate_from, range_with_len}
use Rattle.hex_image.specs.Lines.{address_in, base_behind, bytes_of, data_in}

-- a byte and its place, counted in bytes from address 0 on
abbrev pub Cell : Type 0
Cell = ℕ × ℕ

-- what is known behind some lines: the base that addresses count from, and the bytes that were given, in order
pub record Known : Type 0 where
  pub base : ℕ
  pub cells : List Cell

-- .. before the first line
abbrev pub nothing : Known
nothing = record { base = 0; cells = [] }

-- what a line gives, where its address counts from a base
abbrev pub cells_at : ℕ → List ℕ → List Cell
cells_at from line = enumerate_from (from + address_in (bytes_of line)) (data_in line)

-- what is known behind one line more
abbrev pub after_line : Known → List ℕ → Known
after_line known line = record { base = base_behind known.base line; cells = known.cells ++ cells_at known.base line }

-- the byte that is given for a place
abbrev pub byte_given : List Cell → ℕ → Option ℕ
byte_given [] place = None
byte_given (cell ∷ cells) place = if cell.0 == place then Some cell.1 else byte_given cells place

-- how many bytes the image has: the greatest place plus one
abbrev pub extent : List Cell → ℕ
extent [] = 0
extent (cell ∷ cells) = max (cell.0 + 1) (extent cells)

-- the byte at a place, 0xFF where none is given
abbrev pub byte_at : List Cell → ℕ → ℕ
byte_at cells place = unwrap_or (byte_given cells place) 255

-- the word of two bytes in a row, the low byte first
abbrev pub word_of_cells : List Cell → ℕ → ℕ
word_of_cells cells address = byte_at cells (2 * address) + 256 * byte_at cells (2 * address + 1)

-- the words of the image, an odd byte at its end filled up
abbrev pub image_of_cells : List Cell → List ℕ
image_of_cells cells = map (word_of_cells cells) (range_with_len 0 ((extent cells + 1) / 2))
