-- A text as lines, in this project's own form, which `docs/FORMATS.md` gives at each text that is read: a line ends
-- with a line feed (10), or with a carriage return (13) and a line feed.
use Rattle.std.specs.Prelude.{ℕ, ◌-◌, ◌==◌, if◌then◌else◌, List, [], ◌∷◌, length, map, take, slice_index}
use Rattle.std.specs.List.{onto_first}

-- The text cut behind each line feed: one piece for each line. The last piece may lack its line feed, and
-- isn't empty.
abbrev pub pieces_of : List ℕ → List (List ℕ)
pieces_of [] = []
pieces_of (byte ∷ rest) = if byte == 10 then (byte ∷ []) ∷ pieces_of rest else onto_first byte (pieces_of rest)

-- the bytes without the last one, where that is this byte
abbrev pub without_last : ℕ → List ℕ → List ℕ
without_last byte bytes = if slice_index bytes (length bytes - 1) == byte then take (length bytes - 1) bytes else bytes

-- the line of a piece: without its line feed, and then without one carriage return at its end
abbrev pub line_of : List ℕ → List ℕ
line_of piece = without_last 13 (without_last 10 piece)

-- the lines of a text
abbrev pub lines_of : List ℕ → List (List ℕ)
lines_of text = map line_of (pieces_of text)
