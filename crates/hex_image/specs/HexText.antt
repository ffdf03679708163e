-- Which texts have an image, and what is wrong with the others.
use Rattle.std.specs.Prelude.{◌≡◌, ◌≢◌, ℕ, ◌+◌, ◌*◌, ◌%◌, ◌==◌, nat_lt, Bool, false, not, ◌||◌, if◌then◌else◌, List, [], ◌∷◌, length, take, sum, slice_index, find, is_some, codes, Option, Some, None}
use Rattle.std.specs.List.{concat, list_all, list_any, position_or_len}
use Rattle.std.specs.Option.{option_or}
use Rattle.hex.specs.Hex.{is_hex_digit}
use Rattle.text_lines.specs.Lines.{lines_of, pieces_of}
use Rattle.text_lines.specs.Faults.{after_lines, first_fault}
use Rattle.hex_image.specs.Image.{most_bytes}
use Rattle.hex_image.specs.declared.fault.HexFault.{HexFault}
use Rattle.hex_image.specs.declared.fault.HexFault.TheVariants.{Start, Digit, Length, Checksum, Kind, Wrap, Twice, TooLarge, NoEnd}
use Rattle.hex_image.specs.Lines.{address_in, bytes_of, count_in, data_in, digits_of, has_right_count, is_end, kind_in}
use Rattle.hex_image.specs.Places.{Known, after_line, byte_given, cells_at, extent, image_of_cells, nothing}

-- Whether a line that isn't empty has a fault, behind what is known: it doesn't begin with a colon (58); a later byte is no
-- digit; it has fewer than 10 digits, or not two for each byte of the record; its bytes don't sum to a multiple of 256; its
-- kind is unknown, or its count isn't the kind's; the addresses of the bytes that it gives go beyond 16 bits; one of their
-- places was given before; one of them is beyond the image's limit of 49,152 bytes. `NoEnd` is no line's.
abbrev pub has_fault : Known → List ℕ → HexFault → Bool
has_fault known line Start = not (slice_index line 0 == 58)
has_fault known line Digit = not (list_all is_hex_digit (digits_of line))
has_fault known line Length = nat_lt (length (digits_of line)) 10 || not (length (digits_of line) == 10 + 2 * count_in (bytes_of line))
has_fault known line Checksum = not (sum (bytes_of line) % 256 == 0)
has_fault known line Kind = not (has_right_count (kind_in (bytes_of line)) (count_in (bytes_of line)))
has_fault known line Wrap = nat_lt 65536 (address_in (bytes_of line) + length (data_in line))
has_fault known line Twice = list_any (λ cell. is_some (byte_given known.cells cell.0)) (cells_at known.base line)
has_fault known line TooLarge = nat_lt most_bytes (extent (cells_at known.base line))
has_fault known line NoEnd = false

-- the first of these faults that a line has
abbrev pub fault_at : Known → List ℕ → Option HexFault
fault_at known [] = None
fault_at known (byte ∷ rest) = find (has_fault known (byte ∷ rest)) (Start ∷ Digit ∷ Length ∷ Checksum ∷ Kind ∷ Wrap ∷ Twice ∷ TooLarge ∷ [])

-- the number of the end record's line, counted from 1, or of the line behind the last where none comes
abbrev pub end_line : List ℕ → ℕ
end_line text = position_or_len is_end (lines_of text) + 1

-- the lines up to the end record's, and this one
abbrev pub lines_read : List ℕ → List (List ℕ)
lines_read text = take (end_line text) (lines_of text)

-- the first of them that has a fault, and the first of its faults; or that no end record comes
abbrev pub hex_fault : List ℕ → Option (ℕ × HexFault)
hex_fault text =
    option_or (first_fault fault_at after_line 1 nothing (lines_read text))
    (if list_any is_end (lines_of text) then None else Some (end_line text, NoEnd))

-- the text has this image, and the text behind its end record's line begins at this position
pub record HexText (text words : List ℕ) (position : ℕ) : Type 0 where
  pub sound : hex_fault text ≡ None
  pub image : words ≡ image_of_cells (after_lines after_line nothing (lines_read text)).cells
  pub cut : position ≡ length (concat (take (end_line text) (pieces_of text)))

-- so many of its first lines, up to the end record's, have no fault, and give a byte
pub record NeedsMemory (text : List ℕ) : Type 0 where
  pub count : ℕ
  pub sound : first_fault fault_at after_line 1 nothing (take count (lines_read text)) ≡ None
  pub some : (after_lines after_line nothing (take count (lines_read text))).cells ≢ []

-- the word by which a fault is told
abbrev pub hex_word : HexFault → List ℕ
hex_word Start = codes "start"
hex_word Digit = codes "digit"
hex_word Length = codes "length"
hex_word Checksum = codes "checksum"
hex_word Kind = codes "kind"
hex_word Wrap = codes "wrap"
hex_word Twice = codes "twice"
hex_word TooLarge = codes "size"
hex_word NoEnd = codes "end"
