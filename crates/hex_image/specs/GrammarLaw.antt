-- Serves the contract of `grammar`: the format over all lines at once, and that the functions of `HexText`, which go line by line,
-- say the same.
use Rattle.std.specs.Prelude.{◌≡◌, ◌≢◌, ◌⊎◌, ◌↔◌, ℕ, ◌+◌, ◌*◌, ◌%◌, ◌≤◌, ◌==◌, true, if◌then◌else◌, List, [], ◌∷◌, ◌++◌, length, take, sum, flat_map, unwrap_or, All, AllPairs, Some, None, Ok}
use Rattle.std.specs.List.{concat, last_or}
use Rattle.hex.specs.Hex.{decode_of}
use Rattle.text_lines.specs.Lines.{lines_of, pieces_of}
use Rattle.hex_image.specs.Image.{most_bytes}
use Rattle.hex_image.specs.declared.fault.HexFault.{HexFault}
use Rattle.hex_image.specs.declared.fault.HexFault.TheVariants.{NoEnd}
use Rattle.hex_image.specs.Lines.{address_in, bytes_of, content_in, count_in, data_in, digits_of, has_right_count, kind_in, word_in}
use Rattle.hex_image.specs.Places.{Cell, cells_at, extent, image_of_cells}
use Rattle.hex_image.specs.HexText.{HexText, fault_at, hex_fault}

-- a line with a record: a colon (58), and two digits for each of its bytes, five and those of its content; these sum to a multiple
-- of 256, and its kind has this count
pub record IsRecord (line : List ℕ) : Type 0 where
  pub colon : line ≡ 58 ∷ digits_of line
  pub bytes_are : decode_of (digits_of line) ≡ Ok (bytes_of line)
  pub size : length (bytes_of line) ≡ 5 + count_in (bytes_of line)
  pub sum_is : sum (bytes_of line) % 256 ≡ 0
  pub count : has_right_count (kind_in (bytes_of line)) (count_in (bytes_of line)) ≡ true

-- a line before the end record's: it is empty, or another record whose addresses stay within 16 bits
abbrev pub IsBeforeEnd : List ℕ → Type 0
IsBeforeEnd line = (line ≡ []) ⊎ (IsRecord line × (kind_in (bytes_of line) ≢ 1) × (address_in (bytes_of line) + length (data_in line) ≤ 65536))

-- the base that a line sets: a segment (2) counts 16 bytes, a linear base (4) is the upper half of an address of 32 bits
abbrev pub base_set_by : List ℕ → List ℕ
base_set_by line =
    if kind_in (bytes_of line) == 2 then 16 * word_in (content_in (bytes_of line)) ∷ []
    else if kind_in (bytes_of line) == 4 then 65536 * word_in (content_in (bytes_of line)) ∷ []
    else []

-- the base behind some lines: the last that they set, and 0 where they set none
abbrev pub base_after : List (List ℕ) → ℕ
base_after lines = unwrap_or (last_or None (flat_map base_set_by lines)) 0

-- the bytes that lines give behind others: each counts from the last base that was set before its line
abbrev pub cells_behind : List (List ℕ) → List (List ℕ) → List Cell
cells_behind before [] = []
cells_behind before (line ∷ lines) = cells_at (base_after before) line ++ cells_behind (before ++ line ∷ []) lines

abbrev pub cells_of : List (List ℕ) → List Cell
cells_of lines = cells_behind [] lines

-- lines before the end record's, whose bytes have different places within the image's limit
pub record AreBeforeEnd (lines : List (List ℕ)) : Type 0 where
  pub forms : All IsBeforeEnd lines
  pub different : AllPairs (λ cell other. cell.0 ≢ other.0) (cells_of lines)
  pub small : extent (cells_of lines) ≤ most_bytes

-- the text has this image, and the text behind its end record's line begins at this position
pub record HasImage (text words : List ℕ) (position : ℕ) : Type 0 where
  pub before : List (List ℕ)
  pub line : List ℕ
  pub rest : List (List ℕ)
  pub cut : lines_of text ≡ before ++ line ∷ rest
  pub sound : AreBeforeEnd before
  pub ends : IsRecord line × (kind_in (bytes_of line) ≡ 1)
  pub image : words ≡ image_of_cells (cells_of before)
  pub position_is : position ≡ length (concat (take (length before + 1) (pieces_of text)))

-- the first fault of the line that comes behind others, or that none comes
abbrev pub HasFirst : List (List ℕ) → List (List ℕ) → HexFault → Type 0
HasFirst before [] fault = fault ≡ NoEnd
HasFirst before (line ∷ rest) fault = fault_at (record { base = base_after before; cells = cells_of before }) line ≡ Some fault

-- such lines stand before the one with this number, from 1, and it has this fault first
pub record IsFaulty (text : List ℕ) (number : ℕ) (fault : HexFault) : Type 0 where
  pub before : List (List ℕ)
  pub rest : List (List ℕ)
  pub cut : lines_of text ≡ before ++ rest
  pub number_is : number ≡ length before + 1
  pub sound : AreBeforeEnd before
  pub first : HasFirst before rest fault

-- both say the same of a text with an image, and of one with a fault
abbrev pub ImagesAgree : Type 0
ImagesAgree = (text words : List ℕ) (position : ℕ) → HexText text words position ↔ HasImage text words position

abbrev pub FaultsAgree : Type 0
FaultsAgree = (text : List ℕ) (number : ℕ) (fault : HexFault) → (hex_fault text ≡ Some (number, fault)) ↔ IsFaulty text number fault
