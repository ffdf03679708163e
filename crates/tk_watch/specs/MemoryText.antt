-- The memory of the original program, as it is shown: rows of 16 bytes, those that are not all 0.
use Rattle.std.specs.Prelude.{ℕ, zero, suc, ◌+◌, ◌*◌, ◌==◌, ◌||◌, not, Bool, false, if◌then◌else◌, List, [], ◌++◌, slice_index, codes}
use Rattle.text_lines.specs.Pieces.{address_text, byte_text}
use Rattle.tk_watch.specs.Rows.{rows}

-- one of the first n of these bytes isn't 0
unfoldable pub is_filled : (byte : ℕ → ℕ) → (n : ℕ) → Bool
is_filled byte zero = false
is_filled byte (suc n) = is_filled byte n || not (byte n == 0)

-- a byte of a row, behind a blank
abbrev pub byte_told : ℕ → List ℕ
byte_told v = codes " " ++ byte_text v

-- the row of the bytes from an address on
unfoldable pub row_text : (memory : List ℕ) → (at : ℕ) → List ℕ
row_text memory at =
    if is_filled (λ i. slice_index memory (at + i)) 16 then address_text at ++ (rows (λ i. byte_told (slice_index memory (at + i))) 16 ++ codes "\n")
    else []

-- all rows
abbrev pub memory_text : List ℕ → List ℕ
memory_text memory = rows (λ row. row_text memory (16 * row)) 4096
