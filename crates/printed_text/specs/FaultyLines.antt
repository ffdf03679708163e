-- The lines that name what is wrong with an input: a faulty line of a part of it, with the word of its fault, or a word of the image of
-- several tasks (docs/FORMATS.md).
use Rattle.std.specs.Prelude.{ℕ, List, ◌++◌, codes, decimal}
use Rattle.text_lines.specs.Pieces.{address_text}

-- how the line begins that names a faulty line of the HEX text, of the script, of the dump, or of the source
abbrev pub hex_part : List ℕ
hex_part = codes "bad hex line "

abbrev pub script_part : List ℕ
script_part = codes "bad script line "

abbrev pub dump_part : List ℕ
dump_part = codes "bad dump line "

abbrev pub asm_part : List ℕ
asm_part = codes "bad asm line "

-- the line that names a faulty line of the input
unfoldable pub bad_line_text : List ℕ → ℕ → List ℕ → List ℕ
bad_line_text part line word = part ++ decimal line ++ codes " " ++ word ++ codes "\n"

-- a word stands in the image where no task has one
unfoldable pub bad_image_text : (address : ℕ) → List ℕ
bad_image_text address = codes "bad task image " ++ address_text address ++ codes "\n"
