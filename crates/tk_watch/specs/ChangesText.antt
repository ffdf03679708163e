-- The bytes that a step changes, as they are shown.
use Rattle.std.specs.Prelude.{ℕ, ◌+◌, ◌==◌, if◌then◌else◌, List, [], ◌++◌, codes, decimal}
use Rattle.text_lines.specs.Pieces.{address_text, byte_text}
use Rattle.tk_watch.specs.Rows.{rows}

-- the step of this number, which began at this pc, changed a byte
unfoldable pub change_line : (step pc a before now : ℕ) → List ℕ
change_line step pc a before now = codes "step " ++ decimal step ++ codes " " ++ address_text pc ++ codes " " ++ address_text a ++ codes " " ++ byte_text before ++ codes " " ++ byte_text now
    ++ codes "\n"

-- .. which is told where it isn't what it was
abbrev pub change_text : (step pc a before now : ℕ) → List ℕ
change_text step pc a before now = if before == now then [] else change_line step pc a before now

-- those of so many bytes from an address on, ascending
abbrev pub changes_text : (at count step pc : ℕ) → (before now : ℕ → ℕ) → List ℕ
changes_text at count step pc before now = rows (λ i. change_text step pc (at + i) (before i) (now i)) count
