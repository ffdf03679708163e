-- What cutting a text gives.
use Rattle.std.specs.Prelude.{◌≡◌, ◌≢◌, ℕ, ◌<◌, List, ◌∷◌, ◌++◌, length}
use Rattle.std.specs.List.{AllByRecursion}
use Rattle.text_lines.specs.Lines.{line_of, pieces_of}

-- a text in which a byte doesn't stand
abbrev pub Lacks : ℕ → List ℕ → Type 0
Lacks byte text = AllByRecursion (λ b. b ≢ byte) text

-- the line is the first of the text, and the rest stands behind it
pub record IsCut (text line rest : List ℕ) : Type 0 where
  pub piece : List ℕ
  pub some : 0 < length piece
  pub joined : text ≡ piece ++ rest
  pub pieces : pieces_of text ≡ piece ∷ pieces_of rest
  pub line_is : line ≡ line_of piece
