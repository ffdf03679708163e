-- Lines as they are written.
use Rattle.std.specs.Prelude.{◌≡◌, ℕ, List, [], ◌∷◌, ◌++◌}
use Rattle.text_lines.specs.Lines.{without_last}
use Rattle.text_lines.specs.Cutting.{Lacks}

-- a line with its line feed
abbrev pub fed : List ℕ → List ℕ
fed line = line ++ 10 ∷ []

-- a line that can be written so: it has no line feed, and no carriage return at its end
pub record IsPlain (line : List ℕ) : Type 0 where
  pub inside : Lacks 10 line
  pub plain : without_last 13 line ≡ line
