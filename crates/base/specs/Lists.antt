-- Lists of equal numbers.
use Rattle.std.specs.Prelude.{ℕ, List, replicate}

-- n numbers that are all w
unfoldable pub many : ℕ → ℕ → List ℕ
many n w = replicate n w

-- n numbers that are all 0
abbrev pub zeros : ℕ → List ℕ
zeros n = many n 0
