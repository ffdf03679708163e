-- Texts with a part for each number, one behind the other.
use Rattle.std.specs.Prelude.{ℕ, zero, suc, List, [], ◌++◌}

-- those of the numbers below n, ascending
unfoldable pub rows : (ℕ → List ℕ) → (n : ℕ) → List ℕ
rows row zero = []
rows row (suc n) = rows row n ++ row n
