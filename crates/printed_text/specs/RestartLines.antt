-- The line of a restart (docs/RESTART.md).
use Rattle.std.specs.Prelude.{ℕ, List, ◌++◌, codes, decimal}

-- the line of a restart
unfoldable pub restart_text : (kept dropped : ℕ) → List ℕ
restart_text kept dropped = codes "restart kept " ++ decimal kept ++ codes " dropped " ++ decimal dropped ++ codes "\n"
