-- Serves proofs: which steps are checkpoints, where crossings alone are counted.
use Rattle.std.specs.Prelude.{ℕ, ◌==◌, ◌&&◌, nat_lt, ◌%◌, Bool}

-- the last of steps was a checkpoint, where the crossings were counted from one number to the other
abbrev pub checks_by : (quantum before crossings : ℕ) → Bool
checks_by quantum before crossings = nat_lt before crossings && (crossings % quantum == 0)
