-- Counts of faults, and the faults that may be told.
use Rattle.std.specs.Prelude.{ℕ, ◌+◌, ◌-◌, ◌^◌, ◌≤◌, min, Result, OnErr, IsErrOf}
use Rattle.byte_streams.specs.declared.failure.ReadAll.{ReadAll}
use Rattle.byte_streams.specs.declared.failure.ReadAll.TheVariants.{Fault}

-- a count after one more: it stands still at the last value of 64 bits
abbrev pub next_count : ℕ → ℕ
next_count n = min (n + 1) (2 ^ 64 - 1)

-- the count rose, or stands at its last value
abbrev pub Rose : ℕ → ℕ → Type 0
Rose before now = next_count before ≤ now

-- The count doesn't fall, and a call that failed made it rise.
pub record HasCause {T E : Type 0} (before now : ℕ) (result : Result T E) : Type 0 where
  pub later : before ≤ now
  pub failed : OnErr result (Rose before now)

-- `read_all` answers `Fault` only where the count rose.
pub record HasReadCause {T : Type 0} (before now : ℕ) (result : Result T ReadAll) : Type 0 where
  pub later : before ≤ now
  pub fault : IsErrOf result Fault → Rose before now
