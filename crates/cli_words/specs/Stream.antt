-- Streams as clauses see them: what a source or a sink tells at a moment.
use Rattle.std.specs.Prelude.{ℕ, List, Option}

-- a stream at a moment: the bytes that it tells, and how often it failed
pub record Stream : Type 0 where
  pub told : Option (List ℕ)
  pub faults : ℕ

-- a source or a sink as a stream, by the two functions that tell its bytes and its faults
abbrev pub stream : {X : Type 0} → (X → Option (List ℕ)) → (X → ℕ) → X → Stream
stream told faults x = record { told = told x; faults = faults x }
