-- What a whole reading takes from a source, and a whole writing gives to a sink. What a stream doesn't
-- tell is `None`, of which nothing is said.
use Rattle.std.specs.Prelude.{◌≡◌, ℕ, ◌+◌, ◌<◌, ◌≤◌, List, ◌++◌, length, take, Option, Result, Ok, Err, Vec}
use Rattle.std.specs.Io.KnownBytes.{Consumes, Appends, IsAtEnd}
use Rattle.std.specs.declared.alloc.Global.{Global}
use Rattle.byte_streams.specs.declared.failure.ReadAll.{ReadAll}
use Rattle.byte_streams.specs.declared.failure.ReadAll.TheVariants.{Fault, TooLong, NoMemory}

-- a source at a moment: the bytes that are left, where it tells them; those that it gave, where it keeps them; and how often
-- it failed
pub record Input : Type 0 where
  pub left : Option (List ℕ)
  pub given : Option (List ℕ)
  pub faults : ℕ

abbrev pub input_of : {S : Type 0} → (S → Option (List ℕ)) → (S → Option (List ℕ)) → (S → ℕ) → S → Input
input_of left given faults s = record { left = left s; given = given s; faults = faults s }

-- the source gave these bytes: what it tells to be left begins with them, and what it keeps grows by them
pub record Gives (old new : Input) (bytes : List ℕ) : Type 0 where
  pub left : Consumes old.left new.left bytes
  pub given : Appends old.given new.given bytes

-- the source gave just so many bytes
abbrev pub Takes : ℕ → Input → Input → Type 0
Takes n old new = (bytes : List ℕ) × (length bytes ≡ n) × Gives old new bytes

-- the source gave at most so many bytes
abbrev pub TakesAtMost : ℕ → Input → Input → Type 0
TakesAtMost n old new = (taken : ℕ) × (taken ≤ n) × Takes taken old new

-- Reading to the end, of a source from old to new. More than `limit` bytes are taken just where the answer is `TooLong`, and
-- then one more.
abbrev pub ReadsAll : ℕ → Input → Input → Result (Vec ℕ Global) ReadAll → Type 0
ReadsAll limit old new (Ok bytes) = (length bytes.items ≤ limit) × Gives old new bytes.items × IsAtEnd new.left
ReadsAll limit old new (Err TooLong) = Takes (limit + 1) old new
ReadsAll limit old new (Err Fault) = TakesAtMost limit old new
ReadsAll limit old new (Err NoMemory) = TakesAtMost limit old new

-- some of the bytes, from the front, were added, and the rest is left
pub record IsSent (bytes rest : List ℕ) (old new : Option (List ℕ)) : Type 0 where
  pub sent : List ℕ
  pub parts : bytes ≡ sent ++ rest
  pub appended : Appends old new sent

-- a shorter part of the bytes from the front was added
abbrev pub CutShort : Option (List ℕ) → Option (List ℕ) → List ℕ → Type 0
CutShort old new bytes = (n : ℕ) × (n < length bytes) × Appends old new (take n bytes)

-- Writing all of the bytes, or a part from the front where the sink failed.
abbrev pub Puts : {T E : Type 0} → Option (List ℕ) → Option (List ℕ) → Result T E → List ℕ → Type 0
Puts old new (Ok x) bytes = Appends old new bytes
Puts old new (Err e) bytes = CutShort old new bytes
