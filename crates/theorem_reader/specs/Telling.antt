-- How a text is told: by a sink that takes all of it, or by one that fails, since it has no room for all; and a source that
-- fails.
use Rattle.std.specs.Prelude.{◌≡◌, ◌⊎◌, ℕ, ◌<◌, ◌≤◌, List, [], ◌++◌, length, take}
use Rattle.tk_io.specs.Memory.{SinkState}

-- the sink takes so many bytes in all, and counted no fault unless it has taken them
pub record IsRoomy (room : ℕ) (out : SinkState) : Type 0 where
  pub room_is : out.room ≡ room
  pub most : length out.taken ≤ room
  pub full : (out.faults ≡ 0) ⊎ (length out.taken ≡ room)

-- a source that fails behind its bytes: those that are left, and how often it failed
pub record BrokenState : Type 0 where
  pub left : List ℕ
  pub faults : ℕ

-- it failed only where nothing was left
abbrev pub FailsBehind : BrokenState → Type 0
FailsBehind s = (s.faults ≡ 0) ⊎ (s.left ≡ [])

-- whether the sink took all that it was given
pub data Sink : Type 0 where
  Serves : Sink
  Fails : Sink

-- a part of a text from its front, and not all of it
pub record IsFront (part whole : List ℕ) : Type 0 where
  pub count : ℕ
  pub less : count < length whole
  pub is : part ≡ take count whole

-- A text is told. A sink that serves took all of it, and the status is the text's own; one that fails took a part from its
-- front, and the status is 6.
abbrev pub IsTold : Sink → (own : ℕ) (whole : List ℕ) → (status : ℕ) (taken : List ℕ) → Type 0
IsTold Serves own whole status taken = (status ≡ own) × (taken ≡ whole)
IsTold Fails own whole status taken = (status ≡ 6) × IsFront taken whole

-- .. past this front, which went out whole
abbrev pub IsToldPast : Sink → (own : ℕ) (front rest : List ℕ) → (status : ℕ) (taken : List ℕ) → Type 0
IsToldPast sink own front rest status taken = IsTold sink own (front ++ rest) status taken × (length front ≤ length taken)

-- With room for so many bytes, this is so of a sink that served, and took no more. Or it is so of one that failed: it counted a
-- fault, and took just as many. So a sink serves just where it has room for all that is told.
abbrev pub IsSo : (room : ℕ) (out : SinkState) → (Sink → Type 0) → Type 0
IsSo room out So = ((length out.taken ≤ room) × So Serves) ⊎ ((1 ≤ out.faults) × (length out.taken ≡ room) × So Fails)
