-- The states of the streams in memory.
use Rattle.std.specs.Prelude.{ℕ, ◌-◌, List, length}

-- a sink: the bytes that it took, how many it takes in all, and how often it failed
pub record SinkState : Type 0 where
  pub taken : List ℕ
  pub room : ℕ
  pub faults : ℕ

-- how many bytes it still takes
abbrev pub room_left : SinkState → ℕ
room_left s = s.room - length s.taken

-- the numbers of the calls that fail, from 1, and how many calls were made
pub record Schedule : Type 0 where
  pub failing : List ℕ
  pub calls : ℕ

-- a source whose calls may fail: the bytes left, its schedule, and how often it failed
pub record FlakySourceState : Type 0 where
  pub left : List ℕ
  pub schedule : Schedule
  pub faults : ℕ

-- a sink whose calls may fail: the bytes that it took, how many it takes in all, its schedule, and how
-- often it failed
pub record FlakySinkState : Type 0 where
  pub taken : List ℕ
  pub room : ℕ
  pub schedule : Schedule
  pub faults : ℕ

-- a source that gives a few bytes at a time: the bytes left, and how many a read gives at most
pub record SlowSourceState : Type 0 where
  pub left : List ℕ
  pub most : ℕ

-- a sink that takes a few bytes at a time: the bytes that it took, how many it takes in all and how many
-- a write takes at most, and how often it failed
pub record SlowSinkState : Type 0 where
  pub taken : List ℕ
  pub room : ℕ
  pub most : ℕ
  pub faults : ℕ
