-- How long a program of several waits, while the others are stepped.
use Rattle.std.specs.Prelude.{◌≡◌, ◌≢◌, ℕ, ◌+◌, ◌*◌, ◌/◌, ◌<◌, ◌≤◌, map, slice_get, slice_index_or, Some, None}
use Rattle.task_turns.specs.Turns.{Player, Turns, tries}
use Rattle.theorem_reader.specs.Tasks.{AskedTasks, reset_of}

-- where the programs stand after so many tries
abbrev pub turns_after : AskedTasks → (count : ℕ) → Turns
turns_after asked count = (tries count (reset_of asked)).turns

-- how many crossings a program has made; 0 where there is none of this number
abbrev pub crossings_of : Turns → (task : ℕ) → ℕ
crossings_of turns task = slice_index_or (map (λ p. p.moment.now.crossings) turns.players) task 0

-- A program has not ended after so many tries, and isn't stepped in any of so many behind them.
pub record Waits (asked : AskedTasks) (task from count : ℕ) : Type 0 where
  pub player : Player
  pub is : slice_get (turns_after asked from).players task ≡ Some player
  pub going : player.end ≡ None
  pub waits : (k : ℕ) → k < count → (turns_after asked (from + k)).running ≢ task

-- while it waits, each other comes to its next checkpoint at most, by its crossings
abbrev pub WaitsForATurnOfEach : Type 0
WaitsForATurnOfEach =
    (asked : AskedTasks) → 1 ≤ asked.quantum → (task from count : ℕ) → Waits asked task from count → (other : ℕ)
    → crossings_of (turns_after asked (from + count)) other ≤ (crossings_of (turns_after asked from) other / asked.quantum + 1) * asked.quantum
