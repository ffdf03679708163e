-- The image of several tasks (docs/TASKS.md, "The image"): each has a quarter of 4,096 words.
use Rattle.std.specs.Prelude.{◌≡◌, ◌≢◌, ℕ, ◌*◌, ◌%◌, ◌≤◌, ◌⊎◌, List, map}
use Rattle.std.specs.List.{range_with_len}
use Rattle.avr_isa.specs.Image.{word}

-- the words of a quarter
abbrev pub quarter : ℕ
quarter = 4096

-- a word that flash has where nothing was written
abbrev pub blank : ℕ
blank = 0xFFFF

-- no task's word may stand at this address: it is behind the last quarter, or the last or last but one of a quarter
abbrev pub IsApart : ℕ → ℕ → Type 0
IsApart count address = (quarter * count ≤ address) ⊎ (address % quarter ≡ 4094) ⊎ (address % quarter ≡ 4095)

-- and one stands there
abbrev pub IsMisplaced : ℕ → List ℕ → ℕ → Type 0
IsMisplaced count image address = IsApart count address × (word image address ≢ blank)

-- the least such address
pub record IsFirstMisplaced (count : ℕ) (image : List ℕ) (address : ℕ) : Type 0 where
  pub is : IsMisplaced count image address
  pub least : (other : ℕ) → IsMisplaced count image other → address ≤ other

-- the words of all quarters: those of the image, and blank words behind them
abbrev pub task_words : ℕ → List ℕ → List ℕ
task_words count image = map (word image) (range_with_len 0 (quarter * count))
