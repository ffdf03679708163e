-- Serves private functions and the contracts of `Image`: images as lists of words.
use Rattle.std.specs.Prelude.{ℕ, ◌*◌, ◌≤◌, ◌<◌, ◌^◌, List, length, All}

-- the most words of an image, and the most bytes
abbrev pub most_words : ℕ
most_words = 24576

abbrev pub most_bytes : ℕ
most_bytes = 2 * most_words

-- at most so many words, each of 16 bits
pub record IsImage (words : List ℕ) : Type 0 where
  pub few : length words ≤ most_words
  pub small : All (λ word. word < 2 ^ 16) words
