use Rattle.std.proofs.Common.{◌≡◌, ℕ, ◌+◌, ◌<◌, false}
use Rattle.std.specs.Prelude.{◌≢◌, slice_index}
use Rattle.flash_words.specs.Jumps.{jump_word}
use Rattle.flash_words.proofs.jumps.has_jump.Given as goal

-- none of the words so far is JMP's, where that is told
abbrev pub invariant-words : goal.invariant-words
invariant-words l = l.any ≡ false → (j : ℕ) → j < l.i → slice_index l.words (l.first + j) ≢ jump_word
