use Rattle.std.proofs.Common.{◌≡◌, ℕ, ◌+◌, ◌<◌, false}
use Rattle.std.specs.Prelude.{slice_index}
use Rattle.flash_words.proofs.cells.is_used.Given as goal

-- the words so far are 0xFFFF, where that is told
abbrev pub invariant-words : goal.invariant-words
invariant-words l = l.any ≡ false → (j : ℕ) → j < l.i → slice_index l.words (l.first + j) ≡ 0xFFFF
