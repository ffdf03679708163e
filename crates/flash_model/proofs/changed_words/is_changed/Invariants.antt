use Rattle.std.proofs.Common.{◌≡◌, ℕ, ◌+◌, ◌<◌, false}
use Rattle.std.specs.Prelude.{slice_index}
use Rattle.flash_model.proofs.changed_words.is_changed.Given as goal

-- the words so far are the same, where that is told
abbrev pub invariant-words : goal.invariant-words
invariant-words l = l.any ≡ false → (j : ℕ) → j < l.i → slice_index l.page (l.first + j) ≡ slice_index l.words (l.first + j)
