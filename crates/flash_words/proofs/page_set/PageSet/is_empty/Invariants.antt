use Rattle.std.proofs.Common.{◌≡◌, ℕ, ◌<◌}
use Rattle.std.specs.Prelude.{slice_index}
use Rattle.flash_words.proofs.page_set.PageSet.is_empty.Given as goal

-- the words so far have no bit
abbrev pub invariant-words : goal.invariant-words
invariant-words l = (j : ℕ) → j < l.i → slice_index l.self.bits j ≡ 0
