use Rattle.std.proofs.Common.{◌≡◌, ℕ, ◌<◌}
use Rattle.flash_words.specs.Pages.{word_at}
use Rattle.pool_check.proofs.form.are_all.Given as goal

abbrev pub invariant-loop-k : goal.invariant-loop-k
invariant-loop-k l = (j : ℕ) → j < l.k → word_at l.words j ≡ l.word
