use Rattle.std.proofs.Common.{◌≡◌, ℕ, ◌<◌, true}
use Rattle.flash_words.specs.Pages.{word_at}
use Rattle.kept_drafts.proofs.keeping.are_same.Given as goal

-- where no other word was seen, those that were looked at are the same
abbrev pub invariant-words : goal.invariant-words
invariant-words l = l.same ≡ true → (k : ℕ) → k < l.i → word_at l.words k ≡ word_at l.others k
