use Rattle.std.proofs.Common.{◌≡◌, ℕ, ◌<◌, ◌≤◌}
use Rattle.std.specs.Prelude.{slice_index}
use Rattle.flash_words.specs.Pages.{page_words}
use Rattle.flash_model.proofs.changed_words.last_changed.Given as goal

-- the words that were looked at are the same
abbrev pub invariant-alike : goal.invariant-alike
invariant-alike l = record {
  order : l.from ≤ l.to;
  size : l.to ≤ page_words;
  same : (k : ℕ) → l.to ≤ k → k < page_words → slice_index l.page k ≡ slice_index l.words k;
}

abbrev pub invariant-words : goal.invariant-words
invariant-words l = record {
  order : l.from ≤ l.to;
  size : l.to ≤ page_words;
  same : (k : ℕ) → l.to ≤ k → k < page_words → slice_index l.page k ≡ slice_index l.words k;
}

-- the words that are left
abbrev pub decreases-alike : goal.decreases-alike
decreases-alike l = l.to

abbrev pub decreases-words : goal.decreases-words
decreases-words l = l.to
