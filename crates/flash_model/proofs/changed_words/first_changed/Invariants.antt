use Rattle.std.proofs.Common.{◌≡◌, ℕ, ◌-◌, ◌<◌}
use Rattle.std.specs.Prelude.{slice_index}
use Rattle.flash_words.specs.Pages.{page_words}
use Rattle.flash_model.proofs.changed_words.first_changed.Given as goal

-- the words so far are the same
abbrev pub invariant-alike : goal.invariant-alike
invariant-alike l = record {
  size : l.from < page_words;
  same : (k : ℕ) → k < l.from → slice_index l.page k ≡ slice_index l.words k;
}

abbrev pub invariant-words : goal.invariant-words
invariant-words l = record {
  size : l.from < page_words;
  same : (k : ℕ) → k < l.from → slice_index l.page k ≡ slice_index l.words k;
}

-- the words that are left
abbrev pub decreases-alike : goal.decreases-alike
decreases-alike l = page_words - l.from

abbrev pub decreases-words : goal.decreases-words
decreases-words l = page_words - l.from
