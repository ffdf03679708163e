use Rattle.std.proofs.Common.{◌≡◌, ℕ, ◌<◌, length}
use Rattle.flash_words.specs.Pages.{page_count}
use Rattle.flash_words.specs.JumpSets.{HasSet, IsSourceOfEach}
use Rattle.flash_words.proofs.jumps.Jumps.new.Given as goal

-- each page so far has its set, and is a source of each page of that
abbrev pub invariant-pages : goal.invariant-pages
invariant-pages l = record {
  sized : length l.jumps.sets.items ≡ page_count;
  sources_sized : length l.jumps.sources.items ≡ page_count;
  each : (page : ℕ) → page < l.page → HasSet l.words l.jumps.sets.items page;
  sources : (page : ℕ) → page < l.page → IsSourceOfEach l.jumps.sets.items l.jumps.sources.items page;
}
