use Rattle.std.proofs.Common.{◌≡◌, ◌-◌, ◌≤◌}
use Rattle.std.specs.Prelude.{◌%◌}
use Rattle.flash_words.specs.Pages.{page_words}
use Rattle.flash_words.specs.JumpSets.{HasJumpsBetween}
use Rattle.flash_words.proofs.jumps.jumps_of.Given as goal

-- the jumps of the blocks so far lead into pages of the set
abbrev pub invariant-ahead : goal.invariant-ahead
invariant-ahead l = record {
  whole : l.first % 16 ≡ 0;
  inside : l.first ≤ page_words;
  jumps : HasJumpsBetween 0 l.first l.words l.pages;
}

-- the words that are left
abbrev pub decreases-ahead : goal.decreases-ahead
decreases-ahead l = page_words - l.first
