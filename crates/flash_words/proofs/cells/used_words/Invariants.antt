use Rattle.std.proofs.Common.{◌≡◌, ◌≤◌}
use Rattle.std.specs.Prelude.{◌%◌}
use Rattle.flash_words.specs.Pages.{page_words}
use Rattle.flash_words.specs.JumpSets.{IsBlankFrom}
use Rattle.flash_words.proofs.cells.used_words.Given as goal

-- the last blocks, which were looked at, are 0xFFFF
abbrev pub invariant-behind : goal.invariant-behind
invariant-behind l = record {
  whole : l.count % 16 ≡ 0;
  inside : l.count ≤ page_words;
  blank : IsBlankFrom l.words l.count;
}

-- the words that are left
abbrev pub decreases-behind : goal.decreases-behind
decreases-behind l = l.count
