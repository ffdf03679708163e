use Rattle.std.proofs.Common.{◌≡◌, ℕ, ◌-◌, length}
use Rattle.std.specs.Prelude.{◌≢◌, ◌%◌}
use Rattle.flash_words.specs.Pages.{page_count}
use Rattle.flash_words.specs.JumpSets.{IsSource}
use Rattle.flash_words.proofs.jumps.remove_source_of_each.Given as goal

-- of the other pages none is taken out
abbrev pub invariant-targets : goal.invariant-targets
invariant-targets l = record {
  size : length l.sources.items ≡ page_count;
  others : (target other : ℕ) → other % page_count ≢ l.page % page_count → IsSource l.fn.sources.items target other → IsSource l.sources.items target other;
}

-- the pages that are left
abbrev pub decreases-targets : goal.decreases-targets
decreases-targets l = page_count - l.from
