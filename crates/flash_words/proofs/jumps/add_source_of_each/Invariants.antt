use Rattle.std.proofs.Common.{◌≡◌, ℕ, ◌-◌, ◌<◌, length, true}
use Rattle.flash_words.specs.Pages.{page_count}
use Rattle.flash_words.specs.PageSets.{has_page}
use Rattle.flash_words.specs.JumpSets.{IsSource}
use Rattle.flash_words.proofs.jumps.add_source_of_each.Given as goal

-- the page is one of the sources of each page so far
abbrev pub invariant-targets : goal.invariant-targets
invariant-targets l = record {
  size : length l.sources.items ≡ page_count;
  here : (target : ℕ) → target < l.from → has_page l.set target ≡ true → IsSource l.sources.items target l.page;
  others : (target other : ℕ) → IsSource l.fn.sources.items target other → IsSource l.sources.items target other;
}

-- the pages that are left
abbrev pub decreases-targets : goal.decreases-targets
decreases-targets l = page_count - l.from
