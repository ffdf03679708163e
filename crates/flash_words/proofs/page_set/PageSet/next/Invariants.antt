use Rattle.std.proofs.Common.{◌≡◌, ◌-◌, ℕ, ◌<◌, ◌≤◌, false}
use Rattle.flash_words.specs.PageSets.{has_page}
use Rattle.flash_words.proofs.page_set.PageSet.next.Given as goal

-- no page so far is in the set
abbrev pub invariant-words : goal.invariant-words
invariant-words l = (l.from ≤ l.page) × ((lower : ℕ) → l.from ≤ lower → lower < l.page → has_page l.self lower ≡ false)

-- the pages that are left
abbrev pub decreases-words : goal.decreases-words
decreases-words l = l.to - l.page
