use Rattle.std.proofs.Common.{◌≡◌, ℕ, ◌-◌, true}
use Rattle.flash_words.specs.PageSets.{has_page}
use Rattle.flash_words.specs.JumpSets.{HasJumpsBetween}
use Rattle.flash_words.proofs.jumps.add_jumps.Given as goal

-- the jumps of the block so far lead into pages of the set, and no page is lost
abbrev pub invariant-words : goal.invariant-words
invariant-words l = record {
  jumps : HasJumpsBetween l.first (l.k - 1) l.words l.pages;
  others : (page : ℕ) → has_page l.fn.pages page ≡ true → has_page l.pages page ≡ true;
}
