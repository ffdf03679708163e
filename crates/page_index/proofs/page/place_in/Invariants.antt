use Rattle.std.proofs.Common.{ℕ, ◌+◌, ◌/◌, ◌%◌, ◌<◌, ◌≢◌}
use Rattle.page_index.specs.Maps.{page_word}
use Rattle.page_index.proofs.page.place_in.Given as goal

-- no entry before is of the address
abbrev pub invariant-loop-i : goal.invariant-loop-i
invariant-loop-i l = (k : ℕ) → k < l.i → page_word l.flash.words l.page (2 + k) / 256 ≢ l.t % 128
