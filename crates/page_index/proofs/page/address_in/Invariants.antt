use Rattle.std.proofs.Common.{ℕ, ◌<◌, ◌≢◌}
use Rattle.page_index.specs.Maps.{place_of}
use Rattle.page_index.proofs.page.address_in.Given as goal

-- no entry before has the place
abbrev pub invariant-loop-i : goal.invariant-loop-i
invariant-loop-i l = (k : ℕ) → k < l.i → place_of l.flash.words l.page k ≢ l.place
