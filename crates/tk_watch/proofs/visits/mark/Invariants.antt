use Rattle.std.proofs.Common.{◌≡◌, ◌==◌, ◌||◌, ℕ, ◌<◌, length}
use Rattle.std.specs.Prelude.{slice_index}
use Rattle.tk_watch.specs.VisitsText.{is_among}
use Rattle.tk_watch.proofs.visits.mark.Given as goal

abbrev pub invariant-places : goal.invariant-places
invariant-places l = record {
  marked : (a : ℕ) → a < 65536 → ((slice_index l.marks a == 1) || is_among l.rest a) ≡ is_among l.fn.places.items a;
  size : length l.marks ≡ 65536;
}

abbrev pub decreases-places : goal.decreases-places
decreases-places l = length l.rest
