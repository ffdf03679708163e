use Rattle.std.proofs.Common.{◌≤◌, length, map, string_bytes}
use Rattle.tk_watch.proofs.ViewWordsLaws.{IsFront}
use Rattle.tk_watch.proofs.words.visits.Given as goal

abbrev pub invariant-places : goal.invariant-places
invariant-places l = record {
  front : IsFront (map string_bytes l.words) l.places.items (map string_bytes l.rest);
  few : length l.places.items ≤ 16;
}

abbrev pub decreases-places : goal.decreases-places
decreases-places l = length l.rest
