use Rattle.std.proofs.Common.{◌≡◌, ◌-◌, slice_index_or}
use Rattle.std.specs.Prelude.{None, false, is_some}
use Rattle.std.specs.List.{list_any, range_with_len}
use Rattle.hex_image.proofs.places.is_any_given.Given as goal

-- none so far
abbrev pub invariant-places : goal.invariant-places
invariant-places l = list_any (λ place. is_some (slice_index_or l.slots place None)) (range_with_len l.start (l.place - l.start)) ≡ false
