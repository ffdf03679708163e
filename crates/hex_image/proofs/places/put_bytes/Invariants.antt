use Rattle.std.proofs.Common.{◌≡◌, ◌++◌, List, length, take}
use Rattle.std.specs.Prelude.{false, is_some}
use Rattle.std.specs.List.{enumerate_from, list_any, range_with_len}
use Rattle.hex_image.specs.Places.{Cell, byte_given}
use Rattle.hex_image.specs.Reading.{AreSlots}
use Rattle.hex_image.proofs.places.put_bytes.Given as goal

-- the bytes so far have come to the cells
abbrev pub invariant-loop-i : goal.invariant-loop-i
invariant-loop-i l = (cells : List Cell) → AreSlots cells l.fn.slots.items
    → list_any (λ place. is_some (byte_given cells place)) (range_with_len l.start (length l.content)) ≡ false
    → AreSlots (cells ++ take l.i (enumerate_from l.start l.content)) l.slots.items
