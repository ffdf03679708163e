use Rattle.std.proofs.Common.{◌≡◌, ℕ, ◌-◌, ◌+◌, ◌≤◌, length, vec_len, max, get_or}
use Rattle.std.specs.Prelude.{None}
use Rattle.hex_image.proofs.places.put_byte.Given as goal

-- the slots so far are the ones before, and none behind them is given
abbrev pub invariant-grow : goal.invariant-grow
invariant-grow l = record {
  grown : length l.slots.items ≤ max (l.place + 1) (length l.fn.slots.items);
  kept : length l.fn.slots.items ≤ length l.slots.items;
  same : (p : ℕ) → get_or l.slots.items p None ≡ get_or l.fn.slots.items p None;
}

abbrev pub decreases-grow : goal.decreases-grow
decreases-grow l = l.place + 1 - vec_len l.slots
