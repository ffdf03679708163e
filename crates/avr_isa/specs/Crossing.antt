-- Control transfers between pages of flash: a page of the ATmega128 has 128 words (ATmega128
-- datasheet, "Memory Programming").
use Rattle.std.specs.Prelude.{ℕ, ◌/◌, Bool, not, ◌||◌, ◌==◌, nat_le}

-- a step of the pc that goes backward, stays, or leaves its page
abbrev pub is_crossing : ℕ → ℕ → Bool
is_crossing from to = nat_le to from || not (to / 128 == from / 128)
