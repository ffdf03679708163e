-- A sequence of numbers below 2 ^ 32.
use Rattle.std.specs.Prelude.{ℕ, ◌+◌, ◌*◌, ◌%◌, ◌^◌}

-- the number that follows x
abbrev pub next_number : ℕ → ℕ
next_number x = (x * 1664525 + 1013904223) % 2 ^ 32
