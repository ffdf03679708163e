-- Addresses, which have 16 bits (AVR Instruction Set Manual, "Program and Data Addressing Modes").
use Rattle.std.specs.Prelude.{ℕ, ◌+◌, ◌-◌, ◌%◌, ℤ, pos, negsuc}

-- sums modulo 65,536
abbrev pub wrapping_sum : ℕ → ℕ → ℕ
wrapping_sum a by = (a + by) % 65536

abbrev pub wrapping_difference : ℕ → ℕ → ℕ
wrapping_difference a by = (a + 65536 - by) % 65536

-- pc + 1 + k
unfoldable pub relative : ℕ → ℤ → ℕ
relative pc (pos n) = (pc + 1 + n) % 65536
relative pc (negsuc n) = (pc + 65536 - n) % 65536
