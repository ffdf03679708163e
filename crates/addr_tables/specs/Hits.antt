-- What the tables answer for an original address t, whatever the pool holds (docs/LOADER.md, "The tables of places").
use Rattle.std.specs.Prelude.{ℕ, ◌%◌, ◌==◌, ◌&&◌, not, Bool, if◌then◌else◌, List, [], ◌∷◌, Option, Some, None}
use Rattle.sram_layout.specs.Cells.{entry_at, aside_cell, way_cell}

-- where t's entry of the look-aside table stands, and the two entries of t's set in the two-way table
abbrev pub aside_of : ℕ → ℕ
aside_of t = aside_cell (t % 32)

abbrev pub way_of : ℕ → ℕ → ℕ
way_of t which = way_cell (t % 64) which

-- the entry is of t: its address is t, and it isn't empty
abbrev pub is_of : ℕ × ℕ → ℕ → Bool
is_of entry t = entry.0 == t && not (entry.1 == 0)

-- the place of the first of these entries that is of t
abbrev pub first_place : List (ℕ × ℕ) → ℕ → Option ℕ
first_place [] t = None
first_place (entry ∷ entries) t = if is_of entry t then Some entry.1 else first_place entries t

-- the place that the tables have for t
abbrev pub hit : List ℕ → ℕ → Option ℕ
hit sram t = first_place (entry_at sram (aside_of t) ∷ entry_at sram (way_of t 0) ∷ entry_at sram (way_of t 1) ∷ []) t
