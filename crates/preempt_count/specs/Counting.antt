-- How a step of the program changes COUNT (docs/LOADER.md, "What a service does"). m is the list of SRAM's bytes.
use Rattle.std.specs.Prelude.{ℕ, ◌-◌, Bool, ◌&&◌, ◌==◌, if◌then◌else◌, List}
use Rattle.avr_isa.specs.Crossing.{is_crossing}
use Rattle.sram_layout.specs.Bytes.{byte_at, with_byte}
use Rattle.sram_layout.specs.Cells.{count_cell}
use Rattle.preempt_count.specs.declared.TheConstants.{BOUND_PER_Q}

-- how many plain steps there are at most between two services, for each crossing of the quantum
abbrev pub bound_per_crossing : ℕ
bound_per_crossing = BOUND_PER_Q

-- the step from pc to t is the last crossing of the quantum
abbrev pub is_checkpoint : (pc t count : ℕ) → Bool
is_checkpoint pc t count = is_crossing pc t && (count == 1)

-- COUNT after a crossing: one less, and after the last the whole quantum again
abbrev pub count_after : (q count : ℕ) → ℕ
count_after q count = if count == 1 then q else count - 1

-- COUNT after the step from pc to t
abbrev pub count_over : (q pc t count : ℕ) → ℕ
count_over q pc t count = if is_crossing pc t then count_after q count else count

-- SRAM after the step from pc to t
unfoldable pub crossed : (q pc t : ℕ) → List ℕ → List ℕ
crossed q pc t m = if is_crossing pc t then with_byte m count_cell (count_after q (byte_at m count_cell)) else m
