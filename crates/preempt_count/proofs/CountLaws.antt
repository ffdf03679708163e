-- What a counted step leaves of SRAM: COUNT, every other byte, and the number of bytes.
use Rattle.std.proofs.Common.{◌≡◌, ℕ, ◌<◌, ◌≤◌, Bool, true, false, cond, List, length, refl, arith}
use Rattle.std.specs.Prelude.{◌≢◌}
use Rattle.avr_isa.specs.Crossing.{is_crossing}
use Rattle.sram_layout.specs.Bytes.{byte_at, with_byte}
use Rattle.sram_layout.specs.Cells.{count_cell}
use Rattle.sram_layout.proofs.Laws.{byte_same, byte_other, length-with_byte}
use Rattle.preempt_count.specs.Counting.{count_after, count_over, crossed}

-- COUNT
count_by : (b : Bool) (m : List ℕ) (v : ℕ) → 0 < length m → byte_at (cond b (with_byte m count_cell v) m) count_cell ≡ cond b v (byte_at m count_cell)
count_by true m v some = byte_same m count_cell v (omega arith) (omega arith)
count_by false m v some = refl

pub count_crossed : (q pc t : ℕ) (m : List ℕ) → 0 < length m → byte_at (crossed q pc t m) count_cell ≡ count_over q pc t (byte_at m count_cell)
unfolding crossed
count_crossed q pc t m some = count_by (is_crossing pc t) m (count_after q (byte_at m count_cell)) some

-- every other byte
other_by : (b : Bool) (m : List ℕ) (v a : ℕ) → 0x0100 ≤ a → a ≢ count_cell → byte_at (cond b (with_byte m count_cell v) m) a ≡ byte_at m a
other_by true m v a inside other = byte_other m count_cell a v (omega arith) inside other
other_by false m v a inside other = refl

pub byte_crossed : (q pc t a : ℕ) (m : List ℕ) → 0x0100 ≤ a → a ≢ count_cell → byte_at (crossed q pc t m) a ≡ byte_at m a
unfolding crossed
byte_crossed q pc t a m inside other = other_by (is_crossing pc t) m (count_after q (byte_at m count_cell)) a inside other

-- the number of bytes
length_by : (b : Bool) (m : List ℕ) (v : ℕ) → length (cond b (with_byte m count_cell v) m) ≡ length m
length_by true m v = length-with_byte m count_cell v
length_by false m v = refl

pub length-crossed : (q pc t : ℕ) (m : List ℕ) → length (crossed q pc t m) ≡ length m
unfolding crossed
length-crossed q pc t m = length_by (is_crossing pc t) m (count_after q (byte_at m count_cell))
