-- SRAM while an inline template runs: Z and SREG are in their cells, and all but the cells is the program's.
use Rattle.std.proofs.Common.{◌≡◌, ℕ, ◌+◌, ◌-◌, ◌*◌, ◌<◌, ◌/◌, ◌%◌, ◌≤◌, List, length, arith, ap₂, refl, sym, ◌∙◌, inl, inr}
use Rattle.std.specs.Prelude.{◌≢◌, slice_index}
use Rattle.std.proofs.lemmas.Bool.{cases_eq}
use Rattle.sram_layout.specs.Bytes.{byte_at, with_byte, data_word_at, first_address}
use Rattle.sram_layout.specs.Regions.{stack_window, inline_cells}
use Rattle.sram_layout.proofs.Laws.{length-with_byte, byte_same, byte_other}
use Rattle.sram_layout.specs.Cells.{sreg_cell, vsp_cell, z_cell}
use Rattle.inline_laws.specs.InlineWays.{saved, saved_of, with_pointer, with_pushed}
use Rattle.mote_core.specs.declared.mote.Mote.{Mote}

-- a byte at another address, by one condition
pub byte_apart : (m : List ℕ) (a b v : ℕ) → (first_address ≤ a) × (first_address ≤ b) × (b ≢ a) → byte_at (with_byte m a v) b ≡ byte_at m b
byte_apart m a b v apart = byte_other m a b v apart.0 apart.1 apart.2

-- Z, in halves, and SREG in their cells
pub record Holds (low high status : ℕ) (sram : List ℕ) : Type 0 where
  pub low_held : byte_at sram z_cell ≡ low
  pub high_held : byte_at sram (z_cell + 1) ≡ high
  pub status_held : byte_at sram sreg_cell ≡ status

pub saved_holds : (sram : List ℕ) (low high status : ℕ) → length sram ≡ 4096 → Holds low high status (saved sram low high status)
saved_holds sram low high status long =
    let one = with_byte sram z_cell low in
    let two = with_byte one (z_cell + 1) high in
    record {
      low_held = byte_apart two sreg_cell z_cell status (omega arith) ∙ byte_apart one (z_cell + 1) z_cell high (omega arith) ∙ byte_same sram z_cell low (omega arith) (omega arith);
      high_held = byte_apart two sreg_cell (z_cell + 1) status (omega arith) ∙ byte_same one (z_cell + 1) high (omega arith) (omega (arith, length-with_byte sram z_cell low));
      status_held = byte_same two sreg_cell status (omega arith) (omega (arith, length-with_byte one (z_cell + 1) high, length-with_byte sram z_cell low));
    }

-- another byte written, and the stack pointer
pub holds_still : (low high status : ℕ) (sram : List ℕ) (a v : ℕ) → (vsp_cell ≤ a) × (a ≢ z_cell) × (a ≢ z_cell + 1) → Holds low high status sram → Holds low high status (with_byte sram a v)
holds_still low high status sram a v apart holds = record {
  low_held = byte_apart sram a z_cell v (omega arith) ∙ holds.low_held;
  high_held = byte_apart sram a (z_cell + 1) v (omega arith) ∙ holds.high_held;
  status_held = byte_apart sram a sreg_cell v (omega arith) ∙ holds.status_held;
}

pub pointer_holds : (low high status : ℕ) (sram : List ℕ) (p : ℕ) → Holds low high status sram → Holds low high status (with_pointer sram p)
pointer_holds low high status sram p holds =
    holds_still low high status (with_byte sram vsp_cell (p % 256)) (vsp_cell + 1) (p / 256) (omega arith) (holds_still low high status sram vsp_cell (p % 256) (omega arith) holds)

-- All is the same but the cells of SREG, SP and Z.
pub record SameButCells (m n : List ℕ) : Type 0 where
  pub size : length n ≡ length m
  pub front : (b : ℕ) → first_address ≤ b → b < inline_cells.first → byte_at n b ≡ byte_at m b
  pub bytes : (b : ℕ) → inline_cells.behind ≤ b → byte_at n b ≡ byte_at m b

pub same_cells : (m : List ℕ) → SameButCells m m
same_cells m = record { size = refl; front = λ b from to. refl; bytes = λ b from. refl }

-- a cell written
pub cell_written : (m n : List ℕ) (a v : ℕ) → inline_cells.first ≤ a → a < inline_cells.behind → SameButCells m n → SameButCells m (with_byte n a v)
cell_written m n a v from to same = record {
  size = length-with_byte n a v ∙ same.size;
  front = λ b low high. byte_apart n a b v (omega arith) ∙ same.front b low high;
  bytes = λ b low. byte_apart n a b v (omega arith) ∙ same.bytes b low;
}

pub saved_same : (m : List ℕ) (low high status : ℕ) → SameButCells m (saved m low high status)
saved_same m low high status =
    let one = with_byte m z_cell low in
    let two = with_byte one (z_cell + 1) high in
    cell_written m two sreg_cell status (omega arith) (omega arith)
    (cell_written m one (z_cell + 1) high (omega arith) (omega arith) (cell_written m m z_cell low (omega arith) (omega arith) (same_cells m)))

-- a byte of the program's stack written in both
pub stack_written : (m n : List ℕ) (a v : ℕ) → length m ≡ 4096 → stack_window.first ≤ a → a < stack_window.behind → SameButCells m n → SameButCells (with_byte m a v) (with_byte n a v)
stack_written m n a v long from to same = record {
  size = length-with_byte n a v ∙ same.size ∙ sym (length-with_byte m a v);
  front = λ b low high. byte_apart n a b v (omega arith) ∙ same.front b low high ∙ sym (byte_apart m a b v (omega arith));
  bytes = λ b low. elim (cases_eq b a) [
    | inl here ↦ rw here (byte_same n a v (omega arith) (omega (arith, same.size)) ∙ sym (byte_same m a v (omega arith) (omega arith)))
    | inr apart ↦ byte_apart n a b v (omega arith) ∙ same.bytes b low ∙ sym (byte_apart m a b v (omega arith))
  ];
}

-- the stack pointer, in its cells
pub pointer_byte_saved : (m : List ℕ) (low high status a : ℕ) → vsp_cell ≤ a → a ≤ vsp_cell + 1 → byte_at (saved m low high status) a ≡ byte_at m a
pointer_byte_saved m low high status a from to =
    let one = with_byte m z_cell low in
    let two = with_byte one (z_cell + 1) high in
    byte_apart two sreg_cell a status (omega arith) ∙ byte_apart one (z_cell + 1) a high (omega arith) ∙ byte_apart m z_cell a low (omega arith)

pub pointer_saved : (m : List ℕ) (low high status : ℕ) → data_word_at (saved m low high status) vsp_cell ≡ data_word_at m vsp_cell
unfolding data_word_at
pointer_saved m low high status =
    ap₂ (λ x y. x + 256 * y) (pointer_byte_saved m low high status vsp_cell (omega arith) (omega arith)) (pointer_byte_saved m low high status (vsp_cell + 1) (omega arith) (omega arith))

pub pointer_apart : (m : List ℕ) (a v : ℕ) → inline_cells.behind ≤ a → data_word_at (with_byte m a v) vsp_cell ≡ data_word_at m vsp_cell
unfolding data_word_at
pointer_apart m a v from = ap₂ (λ x y. x + 256 * y) (byte_apart m a vsp_cell v (omega arith)) (byte_apart m a (vsp_cell + 1) v (omega arith))

pub pointer_written : (m : List ℕ) (p : ℕ) → length m ≡ 4096 → data_word_at (with_pointer m p) vsp_cell ≡ p
unfolding data_word_at
pointer_written m p long =
    let one = with_byte m vsp_cell (p % 256) in
    ap₂ (λ x y. x + 256 * y) (byte_apart one (vsp_cell + 1) vsp_cell (p / 256) (omega arith) ∙ byte_same m vsp_cell (p % 256) (omega arith) (omega arith))
    (byte_same one (vsp_cell + 1) (p / 256) (omega arith) (omega (arith, length-with_byte m vsp_cell (p % 256)))) ∙ omega arith

-- and its low half is a byte
pub pointer_low : (m : List ℕ) (p : ℕ) → length m ≡ 4096 → byte_at (with_pointer m p) vsp_cell < 256
pointer_low m p long =
    omega (arith, byte_apart (with_byte m vsp_cell (p % 256)) (vsp_cell + 1) vsp_cell (p / 256) (omega arith), byte_same m vsp_cell (p % 256) (omega arith) (omega arith))

-- SRAM with another pointer, and after a push
pub pointer_same : (m n : List ℕ) (p : ℕ) → SameButCells m n → SameButCells m (with_pointer n p)
pointer_same m n p same = cell_written m (with_byte n vsp_cell (p % 256)) (vsp_cell + 1) (p / 256) (omega arith) (omega arith) (cell_written m n vsp_cell (p % 256) (omega arith) (omega arith) same)

pub pushed_same : (m n : List ℕ) (p x : ℕ) → length m ≡ 4096 → stack_window.first ≤ p → p < stack_window.behind → SameButCells m n → SameButCells (with_byte m p x) (with_pushed n p x)
pushed_same m n p x long from to same = pointer_same (with_byte m p x) (with_byte n p x) (p - 1) (stack_written m n p x long from to same)

-- of the mote's own registers
pub saved_of_same : (m : Mote) → SameButCells m.sram (saved_of m)
saved_of_same m = saved_same m.sram (slice_index m.cpu.r 30) (slice_index m.cpu.r 31) m.cpu.sreg

pub pointer_byte_of : (m : Mote) (a : ℕ) → (vsp_cell ≤ a) × (a ≤ vsp_cell + 1) → byte_at (saved_of m) a ≡ byte_at m.sram a
pointer_byte_of m a within = pointer_byte_saved m.sram (slice_index m.cpu.r 30) (slice_index m.cpu.r 31) m.cpu.sreg a within.0 within.1

pub pointer_of_saved : (m : Mote) → data_word_at (saved_of m) vsp_cell ≡ data_word_at m.sram vsp_cell
pointer_of_saved m = pointer_saved m.sram (slice_index m.cpu.r 30) (slice_index m.cpu.r 31) m.cpu.sreg
