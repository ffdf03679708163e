-- One write of a part of SRAM and then one read. m is the list of SRAM's bytes.
use Rattle.std.proofs.Common.{◌≡◌, ℕ, ◌+◌, ◌-◌, ◌<◌, ◌≤◌, ◌⊎◌, List, length, get_or, arith, ap, ◌∙◌, refl, inl, inr}
use Rattle.std.specs.Prelude.{slice_index}
use Rattle.sram_layout.specs.Bytes.{byte_at, part_at, with_part}
use Rattle.base.proofs.Pieces.{length-replaced, replaced_in, replaced_below, replaced_above, part_item, length-part}

-- the length stays
pub length-with_part : (m new : List ℕ) (a : ℕ) → 256 ≤ a → a + length new ≤ 256 + length m → length (with_part m a new) ≡ length m
unfolding with_part
length-with_part m new a from inside = length-replaced (a - 256) (length new) m new (refl) (omega arith)

-- a byte of a part that was written
pub byte_in_part : (m new : List ℕ) (a b : ℕ) → 256 ≤ a → a + length new ≤ 256 + length m → a ≤ b → b < a + length new → byte_at (with_part m a new) b ≡ slice_index new (b - a)
unfolding with_part byte_at
byte_in_part m new a b from inside above below =
    replaced_in (a - 256) (length new) (b - 256) m new refl (omega arith) (omega arith) (omega arith) ∙ ap (λ k. get_or new k 0) (omega arith)

-- a byte outside
pub byte_out_of_part : (m new : List ℕ) (a b : ℕ) → 256 ≤ a → a + length new ≤ 256 + length m → 256 ≤ b → (b < a) ⊎ (a + length new ≤ b) → byte_at (with_part m a new) b ≡ byte_at m b
unfolding with_part byte_at
byte_out_of_part m new a b from inside from' (inl below) = replaced_below (a - 256) (length new) (b - 256) m new refl (omega arith) (omega arith)
byte_out_of_part m new a b from inside from' (inr above) = replaced_above (a - 256) (length new) (b - 256) m new refl (omega arith) (omega arith)

-- byte k of a part
pub part_byte : (m : List ℕ) (a n k : ℕ) → 256 ≤ a → k < n → slice_index (part_at m a n) k ≡ byte_at m (a + k)
unfolding part_at byte_at
part_byte m a n k from below = part_item (a - 256) n k m below ∙ ap (λ j. get_or m j 0) (omega arith)

pub length-part_at : (m : List ℕ) (a n : ℕ) → 256 ≤ a → a + n ≤ 256 + length m → length (part_at m a n) ≡ n
unfolding part_at
length-part_at m a n from inside = length-part (a - 256) n m (omega arith)
