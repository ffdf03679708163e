-- One write of a table entry and then one read of an entry.
use Rattle.std.proofs.Common.{◌≡◌, ℕ, ◌+◌, ◌<◌, ◌≤◌, ◌⊎◌, List, length, arith, ap₂, ◌∙◌, inl, inr}
use Rattle.sram_layout.specs.Bytes.{with_byte, with_word}
use Rattle.sram_layout.specs.Cells.{with_frame, entry_at, with_entry}
use Rattle.sram_layout.proofs.Laws.{length-with_byte, length-with_word, word_same, word_other}

pub length-with_entry : (m : List ℕ) (a t place : ℕ) → length (with_entry m a t place) ≡ length m
length-with_entry m a t place = length-with_word (with_word m a t) (a + 2) place ∙ length-with_word m a t

pub length-with_frame : (m : List ℕ) (a page state : ℕ) → length (with_frame m a page state) ≡ length m
length-with_frame m a page state = length-with_byte (with_byte m a page) (a + 1) state ∙ length-with_byte m a page

-- an entry of two words that was written
pub entry_same : (m : List ℕ) (a t place : ℕ) → 256 ≤ a → a + 3 < 256 + length m → entry_at (with_entry m a t place) a ≡ (t, place)
entry_same m a t place from to =
    ap₂ (λ x y. let pair : ℕ × ℕ = (x, y) in pair)
    (word_other (with_word m a t) (a + 2) a place (omega arith) from (inl (omega arith)) ∙ word_same m a t from (omega arith))
    (word_same (with_word m a t) (a + 2) place (omega arith) (omega (arith, length-with_word m a t)))

-- another entry of two words
pub entry_other : (m : List ℕ) (a b t place : ℕ) → 256 ≤ a → 256 ≤ b → (b + 4 ≤ a) ⊎ (a + 4 ≤ b) → entry_at (with_entry m a t place) b ≡ entry_at m b
entry_other m a b t place from from' apart =
    let first : (b + 2 ≤ a) ⊎ (a + 2 ≤ b) = elim apart [ inl below ↦ inl (omega arith) | inr above ↦ inr (omega arith) ] in
    let second : (b + 2 ≤ a + 2) ⊎ (a + 2 + 2 ≤ b) = elim apart [ inl below ↦ inl (omega arith) | inr above ↦ inr (omega arith) ] in
    let third : (b + 2 + 2 ≤ a) ⊎ (a + 2 ≤ b + 2) = elim apart [ inl below ↦ inl (omega arith) | inr above ↦ inr (omega arith) ] in
    let fourth : (b + 2 + 2 ≤ a + 2) ⊎ (a + 2 + 2 ≤ b + 2) = elim apart [ inl below ↦ inl (omega arith) | inr above ↦ inr (omega arith) ] in
    ap₂ (λ x y. let pair : ℕ × ℕ = (x, y) in pair)
    (word_other (with_word m a t) (a + 2) b place (omega arith) from' second ∙ word_other m a b t from from' first)
    (word_other (with_word m a t) (a + 2) (b + 2) place (omega arith) (omega arith) fourth ∙ word_other m a (b + 2) t from (omega arith) third)
