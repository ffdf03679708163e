-- One write of SRAM and then one read: at the address written, and elsewhere. m is the list of SRAM's bytes.
use Rattle.std.proofs.Common.{◌≡◌, ℕ, ◌+◌, ◌-◌, ◌*◌, ◌/◌, ◌%◌, ◌<◌, ◌≤◌, ◌⊎◌, List, length, get_or, arith, ap, ap₂, ◌∙◌, sym, inl, inr}
use Rattle.std.specs.Prelude.{◌≢◌, slice_index}
use Rattle.std.proofs.lemmas.List.{length-set, get_or-set_same, get_or-set_other}
use Rattle.sram_layout.specs.Bytes.{byte_at, with_byte, data_word_at, with_word, block_at, with_block}
use Rattle.base.proofs.Pieces.{length-replaced, replaced_in, replaced_below, replaced_above, part_replaced, same_part, part_item, length-part}

-- the length stays
pub length-with_byte : (m : List ℕ) (a v : ℕ) → length (with_byte m a v) ≡ length m
unfolding with_byte
length-with_byte m a v = length-set m (a - 256) v

pub length-with_word : (m : List ℕ) (a w : ℕ) → length (with_word m a w) ≡ length m
unfolding with_word
length-with_word m a w = length-with_byte (with_byte m a (w % 256)) (a + 1) (w / 256) ∙ length-with_byte m a (w % 256)

pub length-with_block : (m new : List ℕ) (a : ℕ) → length new ≡ 256 → 256 ≤ a → a ≤ length m → length (with_block m a new) ≡ length m
unfolding with_block
length-with_block m new a fits from inside = length-replaced (a - 256) 256 m new fits (omega arith)

-- a byte that was written
pub byte_same : (m : List ℕ) (a v : ℕ) → 256 ≤ a → a < 256 + length m → byte_at (with_byte m a v) a ≡ v
unfolding with_byte byte_at
byte_same m a v from to = get_or-set_same m (a - 256) v 0 (omega arith)

-- a byte at another address
pub byte_other : (m : List ℕ) (a b v : ℕ) → 256 ≤ a → 256 ≤ b → b ≢ a → byte_at (with_byte m a v) b ≡ byte_at m b
unfolding with_byte byte_at
byte_other m a b v from from' apart = get_or-set_other m (a - 256) (b - 256) v 0 (λ same. apart (omega arith))

-- the low and the high byte of a word that was written
pub word_low : (m : List ℕ) (a w : ℕ) → 256 ≤ a → a + 1 < 256 + length m → byte_at (with_word m a w) a ≡ w % 256
unfolding with_word
word_low m a w from to =
    byte_other (with_byte m a (w % 256)) (a + 1) a (w / 256) (omega arith) from (λ same. omega arith) ∙ byte_same m a (w % 256) from (omega arith)

pub word_high : (m : List ℕ) (a w : ℕ) → 256 ≤ a → a + 1 < 256 + length m → byte_at (with_word m a w) (a + 1) ≡ w / 256
unfolding with_word
word_high m a w from to =
    byte_same (with_byte m a (w % 256)) (a + 1) (w / 256) (omega arith) (omega (arith, length-with_byte m a (w % 256)))

-- a word that was written
pub word_same : (m : List ℕ) (a w : ℕ) → 256 ≤ a → a + 1 < 256 + length m → data_word_at (with_word m a w) a ≡ w
unfolding data_word_at
word_same m a w from to = ap₂ (λ low high. low + 256 * high) (word_low m a w from to) (word_high m a w from to) ∙ omega arith

-- a byte outside a word that was written
pub byte_out_of_word : (m : List ℕ) (a b w : ℕ) → 256 ≤ a → 256 ≤ b → b ≢ a → b ≢ a + 1 → byte_at (with_word m a w) b ≡ byte_at m b
unfolding with_word
byte_out_of_word m a b w from from' apart apart' =
    byte_other (with_byte m a (w % 256)) (a + 1) b (w / 256) (omega arith) from' apart' ∙ byte_other m a b (w % 256) from from' apart

-- a word of which no byte was written
pub word_out_of_byte : (m : List ℕ) (a b v : ℕ) → 256 ≤ a → 256 ≤ b → b ≢ a → b + 1 ≢ a → data_word_at (with_byte m a v) b ≡ data_word_at m b
unfolding data_word_at
word_out_of_byte m a b v from from' apart apart' =
    ap₂ (λ low high. low + 256 * high) (byte_other m a b v from from' apart) (byte_other m a (b + 1) v from (omega arith) apart')

pub word_other : (m : List ℕ) (a b w : ℕ) → 256 ≤ a → 256 ≤ b → (b + 2 ≤ a) ⊎ (a + 2 ≤ b) → data_word_at (with_word m a w) b ≡ data_word_at m b
unfolding with_word
word_other m a b w from from' apart =
    word_out_of_byte (with_byte m a (w % 256)) (a + 1) b (w / 256) (omega arith) from' (λ same. omega arith) (λ same. omega arith)
    ∙ word_out_of_byte m a b (w % 256) from from' (λ same. omega arith) (λ same. omega arith)

-- a byte inside a block that was written
pub byte_in_block : (m new : List ℕ) (a b : ℕ) → length new ≡ 256 → 256 ≤ a → a ≤ length m → a ≤ b → b < a + 256 → byte_at (with_block m a new) b ≡ slice_index new (b - a)
unfolding with_block byte_at
byte_in_block m new a b fits from inside above below =
    replaced_in (a - 256) 256 (b - 256) m new fits (omega arith) (omega arith) (omega arith) ∙ ap (λ k. get_or new k 0) (omega arith)

-- a byte outside
pub byte_out_of_block : (m new : List ℕ) (a b : ℕ) → length new ≡ 256 → 256 ≤ a → a ≤ length m → 256 ≤ b → (b < a) ⊎ (a + 256 ≤ b) → byte_at (with_block m a new) b ≡ byte_at m b
unfolding with_block byte_at
byte_out_of_block m new a b fits from inside from' (inl below) = replaced_below (a - 256) 256 (b - 256) m new fits (omega arith) (omega arith)
byte_out_of_block m new a b fits from inside from' (inr above) = replaced_above (a - 256) 256 (b - 256) m new fits (omega arith) (omega arith)

-- a block that was written
pub block_same : (m new : List ℕ) (a : ℕ) → length new ≡ 256 → 256 ≤ a → a ≤ length m → block_at (with_block m a new) a ≡ new
unfolding with_block block_at
block_same m new a fits from inside = part_replaced (a - 256) 256 m new fits (omega arith)

-- byte k of a block
pub block_byte : (m : List ℕ) (a k : ℕ) → 256 ≤ a → k < 256 → slice_index (block_at m a) k ≡ byte_at m (a + k)
unfolding block_at byte_at
block_byte m a k from below = part_item (a - 256) 256 k m below ∙ ap (λ j. get_or m j 0) (omega arith)

pub length-block_at : (m : List ℕ) (a : ℕ) → 256 ≤ a → a ≤ length m → length (block_at m a) ≡ 256
unfolding block_at
length-block_at m a from inside = length-part (a - 256) 256 m (omega arith)

-- a block in which no byte changes
pub block_alike : (m m' : List ℕ) (a : ℕ) → 256 ≤ a → length m ≡ length m' → ((b : ℕ) → a ≤ b → b < a + 256 → byte_at m b ≡ byte_at m' b) → block_at m a ≡ block_at m' a
unfolding block_at byte_at
block_alike m m' a from lengths alike = same_part (a - 256) 256 m m' lengths (λ k above below.
    let there : k + 256 - 256 ≡ k = omega arith in
    ap (λ j. get_or m j 0) (sym there) ∙ alike (k + 256) (omega arith) (omega arith) ∙ ap (λ j. get_or m' j 0) there)

-- a block, after a write outside it
pub block_out_of_byte : (m : List ℕ) (a b v : ℕ) → 256 ≤ a → 256 ≤ b → (a < b) ⊎ (b + 256 ≤ a) → block_at (with_byte m a v) b ≡ block_at m b
block_out_of_byte m a b v from from' outside =
    block_alike (with_byte m a v) m b from' (length-with_byte m a v) (λ c above below.
    byte_other m a c v from (omega arith) (λ same. elim outside [ inl left ↦ omega arith | inr right ↦ omega arith ]))
