-- The heap stays in order where the kernel writes its own cells.
use Rattle.std.proofs.Common.{◌≡◌, ℕ, ◌+◌, ◌<◌, ◌≤◌, List, sym, subst, inl}
use Rattle.sram_layout.specs.Bytes.{with_byte, with_word}
use Rattle.heap_frames.specs.Paged.{IsPaged}
use Rattle.heap_frames.proofs.SamePagingLaws.{same_paging_byte, same_paging_word, paged_same}

pub paged_byte : (m n : List ℕ) (w : List (List ℕ)) (a v : ℕ) → n ≡ with_byte m a v → 0x0100 ≤ a → a < 0x0120 → IsPaged m w → IsPaged n w
paged_byte m n w a v is from to paged =
    let P : List ℕ → Type 0 = λ x. IsPaged x w in
    subst P (sym is) (paged_same m (with_byte m a v) w (same_paging_byte m a v from (inl to)) paged)

pub paged_word : (m n : List ℕ) (w : List (List ℕ)) (a v : ℕ) → n ≡ with_word m a v → 0x0100 ≤ a → a + 1 < 0x0120 → IsPaged m w → IsPaged n w
paged_word m n w a v is from to paged =
    let P : List ℕ → Type 0 = λ x. IsPaged x w in
    subst P (sym is) (paged_same m (with_word m a v) w (same_paging_word m a v from (inl to)) paged)
