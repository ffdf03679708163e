-- How often the pages of flash are erased.
use Rattle.std.specs.Prelude.{◌≡◌, ℕ, ◌+◌, ◌*◌, ◌<◌, ◌≤◌, ◌==◌, List, slice_index}
use Rattle.flash_words.specs.Memory.{Memory}
use Rattle.theorem_reader.specs.Pools.{pool_size, number_where, AreFaithful}

-- How many words of a page are 0x940C, which begins a JMP. So begins each stub through which control has gone, and which is a
-- jump since.
abbrev pub jumps_in : List ℕ → (page : ℕ) → ℕ
jumps_in words page = number_where (λ a. slice_index words a == 0x940C) (128 * page) 128

-- the page has the same words before and after
abbrev pub IsSamePage : (before after : List ℕ) → (page : ℕ) → Type 0
IsSamePage before after page = (k : ℕ) → k < 128 → slice_index after (128 * page + k) ≡ slice_index before (128 * page + k)

-- each page was erased at most twice, and one that has the same words in both never
pub record ErasesFew (before after : Memory) : Type 0 where
  pub twice : (page : ℕ) → page < 512 → slice_index after.erases page ≤ slice_index before.erases page + 2
  pub never : (page : ℕ) → page < 512 → IsSamePage before.words after.words page → slice_index after.erases page ≡ slice_index before.erases page

-- From one flash to the other each page was erased at most once for each such word that it has more.
abbrev pub IsSpared : (before after : Memory) → Type 0
IsSpared before after = (page : ℕ) → page < 512 → slice_index after.erases page + jumps_in before.words page ≤ slice_index before.erases page + jumps_in after.words page

-- Flash is faithful. Where the pool held all pages that were made, each page was erased at most once for each word 0x940C, as
-- begins a JMP, that it has more than at first, however many steps there were.
pub record IsWellKept (image : List ℕ) (pages : ℕ) (first last : Memory) : Type 0 where
  pub wear : pages ≤ pool_size image → IsSpared first last
  pub faithful : AreFaithful image last.words
