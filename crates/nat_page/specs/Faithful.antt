-- When a code pool is faithful to the image: all that it holds is rewritten code of the image.
use Rattle.std.specs.Prelude.{◌≡◌, ℕ, ◌*◌, ◌<◌, ◌≤◌, ◌⊎◌, List, length}
use Rattle.flash_words.specs.Pages.{word_count, page_words, word_at}
use Rattle.flash_words.specs.Memory.{kernel_first, return_word}
use Rattle.flash_words.specs.declared.layout.Layout.{Layout}
use Rattle.flash_words.specs.Layouts.{image_of}
use Rattle.page_index.specs.Maps.{IsPool, IsFree}
use Rattle.page_index.specs.Entries.{Lists, IsEntry}
use Rattle.page_draft.specs.CodePages.{HoldsRun}

-- the page holds the run from some address, and its resolved links lead to entries
pub record IsRewritten (layout : Layout) (image words : List ℕ) (page : ℕ) : Type 0 where
  pub first : ℕ
  pub last : ℕ
  pub holds : HoldsRun (IsEntry layout words) image words page first last

-- Flash holds the image from word 0 on, erased words from there to the pool, and RET in the kernel's
-- pages. Each page of the pool is free or holds a run; and no address has two entries.
pub record IsFaithful (layout : Layout) (image words : List ℕ) : Type 0 where
  pub whole : length words ≡ word_count
  pub image_length : length image ≡ layout.image_words
  pub held : image_of layout words ≡ image
  pub erased : (a : ℕ) → layout.image_words ≤ a → a < page_words * layout.pool_first → word_at words a ≡ 0xFFFF
  pub kernel : (a : ℕ) → kernel_first ≤ a → a < word_count → word_at words a ≡ return_word
  pub pages : (page : ℕ) → IsPool layout page → IsFree words page ⊎ IsRewritten layout image words page
  pub once : (page page' i i' t v v' : ℕ) → IsPool layout page → IsPool layout page' → Lists words page i t v → Lists words page' i' t v' → (page ≡ page') × (i ≡ i')
