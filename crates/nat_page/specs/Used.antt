-- How many pages of the pool are used.
use Rattle.std.specs.Prelude.{ℕ, zero, suc, ◌+◌, ◌==◌, Bool, not, if◌then◌else◌, List}
use Rattle.flash_words.specs.declared.layout.Layout.{Layout}
use Rattle.page_index.specs.Maps.{original_page}

-- Word 0 of a page that is used is the number of its original page, and in one that is free it is erased.
abbrev pub is_used : List ℕ → ℕ → Bool
is_used words page = not (original_page words page == 0xFFFF)

-- of the n pages from the first on
unfoldable pub used_among : List ℕ → (first n : ℕ) → ℕ
used_among words first zero = 0
used_among words first (suc n) = (if is_used words (first + n) then 1 else 0) + used_among words first n

-- of the pool
abbrev pub used_pages : Layout → List ℕ → ℕ
used_pages layout words = used_among words layout.pool_first layout.pool_pages
