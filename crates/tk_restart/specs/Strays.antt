-- Serves private functions: whether a link leads to an entry, by the words of the page of its place alone. Where
-- each page of the pool is free or has a map, this says what `IsEntry` says (`StrayLaws`).
use Rattle.std.specs.Prelude.{ℕ, zero, suc, ◌+◌, ◌-◌, ◌/◌, ◌%◌, ◌==◌, ◌&&◌, ◌||◌, nat_le, nat_lt, not, Bool, false, List}
use Rattle.flash_words.specs.Pages.{page_words}
use Rattle.flash_words.specs.declared.layout.Layout.{Layout}
use Rattle.flash_words.specs.Layouts.{most_image_pages, most_entries}
use Rattle.page_index.specs.Maps.{page_word, original_page, entry_count, address_of}

-- entry i of the page of a place is of t, and at the place
abbrev pub is_item : List ℕ → (t v i : ℕ) → Bool
is_item words t v i =
    nat_lt i (entry_count words (v / page_words)) && address_of words (v / page_words) i == t && page_word words (v / page_words) (2 + i) % 256 == v % page_words

-- one of the first n is
unfoldable pub are_item : List ℕ → (t v n : ℕ) → Bool
are_item words t v zero = false
are_item words t v (suc n) = is_item words t v n || are_item words t v n

abbrev pub is_listed : List ℕ → (t v : ℕ) → Bool
is_listed words t v = nat_lt (original_page words (v / page_words)) most_image_pages && are_item words t v most_entries

-- a link to t that jumps to v leads to no entry of it
abbrev pub is_stray : Layout → List ℕ → (t v : ℕ) → Bool
is_stray layout words t v =
    not (nat_le layout.pool_first (v / page_words) && nat_lt (v / page_words - layout.pool_first) layout.pool_pages && is_listed words t v)
