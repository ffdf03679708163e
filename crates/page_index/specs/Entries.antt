-- Entries: where a pool page lists an original address.
use Rattle.std.specs.Prelude.{◌≡◌, ℕ, ◌+◌, ◌*◌, ◌<◌, ◌⊎◌, Bool, true, false, List, length, slice_index_or}
use Rattle.flash_words.specs.Pages.{page_words}
use Rattle.flash_words.specs.declared.layout.Layout.{Layout}
use Rattle.flash_words.specs.Layouts.{most_image_pages, most_entries}
use Rattle.page_index.specs.Maps.{IsPool, IsFree, IsMap, original_page, entry_count, address_of, place_of}

-- entry i of the page is of the address t, at the place v of flash
pub record Lists (words : List ℕ) (page i t v : ℕ) : Type 0 where
  pub used : original_page words page < most_image_pages
  pub near : i < most_entries
  pub listed : i < entry_count words page
  pub address : t ≡ address_of words page i
  pub place : v ≡ place_of words page i

-- some page of the pool has an entry of t, at the place v
pub record IsEntry (layout : Layout) (words : List ℕ) (t v : ℕ) : Type 0 where
  pub page : ℕ
  pub index : ℕ
  pub pool : IsPool layout page
  pub lists : Lists words page index t v

-- the map's word at this word address of flash lists the entry of t at the place v
pub record IsListed (layout : Layout) (words : List ℕ) (listed t v : ℕ) : Type 0 where
  pub entry : IsEntry layout words t v
  pub word : listed ≡ page_words * entry.page + (2 + entry.index)

-- each page of the pool is free or has a map, and no address has two entries
pub record IsMapped (layout : Layout) (words : List ℕ) : Type 0 where
  pub pages : (page : ℕ) → IsPool layout page → IsFree words page ⊎ IsMap words page
  pub once : (page page' i i' t v v' : ℕ) → IsPool layout page → IsPool layout page' → Lists words page i t v → Lists words page' i' t v' → (page ≡ page') × (i ≡ i')

-- for each address of an original page, by its offset, whether some page of the pool has an entry of it
pub record AreKnown (layout : Layout) (words : List ℕ) (original : ℕ) (known : List Bool) : Type 0 where
  pub size : length known ≡ page_words
  pub found : (k : ℕ) → k < page_words → slice_index_or known k false ≡ true → (v : ℕ) × IsEntry layout words (page_words * original + k) v
  pub only : (k v : ℕ) → k < page_words → IsEntry layout words (page_words * original + k) v → slice_index_or known k false ≡ true
