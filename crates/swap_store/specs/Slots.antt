-- The swap area as the list of its slots, each a page of 256 bytes (the profile's map: 0 to 251 slots of 256 bytes).
use Rattle.std.specs.Prelude.{◌≡◌, ℕ, ◌<◌, ◌≤◌, List, [], length, slice_index_or, slice_set, replicate}

-- the most slots there are: one for each page of the heap
abbrev pub most_slots : ℕ
most_slots = 251

-- the bytes of a page
abbrev pub page_bytes : ℕ
page_bytes = 256

-- the page in a slot
unfoldable pub page_in : List (List ℕ) → ℕ → List ℕ
page_in pages slot = slice_index_or pages slot []

-- the slots, with this page in one of them
unfoldable pub with_page : List (List ℕ) → ℕ → List ℕ → List (List ℕ)
with_page pages slot page = slice_set pages slot page

-- a page of zeros
unfoldable pub zero_page : List ℕ
zero_page = replicate page_bytes 0

-- this many slots, each a page of zeros
unfoldable pub zero_slots : ℕ → List (List ℕ)
zero_slots slots = replicate slots zero_page

-- there are at most 251 slots, each of 256 bytes
pub record IsWhole (pages : List (List ℕ)) : Type 0 where
  pub count : length pages ≤ most_slots
  pub sizes : (slot : ℕ) → slot < length pages → length (page_in pages slot) ≡ page_bytes
