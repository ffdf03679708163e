-- What the map of a page says of its entries. words is the list of flash's words.
use Rattle.std.proofs.Common.{◌≡◌, ℕ, ◌+◌, ◌/◌, ◌%◌, ◌<◌, ◌⊎◌, List, arith, refl, sym, ap, ◌∙◌, inl, inr, ⊎_elim}
use Rattle.std.specs.Prelude.{◌≢◌, slice_index}
use Rattle.std.proofs.lemmas.Bool.{cases_order}
use Rattle.flash_words.specs.Pages.{page_words, blank}
use Rattle.flash_words.proofs.PageLaws as pages
use Rattle.base.proofs.ManyLaws.{get_or-many}
use Rattle.page_index.specs.Maps.{page_word, original_page, entry_count, address_of, place_of, IsFree, IsMap}
use Rattle.page_index.specs.Entries.{Lists}

module _ (words : List ℕ) (page : ℕ) where
  -- each word of a free page is 0xFFFF
  pub free_word : (k : ℕ) → k < page_words → IsFree words page → page_word words page k ≡ 0xFFFF
  unfolding blank
  free_word k below free = sym (pages.page_word words page k below) ∙ ap (λ p. slice_index p k) free ∙ get_or-many page_words 0xFFFF k below

  -- a page of a mapped pool is free where its first word says so, and else it has a map
  pub free_by_word : IsFree words page ⊎ IsMap words page → original_page words page ≡ 0xFFFF → IsFree words page
  free_by_word either same = ⊎_elim (λ free. free) (λ map. absurd (omega (arith, map.original))) either

  pub map_by_word : IsFree words page ⊎ IsMap words page → original_page words page ≢ 0xFFFF → IsMap words page
  map_by_word either other = ⊎_elim (λ free. absurd (other (free_word 0 (omega arith) free))) (λ map. map) either

  -- a page that is free lists nothing, and one that lists something has a map
  pub free_lists_nothing : (i t v : ℕ) → IsFree words page → Lists words page i t v → ⊥
  free_lists_nothing i t v free lists = omega (arith, free_word 0 (omega arith) free, lists.used)

  pub map_of_entry : (i t v : ℕ) → IsFree words page ⊎ IsMap words page → Lists words page i t v → IsMap words page
  map_of_entry i t v either lists = map_by_word either (λ same. omega (arith, lists.used))

  -- the map, with the two words before its entries, is shorter than the page
  pub map_bound : IsMap words page → entry_count words page + 2 < page_words
  map_bound map =
      let first : 0 < entry_count words page = map.some in
      omega (arith, map.behind 0 first, map.inside 0 first)

  -- each number below the count is an entry's
  pub lists_entry : (i : ℕ) → IsMap words page → i < entry_count words page → Lists words page i (address_of words page i) (place_of words page i)
  lists_entry i map below = record {
    used = map.original;
    near = omega (arith, map_bound map);
    listed = below;
    address = refl;
    place = refl;
  }

  -- what an entry says, by its address and its place
  pub entry_words : (i t v : ℕ) → IsMap words page → Lists words page i t v
      → (original_page words page ≡ t / page_words) × (page_word words page (2 + i) / 256 ≡ t % page_words) × (page ≡ v / page_words) × (page_word words page (2 + i) % 256 ≡ v % page_words)
  entry_words i t v map lists =
      let offset = map.offset i lists.listed in
      let inside = map.inside i lists.listed in
      (omega (arith, lists.address, offset), omega (arith, lists.address, offset), omega (arith, lists.place, inside), omega (arith, lists.place, inside))

  -- entries of one page at the same address are one
  pub same_address : (i j t v v' : ℕ) → IsMap words page → Lists words page i t v → Lists words page j t v' → i ≡ j
  same_address i j t v v' map one other = elim (cases_order i j) [
    | inl same ↦ same
    | inr (inl lower) ↦ absurd (omega (arith, (map.ascending i j lower other.listed).0, one.address, other.address))
    | inr (inr higher) ↦ absurd (omega (arith, (map.ascending j i higher one.listed).0, one.address, other.address))
  ]

  -- entries of one page at the same place are one
  pub same_place : (i j t t' v : ℕ) → IsMap words page → Lists words page i t v → Lists words page j t' v → i ≡ j
  same_place i j t t' v map one other = elim (cases_order i j) [
    | inl same ↦ same
    | inr (inl lower) ↦ absurd (omega (arith, (map.ascending i j lower other.listed).1, one.place, other.place))
    | inr (inr higher) ↦ absurd (omega (arith, (map.ascending j i higher one.listed).1, one.place, other.place))
  ]
