-- A set of offsets with one more in it, or one less, and the offsets that a page lists.
use Rattle.std.proofs.Common.{◌≡◌, ℕ, zero, suc, ◌+◌, ◌*◌, ◌/◌, ◌<◌, ◌⊎◌, Bool, true, false, List, length, arith, ap, sym, ◌∙◌, inl, inr, ⊎_elim}
use Rattle.std.specs.Prelude.{slice_index_or, slice_set, replicate}
use Rattle.std.proofs.lemmas.Bool.{cases_eq}
use Rattle.std.proofs.lemmas.List.{get_or-set_same, get_or-set_other}
use Rattle.flash_words.specs.Pages.{page_count}
use Rattle.page_index.specs.Maps.{IsFree, IsMap, page_word, original_page, entry_count, address_of, place_of}
use Rattle.page_index.specs.Entries.{Lists}
use Rattle.page_index.proofs.MapLaws.{map_by_word, map_of_entry, entry_words, lists_entry}

pub set_kept : (known : List Bool) (n k : ℕ) → n < length known → slice_index_or known k false ≡ true → slice_index_or (slice_set known n true) k false ≡ true
set_kept known n k below is = elim (cases_eq k n) [
  | inl same ↦ ap (λ b. slice_index_or (slice_set known n true) b false) same ∙ get_or-set_same known n true false below
  | inr apart ↦ get_or-set_other known n k true false apart ∙ is
]

pub set_only : (known : List Bool) (n k : ℕ) → slice_index_or (slice_set known n true) k false ≡ true → (slice_index_or known k false ≡ true) ⊎ (k ≡ n)
set_only known n k is = ⊎_elim inr (λ apart. inl (sym (get_or-set_other known n k true false apart) ∙ is)) (cases_eq k n)

-- none at first
pub none_known : (n k : ℕ) → slice_index_or (replicate n false) k false ≡ true → ⊥
none_known zero k is = absurd (let never : false ≡ true = is in cc)
none_known (suc n) zero is = absurd (let never : false ≡ true = is in cc)
none_known (suc n) (suc k) is = none_known n k is

-- and with one less
pub unset_only : (known : List Bool) (n k : ℕ) → n < length known → slice_index_or (slice_set known n false) k false ≡ true → slice_index_or known k false ≡ true
unset_only known n k below is = elim (cases_eq k n) [
  | inl same ↦ absurd (let never : false ≡ true = sym (get_or-set_same known n false false below) ∙ ap (λ b. slice_index_or (slice_set known n false) b false) (sym same) ∙ is in cc)
  | inr apart ↦ sym (get_or-set_other known n k false false apart) ∙ is
]

pub unset_stays : (known : List Bool) (n k : ℕ) → n < length known → slice_index_or known k false ≡ false → slice_index_or (slice_set known n false) k false ≡ false
unset_stays known n k below is = elim (cases_eq k n) [
  | inl same ↦ ap (λ b. slice_index_or (slice_set known n false) b false) same ∙ get_or-set_same known n false false below
  | inr apart ↦ get_or-set_other known n k false false apart ∙ is
]

pub unset_kept : (known : List Bool) (n k : ℕ) → slice_index_or known k false ≡ true → (slice_index_or (slice_set known n false) k false ≡ true) ⊎ (k ≡ n)
unset_kept known n k is = ⊎_elim inr (λ apart. inl (get_or-set_other known n k false false apart ∙ is)) (cases_eq k n)

-- the offsets of an original page that a page lists: none where it is of another one, and where it is of this one those in its map
module _ (words : List ℕ) (page original : ℕ) (mapped : IsFree words page ⊎ IsMap words page) where
  pub lists_offset : (k i v : ℕ) → k < 128 → Lists words page i (128 * original + k) v → (original_page words page ≡ original) × (page_word words page (2 + i) / 256 ≡ k)
  lists_offset k i v below lists =
      let at = entry_words words page i _ v (map_of_entry words page i _ v mapped lists) lists in
      (omega (arith, at.0), omega (arith, at.1))

  pub own_map : original_page words page ≡ original → original < page_count → IsMap words page
  own_map same low = map_by_word words page mapped (λ blank. omega arith)

  pub offset_listed : (k j : ℕ) → original_page words page ≡ original → original < page_count → j < entry_count words page → page_word words page (2 + j) / 256 ≡ k
      → (i : ℕ) × (v : ℕ) × Lists words page i (128 * original + k) v
  offset_listed k j same low listed offset =
      let lists = lists_entry words page j (own_map same low) listed in
      let address : address_of words page j ≡ 128 * original + k = omega arith in
      (j, place_of words page j, rw address at lists)
