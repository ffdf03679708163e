-- What stays of maps and entries where flash changes: pages that are alike list the same, and a pool
-- stays mapped where one free page gets a map.
use Rattle.std.proofs.Common.{◌≡◌, ℕ, ◌+◌, ◌*◌, ◌/◌, ◌%◌, ◌<◌, ◌≤◌, List, length, arith, sym, ap, ap₂, subst, ◌∙◌, inl, inr}
use Rattle.std.specs.Prelude.{◌≢◌}
use Rattle.std.proofs.lemmas.Bool.{cases_eq, cases_lt}
use Rattle.flash_words.specs.Pages.{word_count, page_words, set_page}
use Rattle.flash_words.specs.Layouts.{IsRight}
use Rattle.flash_words.specs.Memory.{loaded}
use Rattle.flash_words.specs.declared.layout.Layout.{Layout}
use Rattle.flash_words.proofs.PageLaws as pages
use Rattle.flash_words.proofs.LoadedLaws.{loaded_page}
use Rattle.page_index.specs.Maps.{IsPool, page_word, entry_count, address_of, place_of, IsFree, IsMap}
use Rattle.page_index.specs.Entries.{Lists, IsEntry, IsMapped}
use Rattle.page_index.proofs.MapLaws.{map_bound, free_lists_nothing, same_address}
use Rattle.base.proofs.Numbers.{unequal}

-- the page has the same words in both
pub record SamePage (words words' : List ℕ) (page : ℕ) : Type 0 where
  pub word : (k : ℕ) → k < page_words → page_word words page k ≡ page_word words' page k

module _ (words words' : List ℕ) (page : ℕ) where
  pub same_back : SamePage words words' page → SamePage words' words page
  same_back same = record { word = λ k below. sym (same.word k below) }

  -- it lists the same
  pub lists_alike : (i t v : ℕ) → SamePage words words' page → Lists words page i t v → Lists words' page i t v
  lists_alike i t v same lists =
      let first = same.word 0 (omega arith) in
      let entry = same.word (2 + i) (omega (arith, lists.near)) in
      record {
        used = omega (arith, first, lists.used);
        near = lists.near;
        listed = omega (arith, same.word 1 (omega arith), lists.listed);
        address = lists.address ∙ ap₂ (λ original word. page_words * original + word / 256) first entry;
        place = lists.place ∙ ap (λ word. page_words * page + word % 256) entry;
      }

  -- it has a map in both
  pub map_alike : SamePage words words' page → IsMap words page → IsMap words' page
  map_alike same map =
      let bound = map_bound words page map in
      let first = same.word 0 (omega arith) in
      let second = same.word 1 (omega arith) in
      let listed : (i : ℕ) → i < entry_count words' page → i < entry_count words page = λ i below. omega arith in
      let entry : (i : ℕ) → i < entry_count words' page → page_word words page (2 + i) ≡ page_word words' page (2 + i) = λ i below. same.word (2 + i) (omega (arith, listed i below)) in
      let address : (i : ℕ) → i < entry_count words' page → address_of words page i ≡ address_of words' page i =
      λ i below. ap₂ (λ original word. page_words * original + word / 256) first (entry i below) in
      let place : (i : ℕ) → i < entry_count words' page → place_of words page i ≡ place_of words' page i = λ i below. ap (λ word. page_words * page + word % 256) (entry i below) in
      record {
        original = omega (arith, first, map.original);
        some = omega (arith, second, map.some);
        offset = λ i below. let P : ℕ → Type 0 = λ word. word / 256 < page_words in subst P (entry i below) (map.offset i (listed i below));
        behind = λ i below. omega (arith, second, entry i below, map.behind i (listed i below));
        inside = λ i below. let P : ℕ → Type 0 = λ word. word % 256 < page_words in subst P (entry i below) (map.inside i (listed i below));
        ascending = λ i j lower below.
            let up = map.ascending i j lower (listed j below) in
            (omega (arith, up.0, address i (omega arith), address j below), omega (arith, up.1, place i (omega arith), place j below));
      }

  pub free_alike : SamePage words words' page → page_words * page + page_words ≤ length words → page_words * page + page_words ≤ length words' → IsFree words page → IsFree words' page
  free_alike same inside inside' free = sym (pages.page_alike words words' page page same.word inside inside') ∙ free

-- a page set leaves every other page
pub page_left : (words new : List ℕ) (page other : ℕ) → length new ≡ page_words → page_words * page + page_words ≤ length words → other ≢ page → SamePage words (set_page words page new) other
page_left words new page other fits inside apart = record {
  word = λ k below.
      sym (pages.word_out_of_page words new page (page_words * other + k) fits inside (elim (cases_lt other page) [
        | inl lower ↦ inl (omega arith)
        | inr level ↦ inr (omega (arith, unequal other page apart level))
      ]));
}

-- an entry stays where a free page is set
pub entry_stays : (layout : Layout) (words new : List ℕ) (page t v : ℕ) → length new ≡ page_words → page_words * page + page_words ≤ length words → IsFree words page → IsEntry layout words t v
    → IsEntry layout (set_page words page new) t v
entry_stays layout words new page t v fits inside free entry =
    let apart : entry.page ≢ page = λ same. free_lists_nothing words page entry.index t v free (let P : ℕ → Type 0 = λ p. Lists words p entry.index t v in subst P same entry.lists) in
    record {
      page = entry.page;
      index = entry.index;
      pool = entry.pool;
      lists = lists_alike words (set_page words page new) entry.page entry.index t v (page_left words new page entry.page fits inside apart) entry.lists;
    }

-- what another page than the one that was set lists was listed before
pub listed_before : (words new : List ℕ) (page other i t v : ℕ) → length new ≡ page_words → page_words * page + page_words ≤ length words → other ≢ page → Lists (set_page words page new) other i t v
    → Lists words other i t v
listed_before words new page other i t v fits inside apart lists =
    lists_alike (set_page words page new) words other i t v (same_back words (set_page words page new) other (page_left words new page other fits inside apart)) lists

pub entry_was : (layout : Layout) (words new : List ℕ) (page other i t v : ℕ) → length new ≡ page_words → page_words * page + page_words ≤ length words → other ≢ page → IsPool layout other
    → Lists (set_page words page new) other i t v → IsEntry layout words t v
entry_was layout words new page other i t v fits inside apart pool lists = record {
  page = other;
  index = i;
  pool = pool;
  lists = listed_before words new page other i t v fits inside apart lists;
}

-- A pool stays mapped where a free page gets a map whose addresses had no entry.
pub still_mapped : (layout : Layout) (words new : List ℕ) (page : ℕ) → IsRight layout → length words ≡ word_count → length new ≡ page_words
    → page < 480 → IsMapped layout words → IsMap (set_page words page new) page
    → ((i t v v' : ℕ) → Lists (set_page words page new) page i t v → IsEntry layout words t v' → ⊥) → IsMapped layout (set_page words page new)
still_mapped layout words new page right whole fits in_front mapped map fresh =
    let words' = set_page words page new in
    let inside : page_words * page + page_words ≤ length words = omega arith in
    let length' : length words' ≡ length words = pages.length-set_page words new page fits inside in
    let left : (other : ℕ) → other ≢ page → SamePage words words' other = λ other apart. page_left words new page other fits inside apart in
    record {
      pages = λ other pool. elim (cases_eq other page) [
        | inl same ↦ inr (rw same map)
        | inr apart ↦ elim (mapped.pages other pool) [
          | inl free ↦ inl (free_alike words words' other (left other apart) (omega (arith, pool.to)) (omega (arith, pool.to, length')) free)
          | inr map ↦ inr (map_alike words words' other (left other apart) map)
        ]
      ];
      once = λ p p' i i' t v v' pool pool' lists lists'. elim (cases_eq p page) [
        | inl same ↦ elim (cases_eq p' page) [
          | inl same' ↦ (same ∙ sym same', same_address words' page i i' t v v' map (rw same at lists) (rw same' at lists'))
          | inr apart' ↦ absurd (fresh i t v v' (rw same at lists) (entry_was layout words new page p' i' t v' fits inside apart' pool' lists'))
        ]
        | inr apart ↦ elim (cases_eq p' page) [
          | inl same' ↦ absurd (fresh i' t v' v (rw same' at lists') (entry_was layout words new page p i t v fits inside apart pool lists))
          | inr apart' ↦
              mapped.once p p' i i' t v v' pool pool' (listed_before words new page p i t v fits inside apart lists) (listed_before words new page p' i' t v' fits inside apart' lists')
        ]
      ];
    }

-- a pool whose pages are all free is mapped, and has no entry
pub free_mapped : (layout : Layout) (words : List ℕ) → ((page : ℕ) → IsPool layout page → IsFree words page) → IsMapped layout words
free_mapped layout words free = record {
  pages = λ page pool. inl (free page pool);
  once = λ page page' i i' t v v' pool pool' lists lists'. absurd (free_lists_nothing words page i t v (free page pool) lists);
}

-- the pool of a new flash has only free pages
pub new_flash_free : (layout : Layout) (image : List ℕ) (page : ℕ) → IsRight layout → length image ≤ layout.image_words → IsPool layout page → IsFree (loaded image) page
new_flash_free layout image page right fits pool =
    loaded_page image page (omega (arith, right.image_below_pool, pool.from)) (omega (arith, right.pool_below_kernel, pool.to))

pub new_flash_mapped : (layout : Layout) (image : List ℕ) → IsRight layout → length image ≤ layout.image_words → IsMapped layout (loaded image)
new_flash_mapped layout image right fits = free_mapped layout (loaded image) (λ page pool. new_flash_free layout image page right fits pool)
