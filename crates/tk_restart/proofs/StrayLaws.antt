-- Links that lead to no entry, by the words of one page.
use Rattle.std.proofs.Common.{◌≡◌, ℕ, zero, suc, ◌+◌, ◌-◌, ◌/◌, ◌%◌, ◌<◌, ◌≤◌, Bool, true, false, List, arith, refl, sym, ap, ◌∙◌, inl, inr}
use Rattle.std.specs.Prelude.{◌||◌}
use Rattle.std.proofs.lemmas.Bool.{cases_lt, or_left, or_right}
use Rattle.std.proofs.lemmas.Bool.Decides.{nat_tests}
use Rattle.flash_words.specs.Pages.{page_words}
use Rattle.flash_words.specs.declared.layout.Layout.{Layout}
use Rattle.flash_words.specs.Layouts.{most_image_pages, most_entries}
use Rattle.page_index.specs.Maps.{page_word, original_page, entry_count, address_of}
use Rattle.page_index.specs.Entries.{IsEntry}
use Rattle.page_index.proofs.MapLaws.{map_of_entry}
use Rattle.pool_check.specs.Links.{ArePages}
use Rattle.tk_restart.specs.Strays.{is_item, are_item, is_listed, is_stray}

pub no_item : (words : List ℕ) (t v : ℕ) → are_item words t v 0 ≡ false
unfolding are_item
no_item words t v = refl

pub item_more : (words : List ℕ) (t v i : ℕ) → is_item words t v i ≡ false → are_item words t v i ≡ false → are_item words t v (i + 1) ≡ false
unfolding are_item
item_more words t v i here before =
    let one : i + 1 ≡ suc i = omega arith in
    ap (are_item words t v) one ∙ ap (λ b. b || are_item words t v i) here ∙ before

pub item_among : (words : List ℕ) (t v n i : ℕ) → i < n → is_item words t v i ≡ true → are_item words t v n ≡ true
unfolding are_item
item_among words t v zero i below is = absurd (omega arith)
item_among words t v (suc n) i below is = elim (cases_lt i n) [
  | inl before ↦ or_right (is_item words t v n) (are_item words t v n) (item_among words t v n i before is)
  | inr level ↦ or_left (is_item words t v n) (are_item words t v n) (ap (is_item words t v) (omega arith) ∙ is)
]

-- one of the first n
pub record Found (words : List ℕ) (t v n : ℕ) : Type 0 where
  pub index : ℕ
  pub below : index < n
  pub is : is_item words t v index ≡ true

found_by : (words : List ℕ) (t v n : ℕ) (here : Bool) → is_item words t v n ≡ here → (are_item words t v n ≡ true → Found words t v n) → (here || are_item words t v n) ≡ true → Found words t v (suc n)
found_by words t v n true is before told = record { index = n; below = omega arith; is = is }
found_by words t v n false is before told =
    let found = before told in
    record { index = found.index; below = omega (arith, found.below); is = found.is }

pub item_found : (words : List ℕ) (t v n : ℕ) → are_item words t v n ≡ true → Found words t v n
unfolding are_item
item_found words t v zero is = absurd (cc)
item_found words t v (suc n) is = found_by words t v n (is_item words t v n) refl (item_found words t v n) is

item_parts : (words : List ℕ) (t v i : ℕ) → is_item words t v i ≡ true
    → (i < entry_count words (v / page_words)) × (address_of words (v / page_words) i ≡ t) × (page_word words (v / page_words) (2 + i) % 256 ≡ v % page_words)
item_parts words t v i is = grind (arith, nat_tests)

item_whole : (words : List ℕ) (t v i : ℕ) → i < entry_count words (v / page_words) → address_of words (v / page_words) i ≡ t → page_word words (v / page_words) (2 + i) % 256 ≡ v % page_words
    → is_item words t v i ≡ true
item_whole words t v i listed address place = grind (arith, nat_tests)

module _ (layout : Layout) (words : List ℕ) (t v : ℕ) where
  led_parts : is_stray layout words t v ≡ false
      → (layout.pool_first ≤ v / page_words) × (v / page_words - layout.pool_first < layout.pool_pages) × (original_page words (v / page_words) < most_image_pages)
      × (are_item words t v most_entries ≡ true)
  led_parts is = grind (arith, nat_tests)

  led_whole : layout.pool_first ≤ v / page_words → v / page_words - layout.pool_first < layout.pool_pages → original_page words (v / page_words) < most_image_pages
      → are_item words t v most_entries ≡ true → is_stray layout words t v ≡ false
  led_whole from to original is = grind (arith, nat_tests)

  -- a link that doesn't stray leads to an entry
  pub leads_to : is_stray layout words t v ≡ false → IsEntry layout words t v
  leads_to is =
      let led = led_parts is in
      let found = item_found words t v most_entries led.3 in
      let item = item_parts words t v found.index found.is in
      record {
        page = v / page_words;
        index = found.index;
        pool = record { from = led.0; to = omega (arith, led.0, led.1) };
        lists = record {
          used = led.2;
          near = found.below;
          listed = item.0;
          address = sym item.1;
          place = omega (arith, item.2);
        };
      }

  -- and the other way round, where each page is free or has a map
  pub leads_not_away : ArePages layout words → IsEntry layout words t v → is_stray layout words t v ≡ false
  leads_not_away pages entry =
      let lists = entry.lists in
      let map = map_of_entry words entry.page entry.index t v (pages entry.page entry.pool) lists in
      let inside = map.inside entry.index lists.listed in
      let own : entry.page ≡ v / page_words = omega (arith, lists.place, inside) in
      let there = rw own at lists in
      let pool = rw own at entry.pool in
      led_whole pool.from (omega (arith, pool.from, pool.to)) there.used
      (item_among words t v most_entries entry.index there.near (item_whole words t v entry.index there.listed (sym there.address) (omega (arith, there.place, rw own at inside))))

-- what the search along the entries has found
pub listed_by : (words : List ℕ) (t v : ℕ) → original_page words (v / page_words) < most_image_pages → are_item words t v most_entries ≡ true → true ≡ is_listed words t v
listed_by words t v original is = grind (arith, nat_tests)

-- two words with the same entries
pub same_by : (a b : Bool) → (a ≡ false → b ≡ false) → (b ≡ false → a ≡ false) → a ≡ b
same_by true true on back = refl
same_by true false on back = absurd (let off = back refl in cc)
same_by false b on back = sym (on refl)

pub stray_alike : (layout : Layout) (words words' : List ℕ) (t v : ℕ) → ArePages layout words → ArePages layout words' → (IsEntry layout words t v → IsEntry layout words' t v)
    → (IsEntry layout words' t v → IsEntry layout words t v)
    → is_stray layout words' t v ≡ is_stray layout words t v
stray_alike layout words words' t v pages pages' on back =
    same_by (is_stray layout words' t v) (is_stray layout words t v)
    (λ is. leads_not_away layout words t v pages (back (leads_to layout words' t v is)))
    (λ is. leads_not_away layout words' t v pages' (on (leads_to layout words t v is)))
