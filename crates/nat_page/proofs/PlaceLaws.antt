-- Between the places of two entries that follow in a page, and behind the last, no entry begins.
use Rattle.std.proofs.Common.{◌≡◌, ℕ, suc, ◌+◌, ◌*◌, ◌<◌, ◌≤◌, List, arith, ap, ◌∙◌, inl, inr, subst}
use Rattle.std.proofs.lemmas.Bool.{cases_order}
use Rattle.flash_words.specs.Pages.{page_words}
use Rattle.flash_words.specs.declared.layout.Layout.{Layout}
use Rattle.page_index.specs.Maps.{entry_count, place_of, IsMap}
use Rattle.page_index.specs.Entries.{Lists, IsEntry, IsMapped}
use Rattle.page_index.proofs.EntryLaws.{page_of_place}
use Rattle.nat_page.specs.Entered.{HasNoPlace}

-- places in a page are those that its own map lists
no_place : (layout : Layout) (words : List ℕ) (page from to : ℕ) → IsMapped layout words → page_words * page ≤ from → to ≤ page_words * page + page_words
    → ((j : ℕ) → j < entry_count words page → from < place_of words page j → place_of words page j < to → ⊥) → HasNoPlace layout words from to
no_place layout words page from to mapped begins ends none v above below place =
    let entry : IsEntry layout words place.0 v = place.1 in
    let P : ℕ → Type 0 = λ p. Lists words p entry.index place.0 v in
    let lists : Lists words page entry.index place.0 v = subst P (page_of_place layout words place.0 v mapped entry ∙ (omega arith)) entry.lists in
    none entry.index lists.listed (omega (arith, lists.place)) (omega (arith, lists.place))

-- between an entry's place and the next entry's
pub between_entries : (layout : Layout) (words : List ℕ) (page i : ℕ) → IsMapped layout words → IsMap words page → suc i < entry_count words page
    → HasNoPlace layout words (place_of words page i) (place_of words page (suc i))
between_entries layout words page i mapped map below =
    no_place layout words page (place_of words page i) (place_of words page (suc i)) mapped (omega arith) (omega (arith, map.inside (suc i) below)) (λ j listed above under. elim (cases_order j i) [
      | inl same ↦ omega (arith, ap (place_of words page) same)
      | inr (inl lower) ↦ omega (arith, (map.ascending j i lower (omega arith)).1)
      | inr (inr higher) ↦ elim (cases_order j (suc i)) [
        | inl same ↦ omega (arith, ap (place_of words page) same)
        | inr (inl lower) ↦ omega arith
        | inr (inr further) ↦ omega (arith, (map.ascending (suc i) j further listed).1)
      ]
    ])

-- between the last entry's place and the page's end
pub behind_last : (layout : Layout) (words : List ℕ) (page i : ℕ) → IsMapped layout words → IsMap words page → suc i ≡ entry_count words page
    → HasNoPlace layout words (place_of words page i) (page_words * page + page_words)
behind_last layout words page i mapped map last =
    no_place layout words page (place_of words page i) (page_words * page + page_words) mapped (omega arith) (omega arith) (λ j listed above under. elim (cases_order j i) [
      | inl same ↦ omega (arith, ap (place_of words page) same)
      | inr (inl lower) ↦ omega (arith, (map.ascending j i lower (omega arith)).1)
      | inr (inr higher) ↦ omega arith
    ])
