-- An address has one place and a place one address, and what a pool that stays mapped needs.
use Rattle.std.proofs.Common.{◌≡◌, ℕ, ◌/◌, List, sym, ap₂, subst, ◌∙◌}
use Rattle.flash_words.specs.Pages.{page_words}
use Rattle.flash_words.specs.declared.layout.Layout.{Layout}
use Rattle.page_index.specs.Maps.{address_of, place_of}
use Rattle.page_index.specs.Entries.{Lists, IsEntry, IsMapped}
use Rattle.page_index.proofs.MapLaws.{map_of_entry, entry_words, same_place}

-- an address has one place
pub one_place : (layout : Layout) (words : List ℕ) (t v v' : ℕ) → IsMapped layout words → IsEntry layout words t v → IsEntry layout words t v' → v ≡ v'
one_place layout words t v v' mapped one other =
    let same = mapped.once one.page other.page one.index other.index t v v' one.pool other.pool one.lists other.lists in
    one.lists.place ∙ ap₂ (place_of words) same.0 same.1 ∙ sym other.lists.place

-- a place has one address
pub one_address : (layout : Layout) (words : List ℕ) (t t' v : ℕ) → IsMapped layout words → IsEntry layout words t v → IsEntry layout words t' v → t ≡ t'
one_address layout words t t' v mapped one other =
    let map = map_of_entry words one.page one.index t v (mapped.pages one.page one.pool) one.lists in
    let map' = map_of_entry words other.page other.index t' v (mapped.pages other.page other.pool) other.lists in
    let page : one.page ≡ other.page = (entry_words words one.page one.index t v map one.lists).2 ∙ sym (entry_words words other.page other.index t' v map' other.lists).2 in
    let there : Lists words other.page one.index t v = let P : ℕ → Type 0 = λ p. Lists words p one.index t v in subst P page one.lists in
    let index : one.index ≡ other.index = same_place words other.page one.index other.index t t' v map' there other.lists in
    one.lists.address ∙ ap₂ (address_of words) page index ∙ sym other.lists.address

-- an entry's place lies in its page
pub page_of_place : (layout : Layout) (words : List ℕ) (t v : ℕ) → IsMapped layout words → (entry : IsEntry layout words t v) → entry.page ≡ v / page_words
page_of_place layout words t v mapped entry =
    let map = map_of_entry words entry.page entry.index t v (mapped.pages entry.page entry.pool) entry.lists in
    (entry_words words entry.page entry.index t v map entry.lists).2
