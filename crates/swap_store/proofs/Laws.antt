-- One write of a slot and then one read: of the slot written, and of another. pages is the list of the slots' pages.
use Rattle.std.proofs.Common.{◌≡◌, ℕ, ◌<◌, ◌≤◌, List, [], length, arith, ap, ◌∙◌, inl, inr}
use Rattle.std.specs.Prelude.{◌≢◌, slice_index}
use Rattle.std.proofs.lemmas.List.{length-set, get_or-set_same, get_or-set_other, length-replicate, get_or-replicate}
use Rattle.std.proofs.lemmas.Bool.{cases_eq}
use Rattle.swap_store.specs.Slots.{most_slots, page_bytes, page_in, with_page, zero_page, zero_slots, IsWhole}

-- the number of slots stays
pub length-with_page : (pages : List (List ℕ)) (slot : ℕ) (page : List ℕ) → length (with_page pages slot page) ≡ length pages
unfolding with_page
length-with_page pages slot page = length-set pages slot page

-- the slot that was written
pub page_same : (pages : List (List ℕ)) (slot : ℕ) (page : List ℕ) → slot < length pages → page_in (with_page pages slot page) slot ≡ page
unfolding with_page page_in
page_same pages slot page below = get_or-set_same pages slot page [] below

-- another slot
pub page_other : (pages : List (List ℕ)) (slot other : ℕ) (page : List ℕ) → other ≢ slot → page_in (with_page pages slot page) other ≡ page_in pages other
unfolding with_page page_in
page_other pages slot other page apart = get_or-set_other pages slot other page [] apart

-- a page of 256 bytes put into a slot leaves whole slots
pub written_whole : (pages : List (List ℕ)) (slot : ℕ) (page : List ℕ) → IsWhole pages → slot < length pages → length page ≡ page_bytes → IsWhole (with_page pages slot page)
written_whole pages slot page whole below fits = record {
  count = omega (arith, whole.count, length-with_page pages slot page);
  sizes = λ other inside.
      elim (cases_eq other slot) [
        | inl same ↦ ap (λ k. length (page_in (with_page pages slot page) k)) same ∙ ap length (page_same pages slot page below) ∙ fits
        | inr apart ↦ ap length (page_other pages slot other page apart) ∙ whole.sizes other (omega (arith, length-with_page pages slot page))
      ];
}

-- slots of zeros
pub length-zero_page : length zero_page ≡ page_bytes
unfolding zero_page
length-zero_page = length-replicate {A = ℕ} page_bytes 0

pub zero_page_byte : (k : ℕ) → k < page_bytes → slice_index zero_page k ≡ 0
unfolding zero_page
zero_page_byte k below = get_or-replicate {A = ℕ} page_bytes k 0 0 below

pub length-zero_slots : (slots : ℕ) → length (zero_slots slots) ≡ slots
unfolding zero_slots
length-zero_slots slots = length-replicate slots zero_page

pub zero_slot : (slots slot : ℕ) → slot < slots → page_in (zero_slots slots) slot ≡ zero_page
unfolding zero_slots page_in
zero_slot slots slot below = get_or-replicate slots slot zero_page [] below

pub zero_slots_whole : (slots : ℕ) → slots ≤ most_slots → IsWhole (zero_slots slots)
zero_slots_whole slots fits = record {
  count = omega (arith, length-zero_slots slots);
  sizes = λ slot below. ap length (zero_slot slots slot (omega (arith, length-zero_slots slots))) ∙ length-zero_page;
}
