-- The pool by its numbers, and a faithful flash in the reader's words.
use Rattle.std.proofs.Common.{◌≡◌, ℕ, ◌+◌, ◌*◌, ◌/◌, ◌%◌, ◌<◌, ◌≤◌, ◌⊎◌, inl, inr, true, false, nat_le, if◌then◌else◌, List, length, slice_index, Option, Some, None, refl, sym, ap, ap₂, ◌∙◌, arith}
use Rattle.std.proofs.Common.{subst}
use Rattle.std.specs.Prelude.{IfSome}
use Rattle.base.proofs.ManyLaws.{get_or-many}
use Rattle.flash_words.specs.declared.layout.Layout.{Layout}
use Rattle.flash_words.specs.Layouts.{layout_of}
use Rattle.flash_words.specs.Pages.{page_of, blank, page_words}
use Rattle.flash_words.proofs.LayoutLaws.{layout_right}
use Rattle.flash_words.proofs.PageLaws as pages
use Rattle.page_index.specs.Maps.{IsPool, IsFree, IsMap, original_page, address_of, place_of}
use Rattle.page_index.specs.Entries.{Lists, IsEntry, IsMapped}
use Rattle.nat_page.specs.Faithful.{IsFaithful}
use Rattle.pool_check.proofs.CheckedLaws.{code_checked}
use Rattle.branch_bridge.specs.declared.rewriting.Torn.{Torn}
use Rattle.branch_bridge.specs.Operating.{with_torn}
use Rattle.branch_bridge.specs.Tried.{IsTorn}
use Rattle.theorem_reader.specs.Pools.{pool_from, IsInPool, AreFaithful, AreFaithfulBut, Whole, Lacking, IsPlaceOf, HasAddress}

-- the layout's pool begins at this word, and ends where the kernel begins
pub record Begins (from : ℕ) (layout : Layout) : Type 0 where
  pub first : from ≡ 128 * layout.pool_first
  pub end : layout.pool_first + layout.pool_pages ≡ 480

pub pool_begins : (image : List ℕ) → Begins (pool_from image) (layout_of (length image))
pool_begins image = elim (nat_le (length image) 16384) as
    (λ b. Begins (if b then 0x4000 else 0x6000) (record { image_words = length image; pool_first = if b then 128 else 192; pool_pages = if b then 352 else 288 })) [
      | true ↦ record { first = refl; end = refl }
      | false ↦ record { first = refl; end = refl }
    ]

-- the pool by its numbers
pub in_pool : (image : List ℕ) (page : ℕ) → IsInPool image page → IsPool (layout_of (length image)) page
in_pool image page inside =
    let begins = pool_begins image in
    record { from = omega (arith, begins.first, inside.low); to = omega (arith, begins.end, inside.high) }

pub from_pool : (image : List ℕ) (page : ℕ) → IsPool (layout_of (length image)) page → IsInPool image page
from_pool image page pool =
    let begins = pool_begins image in
    record { low = omega (arith, begins.first, pool.from); high = omega (arith, begins.end, pool.to) }

pub blank_word : (words : List ℕ) (page k : ℕ) → IsFree words page → k < 128 → slice_index words (128 * page + k) ≡ 0xFFFF
unfolding blank
blank_word words page k free below = sym (pages.page_word words page k below) ∙ ap (λ (w : List ℕ). slice_index w k) free ∙ get_or-many page_words 0xFFFF k below

pub first_word : (words : List ℕ) (page : ℕ) → original_page words page ≡ slice_index words (128 * page)
first_word words page = let at : 128 * page + 0 ≡ 128 * page = omega arith in ap (slice_index words) at

pub address_same : (words : List ℕ) (page i : ℕ) → address_of words page i ≡ 128 * slice_index words (128 * page) + slice_index words (128 * page + 2 + i) / 256
address_same words page i =
    let at : 128 * page + 0 ≡ 128 * page = omega arith in
    let behind : 128 * page + (2 + i) ≡ 128 * page + 2 + i = omega arith in
    ap₂ (λ a b. 128 * slice_index words a + slice_index words b / 256) at behind

place_same : (words : List ℕ) (page i : ℕ) → place_of words page i ≡ 128 * page + slice_index words (128 * page + 2 + i) % 256
place_same words page i =
    let behind : 128 * page + (2 + i) ≡ 128 * page + 2 + i = omega arith in
    ap (λ b. 128 * page + slice_index words b % 256) behind

-- the place of an entry, where each page of the pool is free or has a map
-- an entry of a page
abbrev pub address_of_entry : (words : List ℕ) (page i t v : ℕ) → Lists words page i t v → HasAddress words page t
address_of_entry words page i t v lists =
    record { index = i; used = subst (λ w. w < 192) (first_word words page) lists.used; most = lists.near; inside = lists.listed; is = lists.address ∙ address_same words page i }

pub map_of : (layout : Layout) (words : List ℕ) (page i t v : ℕ) → IsFree words page ⊎ IsMap words page → Lists words page i t v → IsMap words page
map_of layout words page i t v (inl free) lists =
    absurd (omega (arith, lists.used, first_word words page, (let at : 128 * page + 0 ≡ 128 * page = omega arith in ap (slice_index words) (sym at) ∙ blank_word words page 0 free (omega arith))))
map_of layout words page i t v (inr map) lists = map

pub place_listed : (image words : List ℕ) (t v : ℕ) → (entry : IsEntry (layout_of (length image)) words t v) → IsMap words entry.page → IsPlaceOf image words t v
place_listed image words t v entry map =
    let behind : 128 * entry.page + (2 + entry.index) ≡ 128 * entry.page + 2 + entry.index = omega arith in
    record {
      page = entry.page;
      pool = from_pool image entry.page entry.pool;
      entry = address_of_entry words entry.page entry.index t v entry.lists;
      place = entry.lists.place ∙ place_same words entry.page entry.index;
      fits = subst (λ a. slice_index words a % 256 < 128) behind (map.inside entry.index entry.lists.listed);
    }

pub place_is : (image words : List ℕ) (t v : ℕ) → IsMapped (layout_of (length image)) words → IsEntry (layout_of (length image)) words t v → IsPlaceOf image words t v
place_is image words t v mapped entry = place_listed image words t v entry (map_of (layout_of (length image)) words entry.page entry.index t v (mapped.pages entry.page entry.pool) entry.lists)

-- .. and back
pub entry_is : (image words : List ℕ) (t v : ℕ) → IsPlaceOf image words t v → IsEntry (layout_of (length image)) words t v
entry_is image words t v place = record {
  page = place.page;
  index = place.entry.index;
  pool = in_pool image place.page place.pool;
  lists = record {
    used = subst (λ w. w < 192) (sym (first_word words place.page)) place.entry.used;
    near = place.entry.most;
    listed = place.entry.inside;
    address = place.entry.is ∙ sym (address_same words place.page place.entry.index);
    place = place.place ∙ sym (place_same words place.page place.entry.index);
  };
}

-- it is in the pool
pub place_low : (image words : List ℕ) (t v : ℕ) → IsPlaceOf image words t v → (pool_from image ≤ v) × (v < 0xF000)
place_low image words t v place = (omega (arith, place.place, place.pool.low), omega (arith, place.place, place.pool.high, place.fits))

pub faithful_is : (image words : List ℕ) → length image ≤ 24576 → IsFaithful (layout_of (length image)) image words → AreFaithful image words
unfolding page_of
faithful_is image words few faithful =
    let checked = code_checked (layout_of (length image)) image words (layout_right (length image) few) faithful in
    record {
      forms = checked.forms;
      links = λ page inside. checked.links page (in_pool image page inside);
      held = faithful.held;
      erased = λ a low high. faithful.erased a low (omega (arith, (pool_begins image).first, high));
      kernel = λ a low high. faithful.kernel a low (omega (arith, high));
    }

-- .. but for a page that is torn
pub but_is : (image words : List ℕ) (torn : Option Torn) → length image ≤ 24576 → IsFaithful (layout_of (length image)) image (with_torn words torn)
    → IfSome torn (IsTorn (layout_of (length image)) words) → AreFaithfulBut image words
but_is image words None few faithful torn = Whole (faithful_is image words few faithful)
but_is image words (Some torn) few faithful is =
    Lacking torn.page torn.words (from_pool image torn.page is.pool) (λ k below. blank_word words torn.page k is.blank below) is.size (faithful_is image _ few faithful)
