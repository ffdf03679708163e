-- A page that holds a run: its map, and where its templates and its closing stand.
use Rattle.std.proofs.Common.{◌≡◌, ℕ, zero, suc, ◌+◌, ◌*◌, ◌/◌, ◌%◌, ◌<◌, ◌≤◌, List, ◌++◌, length, get_or, map, arith, sym, ap, ◌∙◌, subst, ⊎_elim}
use Rattle.std.proofs.lemmas.Bool.{cases_lt}
use Rattle.std.proofs.lemmas.List.FromFn.{get_or-map-range_with_len}
use Rattle.flash_words.specs.Pages.{page_words, word_at}
use Rattle.flash_words.specs.Layouts.{most_image_words}
use Rattle.nat_template.specs.declared.piece.Piece.{Piece}
use Rattle.nat_template.specs.declared.piece.Piece.TheVariants.{Fixed}
use Rattle.page_index.specs.Maps.{page_word, original_page, entry_count, address_of, place_of, IsMap}
use Rattle.page_index.specs.Entries.{Lists}
use Rattle.page_draft.specs.Standing.{Stands, size}
use Rattle.page_draft.specs.Runs.{template_at, closing_at, address, templates}
use Rattle.page_draft.specs.CodePages.{map_words, map_word, place_in_page, code, page_pieces, HoldsRun}
use Rattle.page_draft.proofs.PieceLaws.{stands_split, stands_fixed, size-fixed}
use Rattle.page_draft.proofs.RunLaws.{address-rises, template_at-range, templates-rise, page_size-is, length-map_words}

-- the parts of a page at the word address a
pub record Parts (leads : ℕ → ℕ → Type 0) (image words : List ℕ) (a t last : ℕ) : Type 0 where
  pub original : word_at words a ≡ t / page_words
  pub count : word_at words (a + 1) ≡ suc last
  pub entries : (i : ℕ) → i ≤ last → word_at words (a + (2 + i)) ≡ map_word image t (suc last) i
  pub bodies : Stands leads words (a + (2 + suc last)) (templates image t (suc last))
  pub closing : Stands leads words (a + (2 + suc last + size (templates image t (suc last)))) (closing_at image (address image t last))

-- an item of the map
pub map_words-item : (image : List ℕ) (t n i : ℕ) → i < n → get_or (map_words image t n) i 0 ≡ map_word image t n i
unfolding map_words
map_words-item image t n i below = get_or-map-range_with_len (map_word image t n) 0 n i i 0 below (omega arith)

module _ (leads : ℕ → ℕ → Type 0) (image words : List ℕ) where
  pub parts_of : (a t last : ℕ) → Stands leads words a (page_pieces image t last) → Parts leads image words a t last
  unfolding page_pieces code
  parts_of a t last stands =
      let P : List Piece → ℕ → Type 0 = λ pieces b. Stands leads words b pieces in
      let fixed = map_words image t (suc last) in
      let two = stands_split leads words (a + 1 + 1) (map Fixed fixed) (templates image t (suc last) ++ closing_at image (address image t last)) stands.1.1 in
      let rest = subst (P (templates image t (suc last) ++ closing_at image (address image t last))) (omega (arith, size-fixed fixed, length-map_words image t (suc last))) two.1 in
      let three = stands_split leads words (a + (2 + suc last)) (templates image t (suc last)) (closing_at image (address image t last)) rest in
      record {
        original = stands.0;
        count = stands.1.0;
        entries = λ i near.
            ap (word_at words) (omega arith) ∙ stands_fixed leads words fixed (a + 1 + 1) i two.0 (omega (arith, length-map_words image t (suc last)))
            ∙ map_words-item image t (suc last) i (omega arith);
        bodies = three.0;
        closing = subst (P (closing_at image (address image t last))) (omega arith) three.1;
      }

  -- one of the templates in a row
  one_template : (a t n i : ℕ) → i < n → Stands leads words a (templates image t n) → Stands leads words (a + size (templates image t i)) (template_at image (address image t i))
  one_template a t zero i below stands = absurd (omega arith)
  one_template a t (suc n) i below stands =
      let two = stands_split leads words a (templates image t n) (template_at image (address image t n)) stands in
      ⊎_elim (λ before. one_template a t n i before two.0) (λ same. let is : i ≡ n = omega arith in rw is two.1) (cases_lt i n)

  -- the template of instruction i stands at its place
  pub template_stands : (page t last i : ℕ) → HoldsRun leads image words page t last → i ≤ last
      → Stands leads words (page_words * page + place_in_page image t (suc last) i) (template_at image (address image t i))
  template_stands page t last i holds near =
      let parts = parts_of (page_words * page) t last holds.stands in
      let stands = one_template (page_words * page + (2 + suc last)) t (suc last) i (omega arith) parts.bodies in
      let P : ℕ → Type 0 = λ a. Stands leads words a (template_at image (address image t i)) in
      subst P (omega arith) stands

  -- the places of a page are behind its map and inside it
  pub place_range : (page t last i : ℕ) → HoldsRun leads image words page t last → i ≤ last → (last + 3 ≤ place_in_page image t (suc last) i) × (place_in_page image t (suc last) i < page_words)
  place_range page t last i holds near =
      let rise = templates-rise image t i (suc last) (omega arith) in
      let some = template_at-range image (address image t i) in
      let whole = page_size-is image t last in
      let fits = holds.fits in
      (omega arith, omega arith)

pub place-rises : (image : List ℕ) (t n i j : ℕ) → i < j → place_in_page image t n i < place_in_page image t n j
place-rises image t n i j below =
    let rise = templates-rise image t i j below in
    let some = template_at-range image (address image t i) in
    omega arith

high : (a b : ℕ) → b < 128 → (256 * a + b) / 256 ≡ a
high a b small = omega arith

low : (a b : ℕ) → b < 128 → (256 * a + b) % 256 ≡ b
low a b small = omega arith

in_page : (a t : ℕ) → a / 128 ≡ t / 128 → a ≡ 128 * (t / 128) + a % 128
in_page a t paged = omega arith

module _ (leads : ℕ → ℕ → Type 0) (image words : List ℕ) (page t last i : ℕ) (holds : HoldsRun leads image words page t last) (near : i ≤ last) where
  -- the two parts of a map's word
  pub offset_held : page_word words page (2 + i) / 256 ≡ address image t i % page_words
  offset_held =
      ap (λ w. w / 256) ((parts_of leads image words (page_words * page) t last holds.stands).entries i near) ∙ high _ _ (place_range leads image words page t last i holds near).1

  pub low_held : page_word words page (2 + i) % 256 ≡ place_in_page image t (suc last) i
  low_held =
      ap (λ w. w % 256) ((parts_of leads image words (page_words * page) t last holds.stands).entries i near) ∙ low _ _ (place_range leads image words page t last i holds near).1

  -- the map's entries
  pub address_held : address_of words page i ≡ address image t i
  address_held =
      let parts = parts_of leads image words (page_words * page) t last holds.stands in
      let original : original_page words page ≡ t / page_words = ap (word_at words) (omega arith) ∙ parts.original in
      let offset = offset_held in
      let whole = in_page (address image t i) t (holds.run.paged i near) in
      omega arith

  pub place_held : place_of words page i ≡ page_words * page + place_in_page image t (suc last) i
  place_held = ap (λ place. page_words * page + place) (low_held)

module _ (leads : ℕ → ℕ → Type 0) (image words : List ℕ) (page t last : ℕ) where
  -- the number of the original page, and the number of entries
  pub original_held : HoldsRun leads image words page t last → original_page words page ≡ t / page_words
  original_held holds = ap (word_at words) (omega arith) ∙ (parts_of leads image words (page_words * page) t last holds.stands).original

  pub count_held : HoldsRun leads image words page t last → entry_count words page ≡ suc last
  count_held holds = (parts_of leads image words (page_words * page) t last holds.stands).count

  -- an instruction of the run is listed, and no other address is
  pub lists_held : (i : ℕ) → length image ≤ most_image_words → HoldsRun leads image words page t last → i ≤ last
      → Lists words page i (address image t i) (page_words * page + place_in_page image t (suc last) i)
  lists_held i short holds near =
      let begins : t < length image = holds.run.inside 0 (omega arith) in
      let original = original_held holds in
      let count = count_held holds in
      let range = place_range leads image words page t last i holds near in
      record {
        used = omega arith;
        near = omega arith;
        listed = omega arith;
        address = sym (address_held leads image words page t last i holds near);
        place = sym (place_held leads image words page t last i holds near);
      }

-- entry i of a page that holds a run
pub record IsHeld (image : List ℕ) (page t last i a v : ℕ) : Type 0 where
  pub near : i ≤ last
  pub address : a ≡ address image t i
  pub place : v ≡ page_words * page + place_in_page image t (suc last) i

pub held_listed : (leads : ℕ → ℕ → Type 0) (image words : List ℕ) (page t last i a v : ℕ) → HoldsRun leads image words page t last → Lists words page i a v → IsHeld image page t last i a v
held_listed leads image words page t last i a v holds lists =
    let count = count_held leads image words page t last holds in
    let listed = lists.listed in
    let near : i ≤ last = omega arith in
    record {
      near = near;
      address = lists.address ∙ address_held leads image words page t last i holds near;
      place = lists.place ∙ place_held leads image words page t last i holds near;
    }

-- the page has a map
pub map_held : (leads : ℕ → ℕ → Type 0) (image words : List ℕ) (page t last : ℕ) → length image ≤ most_image_words → HoldsRun leads image words page t last → IsMap words page
map_held leads image words page t last short holds =
    let begins : t < length image = holds.run.inside 0 (omega arith) in
    let original = original_held leads image words page t last holds in
    let count = count_held leads image words page t last holds in
    record {
      original = omega arith;
      some = omega arith;
      offset = λ i below. omega (arith, offset_held leads image words page t last i holds (omega arith));
      behind = λ i below.
          let range = place_range leads image words page t last i holds (omega arith) in
          omega (arith, low_held leads image words page t last i holds (omega arith));
      inside = λ i below.
          let range = place_range leads image words page t last i holds (omega arith) in
          omega (arith, low_held leads image words page t last i holds (omega arith));
      ascending = λ i j lower below. (
        omega (
          arith,
          address_held leads image words page t last i holds (omega arith),
          address_held leads image words page t last j holds (omega arith),
          address-rises image t i j lower,
        ),
        omega (
          arith,
          place_held leads image words page t last i holds (omega arith),
          place_held leads image words page t last j holds (omega arith),
          place-rises image t (suc last) i j lower,
        ),
      );
    }
