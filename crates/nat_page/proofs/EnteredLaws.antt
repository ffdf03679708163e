-- What stands at an entry, and behind it.
use Rattle.std.proofs.Common.{◌≡◌, ℕ, suc, ◌+◌, ◌*◌, ◌<◌, ◌≤◌, List, length, arith, sym, ◌∙◌, inl, inr, subst}
use Rattle.std.proofs.lemmas.Bool.{cases_lt}
use Rattle.flash_words.specs.Pages.{page_words}
use Rattle.flash_words.specs.Layouts.{IsRight, most_image_words}
use Rattle.flash_words.specs.declared.layout.Layout.{Layout}
use Rattle.page_index.specs.Maps.{IsPool}
use Rattle.page_index.specs.Entries.{Lists, IsEntry, IsMapped}
use Rattle.page_index.proofs.MapLaws.{free_lists_nothing}
use Rattle.page_draft.specs.Standing.{size}
use Rattle.page_draft.specs.Runs.{template_at, closing_at, address, templates, next_of}
use Rattle.page_draft.specs.CodePages.{page_pieces, place_in_page, HoldsRun}
use Rattle.nat_page.specs.Links.{IsLinkOf, IsLinkIn}
use Rattle.nat_page.specs.Entered.{HasNoPlace, HasNext, IsLast, Behind, StandsIn}
use Rattle.nat_page.specs.Faithful.{IsFaithful}
use Rattle.page_draft.proofs.RunLaws.{address-rises, size-templates, page_size-is, uncounted}
use Rattle.nat_page.proofs.HeldLaws.{parts_of, template_stands, place_range, place_held, count_held, lists_held, held_listed, map_held}
use Rattle.nat_page.proofs.LinkLaws.{each_link_more, page_links}
use Rattle.nat_page.proofs.PlaceLaws.{between_entries, behind_last}
use Rattle.nat_page.proofs.FaithfulLaws.{faithful_mapped}

-- an entry of an address of the run is one where its links may lead
abbrev pub OwnLead : (leads : ℕ → ℕ → Type 0) (layout : Layout) (image words : List ℕ) (t last : ℕ) → Type 0
OwnLead leads layout image words t last = (i v : ℕ) → i ≤ last → IsEntry layout words (address image t i) v → leads (address image t i) v

-- each link of the page's run is one of `links`
abbrev pub OwnLink : (links : ℕ → ℕ → Type 0) (image : List ℕ) (page t last : ℕ) → Type 0
OwnLink links image page t last = (s to : ℕ) → IsLinkOf (page_pieces image t last) (page_words * page) s to → links s to

module _ (leads links : ℕ → ℕ → Type 0) (layout : Layout) (image words : List ℕ) (page t last : ℕ)
    (short : length image ≤ most_image_words) (mapped : IsMapped layout words) (pool : IsPool layout page) (holds : HoldsRun leads image words page t last)
    (own : OwnLead leads layout image words t last) (each : OwnLink links image page t last) where
  -- instruction i of a page that isn't its last
  next_in : (i : ℕ) → i < last → HasNext leads layout image words (address image t i) (page_words * page + place_in_page image t (suc last) i)
  next_in i before =
      let a = address image t i in
      let v = page_words * page + place_in_page image t (suc last) i in
      let more = size-templates image t i in
      let next : page_words * page + place_in_page image t (suc last) (suc i) ≡ v + size (template_at image a) = omega arith in
      let range = place_range leads image words page t last i holds (omega arith) in
      let range' = place_range leads image words page t last (suc i) holds (omega arith) in
      let there = place_held leads image words page t last i holds (omega arith) in
      let there' = place_held leads image words page t last (suc i) holds (omega arith) in
      let lists = lists_held leads image words page t last (suc i) short holds (omega arith) in
      let count = count_held leads image words page t last holds in
      let alone = between_entries layout words page i mapped (map_held leads image words page t last short holds) (omega arith) in
      record {
        entry = rw next at (own (suc i) _ (omega arith) (record { page = page; index = suc i; pool = pool; lists = lists }));
        uncounted = uncounted a (next_of image a) (address-rises image t i (suc i) (omega arith)) (holds.run.paged (suc i) (omega arith) ∙ sym (holds.run.paged i (omega arith)));
        fits = omega arith;
        alone = rw (there' ∙ next) at (rw there at alone);
      }

  -- the last instruction of a page
  last_in : IsLast leads links layout image words (address image t last) (page_words * page + place_in_page image t (suc last) last)
  last_in =
      let a = address image t last in
      let v = page_words * page + place_in_page image t (suc last) last in
      let more = size-templates image t last in
      let whole = page_size-is image t last in
      let fits = holds.fits in
      let range = place_range leads image words page t last last holds (omega arith) in
      let there = place_held leads image words page t last last holds (omega arith) in
      let place : page_words * page + (2 + suc last + size (templates image t (suc last))) ≡ v + size (template_at image a) = omega arith in
      let alone = behind_last layout words page last mapped (map_held leads image words page t last short holds) (sym (count_held leads image words page t last holds)) in
      let linked = (page_links image (page_words * page) t last last (omega arith)).1 in
      record {
        closing = rw place at (parts_of leads image words (page_words * page) t last holds.stands).closing;
        linked = rw place at (each_link_more _ links _ (closing_at image a) each linked);
        fits = omega arith;
        alone = subst (HasNoPlace layout words v) (omega arith) (rw there at alone);
      }

  -- at each entry of a page that holds a run, whatever the other pages hold: its links lead where `leads` allows,
  -- the entries of the run's own addresses among it, and are among `links`
  pub stands_by : (i a v : ℕ) → Lists words page i a v → StandsIn leads links layout image words a v
  stands_by i a v lists =
      let held = held_listed leads image words page t last i a v holds lists in
      let near : i ≤ last = held.near in
      let range = place_range leads image words page t last i holds near in
      let here = address image t i in
      let there = page_words * page + place_in_page image t (suc last) i in
      let entry : IsEntry layout words here there = record { page = page; index = i; pool = pool; lists = lists_held leads image words page t last i short holds near } in
      let at_i : StandsIn leads links layout image words here there = record {
        inside = holds.run.inside i near;
        pool = subst (IsPool layout) (omega arith) pool;
        place = (here, entry);
        template = template_stands leads image words page t last i holds near;
        linked = each_link_more _ links _ (template_at image here) each (page_links image (page_words * page) t last i near).0;
        behind = elim (cases_lt i last) [
          | inl before ↦ Behind.Next (next_in i before)
          | inr same ↦ let is : i ≡ last = omega arith in rw is (Behind.Closed last_in)
        ];
      } in
      rw held.place (rw held.address at_i)

pub entry_stands : (layout : Layout) (image words : List ℕ) (page t last i a v : ℕ) → length image ≤ most_image_words → IsMapped layout words
    → IsPool layout page → HoldsRun (IsEntry layout words) image words page t last → Lists words page i a v
    → StandsIn (IsEntry layout words) (IsLinkIn layout image words) layout image words a v
entry_stands layout image words page t last i a v short mapped pool holds lists =
    stands_by _ _ layout image words page t last short mapped pool holds (λ j w near entry. entry)
    (λ s to link. record { page = page; pool = pool; first = t; last = last; holds = holds; link = link }) i a v lists

-- at each entry of a pool that holds code
pub entry_law : (layout : Layout) (image words : List ℕ) (a v : ℕ) → IsRight layout → IsFaithful layout image words → IsEntry layout words a v
    → StandsIn (IsEntry layout words) (IsLinkIn layout image words) layout image words a v
entry_law layout image words a v right code entry = elim (code.pages entry.page entry.pool) [
  | inl free ↦ absurd (free_lists_nothing words entry.page entry.index a v free entry.lists)
  | inr run ↦ entry_stands _ _ _ _ _ _ _ _ _ (omega (arith, code.image_length, right.image_fits)) (faithful_mapped _ _ _ right code) entry.pool run.holds entry.lists
]
