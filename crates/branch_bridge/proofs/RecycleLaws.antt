-- A page that no other page leads into is erased: the pool is faithful without it.
use Rattle.std.proofs.Common.{◌≡◌, ℕ, ◌+◌, ◌-◌, ◌*◌, ◌/◌, ◌<◌, ◌≤◌, ◌⊎◌, true, List, length, arith, sym, ap, ◌∙◌, inl, inr}
use Rattle.std.specs.Prelude.{◌≢◌}
use Rattle.std.proofs.lemmas.Bool.{cases_eq}
use Rattle.base.proofs.ManyLaws.{length-many}
use Rattle.flash_words.specs.Pages.{page_words, word_at, set_page, blank}
use Rattle.flash_words.specs.Layouts.{IsRight, image_of}
use Rattle.flash_words.specs.declared.layout.Layout.{Layout}
use Rattle.flash_words.proofs.PageLaws.{length-set_page, word_out_of_page, take-set_page, page_same}
use Rattle.page_index.specs.Maps.{IsPool, IsFree}
use Rattle.page_index.specs.Entries.{Lists, IsEntry}
use Rattle.page_index.proofs.ChangeLaws.{SamePage, same_back, lists_alike, free_alike, page_left}
use Rattle.page_index.proofs.MapLaws.{free_lists_nothing}
use Rattle.page_index.proofs.EntryLaws.{page_of_place}
use Rattle.nat_page.specs.Faithful.{IsFaithful}
use Rattle.nat_page.specs.Unlinking.{Outside}
use Rattle.nat_page.specs.Used.{is_used, used_pages}
use Rattle.nat_page.proofs.UsedLaws.{used_among-more, free_unused, same_used, holds_run_used}
use Rattle.page_draft.specs.CodePages.{HoldsRun}
use Rattle.nat_page.specs.Links.{IsUnresolved}
use Rattle.nat_page.proofs.LinkLaws.{link_room}
use Rattle.nat_page.proofs.StayLaws.{holds_alike, held_used, same_run}
use Rattle.nat_page.proofs.FaithfulLaws.{faithful_mapped}
use Rattle.branch_bridge.specs.Unresolving.{IsApart}

length-blank : length blank ≡ page_words
unfolding blank
length-blank = length-many page_words 0xFFFF

-- no other page leads into the victim
pub record IsAlone (layout : Layout) (image words : List ℕ) (victim : ℕ) : Type 0 where
  pub pool : IsPool layout victim
  pub apart : (page : ℕ) → IsPool layout page → page ≢ victim → IsFree words page ⊎ IsApart layout image words victim page

inside_of : (layout : Layout) (image words : List ℕ) (page : ℕ) → IsRight layout → IsFaithful layout image words → IsPool layout page → page_words * page + page_words ≤ length words
inside_of layout image words page right code pool = omega (arith, code.whole, pool.to, right.pool_below_kernel)

module _ (layout : Layout) (image words : List ℕ) (victim : ℕ) where
  pub other_left : (other : ℕ) → IsRight layout → IsFaithful layout image words → IsPool layout victim → other ≢ victim → SamePage words (set_page words victim blank) other
  other_left other right code pool away = page_left words blank victim other length-blank (inside_of layout image words victim right code pool) away

  pub victim_free : IsRight layout → IsFaithful layout image words → IsPool layout victim → IsFree (set_page words victim blank) victim
  victim_free right code pool = page_same words blank victim length-blank (inside_of layout image words victim right code pool)

  -- an entry stays exactly where its place isn't in the victim
  pub entry_left : (a v : ℕ) → IsRight layout → IsFaithful layout image words → IsPool layout victim → IsEntry layout words a v → v / page_words ≢ victim
      → IsEntry layout (set_page words victim blank) a v
  entry_left a v right code pool entry away =
      let own = page_of_place layout words a v (faithful_mapped layout image words right code) entry in
      record {
        page = entry.page;
        index = entry.index;
        pool = entry.pool;
        lists = lists_alike words (set_page words victim blank) entry.page entry.index a v (other_left entry.page right code pool (λ is. away (sym own ∙ is))) entry.lists;
      }

  listed_elsewhere : (page i a v : ℕ) → IsRight layout → IsFaithful layout image words → IsPool layout victim → Lists (set_page words victim blank) page i a v → page ≢ victim
  listed_elsewhere page i a v right code pool lists is =
      free_lists_nothing (set_page words victim blank) victim i a v (victim_free right code pool) (rw is at lists)

  listed_before : (page i a v : ℕ) → IsRight layout → IsFaithful layout image words → IsPool layout victim → Lists (set_page words victim blank) page i a v → Lists words page i a v
  listed_before page i a v right code pool lists =
      let away = listed_elsewhere page i a v right code pool lists in
      lists_alike (set_page words victim blank) words page i a v (same_back words (set_page words victim blank) page (other_left page right code pool away)) lists

  pub entry_before : (a v : ℕ) → IsRight layout → IsFaithful layout image words → IsPool layout victim → IsEntry layout (set_page words victim blank) a v → IsEntry layout words a v
  entry_before a v right code pool entry = record {
    page = entry.page;
    index = entry.index;
    pool = entry.pool;
    lists = listed_before entry.page entry.index a v right code pool entry.lists;
  }

  -- the pool stays faithful
  pub erased_faithful : IsRight layout → IsFaithful layout image words → IsAlone layout image words victim → IsFaithful layout image (set_page words victim blank)
  erased_faithful right code alone =
      let pool = alone.pool in
      let words' = set_page words victim blank in
      let inside = inside_of layout image words victim right code pool in
      let long = length-set_page words blank victim length-blank inside in
      record {
        whole = long ∙ code.whole;
        image_length = code.image_length;
        held = take-set_page words blank victim layout.image_words (omega arith) (omega (arith, right.image_below_pool, pool.from)) ∙ code.held;
        erased = λ a after before. word_out_of_page words blank victim a length-blank inside (inl (omega (arith, pool.from))) ∙ code.erased a after before;
        kernel = λ a after before. word_out_of_page words blank victim a length-blank inside (inr (omega (arith, pool.to, right.pool_below_kernel))) ∙ code.kernel a after before;
        pages = λ page pool'. elim (cases_eq page victim) [
          | inl is ↦ inl (rw is (victim_free right code pool))
          | inr away ↦ elim (alone.apart page pool' away) [
            | inl free ↦ inl (free_alike _ _ _ (other_left page right code pool away) (inside_of _ _ _ _ right code pool') (omega (arith, long, inside_of _ _ _ _ right code pool')) free)
            | inr apart ↦ inr (record {
              first = apart.first;
              last = apart.last;
              holds = holds_alike _ _ _ _ _ _ _ _ (λ a v leads. entry_left a v right code pool leads.0 leads.1) (other_left page right code pool away) apart.holds;
            })
          ]
        ];
        once = λ page page' i i' t v v' q q' lists lists'. code.once page page' i i' t v v' q q' (listed_before page i t v right code pool lists) (listed_before page' i' t v' right code pool lists');
      }

  pub erased_image : IsRight layout → IsFaithful layout image words → IsPool layout victim → image_of layout (set_page words victim blank) ≡ image_of layout words
  erased_image right code pool =
      take-set_page words blank victim layout.image_words (omega (arith, inside_of layout image words victim right code pool)) (omega (arith, right.image_below_pool, pool.from))

  -- a stub of another page that calls the bridge does so still
  pub erased_unresolved : (s t : ℕ) → IsRight layout → IsFaithful layout image words → IsAlone layout image words victim → s / page_words ≢ victim → IsUnresolved layout image words s t
      → IsUnresolved layout image (set_page words victim blank) s t
  erased_unresolved s t right code alone away stub =
      let link = stub.link in
      let page = link.page in
      let words' = set_page words victim blank in
      let room = link_room image page link.first link.last s t link.holds.fits link.link in
      let other : page ≢ victim = λ is. away ((omega arith) ∙ is) in
      let same = other_left page right code alone.pool other in
      let Run : ℕ → ℕ → Type 0 = λ first last. HoldsRun (IsEntry layout words') image words' page first last in
      let holds : Run link.first link.last = elim (alone.apart page link.pool other) [
        | inl free ↦ absurd (held_used (IsEntry layout words) image words page link.first link.last (omega (arith, code.image_length, right.image_fits)) link.holds free)
        | inr apart ↦ (
            let there : Run apart.first apart.last = holds_alike _ _ _ _ _ _ _ _ (λ a v to. entry_left a v right code alone.pool to.0 to.1) same apart.holds in
            let run = same_run (Outside (IsEntry layout words) victim) (IsEntry layout words) image words page apart.first apart.last link.first link.last apart.holds link.holds in
            rw run.1 at (rw run.0 at there))
      ] in
      let word : (x : ℕ) → page_words * page ≤ x → x < page_words * page + page_words → word_at words' x ≡ word_at words x = λ x from to. (
      let here : page_words * page + (x - page_words * page) ≡ x = omega arith in
      sym (ap (word_at words') here) ∙ sym (same.word (x - page_words * page) (omega arith)) ∙ ap (word_at words) here) in
      record {
        link = record { page = page; pool = link.pool; first = link.first; last = link.last; holds = holds; link = link.link };
        call = word s (omega (arith, room)) (omega (arith, room)) ∙ stub.call;
        bridge = word (s + 1) (omega (arith, room)) (omega (arith, room)) ∙ stub.bridge;
      }

  -- one page less is used
  pub erased_used : IsRight layout → IsFaithful layout image words → IsPool layout victim → is_used words victim ≡ true → used_pages layout words ≡ used_pages layout (set_page words victim blank) + 1
  erased_used right code pool used =
      let words' = set_page words victim blank in
      used_among-more _ _ _ _ _ pool.from pool.to (free_unused words' victim (victim_free right code pool)) used (λ other away. sym (same_used _ _ _ (other_left other right code pool away)))

-- where no page is free each is used
pub full_used : (layout : Layout) (image words : List ℕ) (page : ℕ) → IsRight layout → IsFaithful layout image words → ((other : ℕ) → IsPool layout other → IsFree words other → ⊥)
    → IsPool layout page → is_used words page ≡ true
full_used layout image words page right code full pool = elim (code.pages page pool) [
  | inl free ↦ absurd (full page pool free)
  | inr run ↦ holds_run_used (IsEntry layout words) image words page run.first run.last (omega (arith, code.image_length, right.image_fits)) run.holds
]
