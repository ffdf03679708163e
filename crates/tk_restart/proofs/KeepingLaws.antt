-- What a restart leaves is faithful to the image, whatever the pool held; and it is determined.
use Rattle.std.proofs.Common.{◌≡◌, ℕ, zero, suc, ◌+◌, ◌-◌, ◌<◌, ◌≤◌, ◌&&◌, Bool, true, false, not, List, length, arith, refl, sym, ap, ap₂, ◌∙◌, inl, inr, ⊎_elim}
use Rattle.std.specs.Prelude.{◌⊎◌}
use Rattle.std.proofs.lemmas.Bool.{cases_lt, cases_order, cases_Bool}
use Rattle.flash_words.specs.Pages.{word_count, page_of}
use Rattle.flash_words.specs.Layouts.{IsRight, most_image_words}
use Rattle.flash_words.specs.Memory.{Memory}
use Rattle.flash_words.specs.declared.layout.Layout.{Layout}
use Rattle.page_index.specs.Maps.{IsPool, IsFree, address_of, entry_count}
use Rattle.page_index.specs.Entries.{Lists, IsEntry}
use Rattle.page_index.proofs.MapLaws.{free_lists_nothing, same_address}
use Rattle.page_draft.specs.CodePages.{Anywhere, HoldsRun}
use Rattle.nat_page.specs.Faithful.{IsFaithful, IsRewritten}
use Rattle.nat_page.specs.Unlinking.{with_calls, stubs_where}
use Rattle.nat_page.proofs.HeldLaws.{map_held}
use Rattle.nat_page.proofs.KeptLaws.{lists_again}
use Rattle.nat_page.proofs.StayLaws.{holds_alike, holds_more}
use Rattle.nat_page.proofs.UnlinkLaws.{holds_unlinked}
use Rattle.pool_check.specs.Links.{HaveFormsAround}
use Rattle.flash_dump.specs.WrittenDumps.{is_erased}
use Rattle.pool_check.proofs.CheckedLaws.{below_pool, held_image, kernel_word, outside}
use Rattle.tk_restart.specs.declared.sweeping.Kept.{Kept}
use Rattle.tk_restart.specs.Keeping.{AreKept, IsKeptEntry, AreStray, Keeps, is_dropped}
use Rattle.tk_restart.specs.Restarting.{Restarts}
use Rattle.tk_restart.proofs.CountLaws.{count_same}
use Rattle.tk_restart.proofs.PageLaws.{same_page, all_there}
use Rattle.tk_restart.proofs.StrayLaws.{same_by}
use Rattle.tk_restart.proofs.UnlinkingLaws.{inside_pool, stubs_same, told_run}

-- a page that is kept holds its run before and after, and its links lead to entries that are kept
pub record KeptPage (layout : Layout) (image old new : List ℕ) (kept : ℕ → Bool) (page : ℕ) : Type 0 where
  pub first : ℕ
  pub last : ℕ
  pub before : HoldsRun Anywhere image old page first last
  pub behind : HoldsRun (IsKeptEntry layout old kept) image new page first last

pub kept_page : (layout : Layout) (image old new : List ℕ) (kept : ℕ → Bool) (stray : ℕ → ℕ → Bool) (page : ℕ) → IsRight layout → length old ≡ word_count → Keeps layout image old new kept stray
    → IsPool layout page → kept page ≡ true → KeptPage layout image old new kept page
kept_page layout image old new kept stray page right whole keeps pool is =
    let own = told_run image old page ((keeps.are page pool).0 is).code in
    let first = address_of old page 0 in
    let last = entry_count old page - 1 in
    let leads : ℕ → ℕ → Type 0 = λ t v. IsKeptEntry layout old kept t v in
    let words = with_calls old (stubs_where stray image old page) in
    let holds : HoldsRun leads image words page first last = holds_unlinked _ _ _ _ _ _ _ _ (λ t v any elsewhere. (keeps.strays t v).0 elsewhere) (inside_pool _ _ _ right whole pool) own.holds in
    record {
      first = first;
      last = last;
      before = own.holds;
      behind = holds_alike leads leads image words new page first last (λ t v entry. entry) (same_page words new page (keeps.keeps page pool is)) holds;
    }

module _ (layout : Layout) (image old new : List ℕ) (kept : ℕ → Bool) (page i t v : ℕ) (short : length image ≤ most_image_words) (own : KeptPage layout image old new kept page) where
  -- it lists what it listed
  pub kept_lists : Lists old page i t v → Lists new page i t v
  kept_lists lists =
      lists_again Anywhere (IsKeptEntry layout old kept) image old new page own.first own.last i t v short own.before own.behind lists

  pub lists_before : Lists new page i t v → Lists old page i t v
  lists_before lists =
      lists_again (IsKeptEntry layout old kept) Anywhere image new old page own.first own.last i t v short own.behind own.before lists

module _ (layout : Layout) (image old new : List ℕ) (kept : ℕ → Bool) (stray : ℕ → ℕ → Bool)
    (right : IsRight layout) (whole : length old ≡ word_count) (short : length image ≤ most_image_words) (keeps : Keeps layout image old new kept stray) where
  -- a page that lists anything afterwards is kept
  listed_kept : (page i t v : ℕ) → IsPool layout page → Lists new page i t v → kept page ≡ true
  listed_kept page i t v pool lists =
      ⊎_elim (λ is. is) (λ dropped. absurd (free_lists_nothing new page i t v (keeps.drops page pool dropped) lists)) (cases_Bool (kept page))

  own_page : (page : ℕ) → IsPool layout page → kept page ≡ true → KeptPage layout image old new kept page
  own_page page pool is = kept_page layout image old new kept stray page right whole keeps pool is

  entry_after : (t v : ℕ) → IsKeptEntry layout old kept t v → IsEntry layout new t v
  entry_after t v entry =
      let lists = kept_lists layout image old new kept entry.page entry.index t v short (own_page entry.page entry.pool entry.is_kept) entry.lists in
      record { page = entry.page; index = entry.index; pool = entry.pool; lists = lists }

  rewritten_after : (page : ℕ) → IsPool layout page → IsFree new page ⊎ IsRewritten layout image new page
  rewritten_after page pool = elim (cases_Bool (kept page)) [
    | inr dropped ↦ inl (keeps.drops page pool dropped)
    | inl is ↦
        let own = own_page page pool is in
        inr (record { first = own.first; last = own.last; holds = holds_more _ _ _ _ _ _ _ entry_after own.behind })
  ]

  -- no address has two entries
  once_after : (page page' i i' t v v' : ℕ) → IsPool layout page → IsPool layout page' → Lists new page i t v → Lists new page' i' t v' → (page ≡ page') × (i ≡ i')
  once_after page page' i i' t v v' pool pool' lists lists' =
      let is = listed_kept page i t v pool lists in
      let is' = listed_kept page' i' t v' pool' lists' in
      let own' = own_page page' pool' is' in
      let before = lists_before layout image old new kept page i t v short (own_page page pool is) lists in
      let before' = lists_before layout image old new kept page' i' t v' short own' lists' in
      elim (cases_order page page') [
        | inl same ↦
            let map = map_held (IsKeptEntry layout old kept) image new page' own'.first own'.last short own'.behind in
            (same, same_address new page' i i' t v v' map (rw same at lists) lists')
        | inr (inl lower) ↦ absurd (((keeps.are page' pool').0 is').alone page i i' t v v' pool lower is before before')
        | inr (inr higher) ↦ absurd (((keeps.are page pool).0 is).alone page' i' i t v' v pool' higher is' before' before)
      ]

module _ (layout : Layout) (image old new : List ℕ) (kept : ℕ → Bool) (stray : ℕ → ℕ → Bool) where
  -- pages outside the pool have their form still
  around_after : HaveFormsAround layout image old → Keeps layout image old new kept stray → HaveFormsAround layout image new
  around_after around keeps page low out = rw (keeps.outside page out) (around page low out)

  pub kept_faithful : IsRight layout → length old ≡ word_count → length image ≡ layout.image_words → HaveFormsAround layout image old → Keeps layout image old new kept stray
      → IsFaithful layout image new
  kept_faithful right whole long around keeps =
      let short : length image ≤ most_image_words = omega (arith, long, right.image_fits) in
      let around' = around_after around keeps in
      let whole' = keeps.size ∙ whole in
      record {
        whole = whole';
        image_length = long;
        held = held_image layout image new right whole' long around';
        erased = λ a after before. below_pool layout image new a right around' before ∙ outside image a (omega (arith, long));
        kernel = λ a from to. kernel_word layout image new a right around' from to;
        pages = λ page pool. rewritten_after _ _ _ _ _ _ right whole short keeps page pool;
        once = once_after _ _ _ _ _ _ right whole short keeps;
      }

-- Which pages are kept is determined. --------------------------------------------------------------------------

agree_below : (layout : Layout) (image words : List ℕ) (kept kept' : ℕ → Bool) → AreKept layout image words kept → AreKept layout image words kept' → (n page : ℕ) → page < n → IsPool layout page
    → kept page ≡ true → kept' page ≡ true
agree_below layout image words kept kept' are are' zero page below pool is = absurd (omega arith)
agree_below layout image words kept kept' are are' (suc n) page below pool is =
    let keeper = (are page pool).0 is in
    (are' page pool).1 (record {
      code = keeper.code;
      alone = λ lower i j t v v' pool' lower_is kept_is lists lists'. keeper.alone lower i j t v v' pool' lower_is (agree_below _ _ _ _ _ are' are n lower (omega arith) pool' kept_is) lists lists';
    })

same_by_true : (a b : Bool) → (a ≡ true → b ≡ true) → (b ≡ true → a ≡ true) → a ≡ b
same_by_true false false on back = refl
same_by_true false true on back = absurd (let off = back refl in cc)
same_by_true true b on back = sym (on refl)

pub one_kept : (layout : Layout) (image words : List ℕ) (kept kept' : ℕ → Bool) (page : ℕ) → AreKept layout image words kept → AreKept layout image words kept' → IsPool layout page
    → kept page ≡ kept' page
one_kept layout image words kept kept' page are are' pool =
    same_by_true (kept page) (kept' page) (agree_below _ _ _ _ _ are are' (suc page) page (omega arith) pool) (agree_below _ _ _ _ _ are' are (suc page) page (omega arith) pool)

-- and so is which stubs stray
kept_entry_on : (layout : Layout) (image words : List ℕ) (kept kept' : ℕ → Bool) (t v : ℕ) → AreKept layout image words kept → AreKept layout image words kept' → IsKeptEntry layout words kept t v
    → IsKeptEntry layout words kept' t v
kept_entry_on layout image words kept kept' t v are are' entry = record {
  page = entry.page;
  index = entry.index;
  pool = entry.pool;
  is_kept = sym (one_kept layout image words kept kept' entry.page are are' entry.pool) ∙ entry.is_kept;
  lists = entry.lists;
}

one_stray : (layout : Layout) (image words : List ℕ) (kept kept' : ℕ → Bool) (stray stray' : ℕ → ℕ → Bool) (t v : ℕ) → AreKept layout image words kept → AreKept layout image words kept'
    → AreStray layout words kept stray → AreStray layout words kept' stray' → stray t v ≡ stray' t v
one_stray layout image words kept kept' stray stray' t v are are' strays strays' =
    same_by (stray t v) (stray' t v)
    (λ is. (strays' t v).1 (kept_entry_on layout image words kept kept' t v are are' ((strays t v).0 is)))
    (λ is. (strays t v).1 (kept_entry_on layout image words kept' kept t v are' are ((strays' t v).0 is)))

-- so all words are
pool_or_not : (layout : Layout) (page : ℕ) → IsPool layout page ⊎ (IsPool layout page → ⊥)
pool_or_not layout page = elim (cases_lt page layout.pool_first) [
  | inl before ↦ inr (λ pool. omega (arith, before, pool.from))
  | inr from ↦ elim (cases_lt page (layout.pool_first + layout.pool_pages)) [
    | inl to ↦ inl (record { from = omega (arith, from); to = to })
    | inr behind ↦ inr (λ pool. omega (arith, behind, pool.to))
  ]
]

one_page : (layout : Layout) (image old new new' : List ℕ) (kept kept' : ℕ → Bool) (stray stray' : ℕ → ℕ → Bool) (page : ℕ) → Keeps layout image old new kept stray
    → Keeps layout image old new' kept' stray' → page_of new' page ≡ page_of new page
one_page layout image old new new' kept kept' stray stray' page keeps keeps' = elim (pool_or_not layout page) [
  | inr out ↦ keeps'.outside page out ∙ sym (keeps.outside page out)
  | inl pool ↦ (
      let same = one_kept layout image old kept kept' page keeps.are keeps'.are pool in
      elim (cases_Bool (kept page)) [
        | inr dropped ↦ keeps'.drops page pool (sym same ∙ dropped) ∙ sym (keeps.drops page pool dropped)
        | inl is ↦ (
            let stubs = stubs_same image old old stray stray' page refl (λ t v. sym (one_stray layout image old kept kept' stray stray' t v keeps.are keeps'.are keeps.strays keeps'.strays))
            ((keeps.are page pool).0 is).code in
            keeps'.keeps page pool (sym same ∙ is) ∙ ap (λ ss. page_of (with_calls old ss) page) stubs ∙ sym (keeps.keeps page pool is))
      ])
]

pub one_words : (layout : Layout) (image old new new' : List ℕ) (kept kept' : ℕ → Bool) (stray stray' : ℕ → ℕ → Bool) → Keeps layout image old new kept stray
    → Keeps layout image old new' kept' stray' → new' ≡ new
one_words layout image old new new' kept kept' stray stray' keeps keeps' =
    all_there new new' (keeps'.size ∙ sym keeps.size) (λ page. one_page layout image old new new' kept kept' stray stray' page keeps keeps')

-- and both numbers
pub one_answer : (layout : Layout) (image : List ℕ) (old new new' : Memory) (told told' : Kept) → Restarts layout image old new told → Restarts layout image old new' told'
    → (new'.words ≡ new.words) × (told' ≡ told)
one_answer layout image old new new' told told' restarts restarts' =
    let same : (page : ℕ) → layout.pool_first ≤ page → page < layout.pool_first + layout.pool_pages → restarts'.kept page ≡ restarts.kept page = λ page from to.
    sym (one_kept layout image old.words restarts.kept restarts'.kept page restarts.keeps.are restarts'.keeps.are (record { from = from; to = to })) in
    let kept_is = restarts'.kept_is ∙ count_same restarts'.kept restarts.kept layout.pool_first layout.pool_pages same ∙ sym restarts.kept_is in
    let dropped_is = restarts'.dropped_is
    ∙ count_same (is_dropped old.words restarts'.kept) (is_dropped old.words restarts.kept) layout.pool_first layout.pool_pages
    (λ page from to. ap (λ u. not (is_erased (page_of old.words page)) && not u) (same page from to))
    ∙ sym restarts.dropped_is in (
      one_words layout image old.words new.words new'.words restarts.kept restarts'.kept restarts.stray restarts'.stray restarts.keeps restarts'.keeps,
      ap₂ (λ k d. record { kept = k; dropped = d }) kept_is dropped_is,
    )
