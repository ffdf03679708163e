-- Both passes are a restart.
use Rattle.std.proofs.Common.{◌≡◌, ℕ, ◌+◌, ◌*◌, ◌≤◌, ◌&&◌, Bool, true, false, not, List, [], length, refl, sym, ap, ap₂, ◌∙◌, inl, inr, ⊎_elim}
use Rattle.std.specs.Prelude.{◌⊎◌, if◌then◌else◌, slice_index}
use Rattle.std.proofs.lemmas.Bool.{both_ways, cases_Bool}
use Rattle.flash_words.specs.Pages.{page_of}
use Rattle.flash_words.specs.Layouts.{IsRight, image_of, most_image_words}
use Rattle.flash_words.specs.Memory.{Memory}
use Rattle.flash_words.specs.declared.layout.Layout.{Layout}
use Rattle.page_index.specs.Maps.{IsPool, IsFree}
use Rattle.page_index.specs.Entries.{Lists}
use Rattle.page_index.proofs.MapLaws.{free_lists_nothing}
use Rattle.page_draft.specs.CodePages.{IsCodePage}
use Rattle.nat_page.specs.Used.{is_used, used_pages}
use Rattle.nat_page.specs.Unlinking.{with_calls, stubs_where, are_some}
use Rattle.nat_page.proofs.UsedLaws.{free_unused, holds_run_used}
use Rattle.pool_check.specs.Links.{HaveFormsAround}
use Rattle.pool_check.proofs.CheckedLaws.{held_image}
use Rattle.tk_restart.specs.declared.sweeping.Kept.{Kept}
use Rattle.tk_restart.specs.Keeping.{AreStray, IsKeptEntry, Keeps, is_dropped, is_changed}
use Rattle.tk_restart.specs.Restarting.{Restarts, worn}
use Rattle.tk_restart.specs.Strays.{is_stray}
use Rattle.tk_restart.specs.Sweeping.{Sweeps}
use Rattle.tk_restart.specs.Unlinking.{AreCodes, has_strays, Unlinks}
use Rattle.tk_restart.proofs.CountLaws.{count_same, count_used, worn_once}
use Rattle.tk_restart.proofs.PageLaws.{code_there, lists_there, image_there}
use Rattle.tk_restart.proofs.StrayLaws.{leads_to, leads_not_away}
use Rattle.tk_restart.proofs.UnlinkingLaws.{calls_same, free_calls, inside_pool, pages_of, some_strays, stubs_same}
use Rattle.tk_restart.proofs.KeepingLaws.{kept_page}

module _ (layout : Layout) (image : List ℕ) (old mid : Memory) (told : Kept) (sweeps : Sweeps layout image old mid told) where
  -- between both passes each page of the pool is free or code, and so it was if it is used
  kept_code : (page : ℕ) → IsPool layout page → is_used mid.words page ≡ true → IsCodePage image old.words page
  kept_code page pool used = ((sweeps.are page pool).0 used).code

  used_free : (page : ℕ) → IsPool layout page → (is_used mid.words page ≡ true) ⊎ IsFree mid.words page
  used_free page pool = ⊎_elim inl (λ unused. inr (sweeps.drops page pool (both_ways _ unused))) (cases_Bool (is_used mid.words page))

  pub swept_codes : AreCodes layout image mid.words
  swept_codes page pool = elim (used_free page pool) [
    | inl used ↦ inr (code_there image old.words mid.words page (sweeps.keeps page pool used) (kept_code page pool used))
    | inr free ↦ inl free
  ]

  -- a page that lists something is used
  listing_used : (page i t v : ℕ) → IsPool layout page → Lists mid.words page i t v → is_used mid.words page ≡ true
  listing_used page i t v pool lists = ⊎_elim (λ used. used) (λ free. absurd (free_lists_nothing mid.words page i t v free lists)) (used_free page pool)

  strays_are : length image ≤ most_image_words → AreStray layout old.words (is_used mid.words) (is_stray layout mid.words)
  strays_are short t v = (
    λ is.
        let entry = leads_to layout mid.words t v is in
        let used = listing_used entry.page entry.index t v entry.pool entry.lists in
        let lists = lists_there mid.words old.words entry.page entry.index t v (sym (sweeps.keeps entry.page entry.pool used)) entry.lists in
        record { page = entry.page; index = entry.index; pool = entry.pool; is_kept = used; lists = lists },
    λ entry.
        let lists = lists_there old.words mid.words entry.page entry.index t v (sweeps.keeps entry.page entry.pool entry.is_kept) entry.lists in
        leads_not_away layout mid.words t v (pages_of layout image mid.words short swept_codes) (record { page = entry.page; index = entry.index; pool = entry.pool; lists = lists }),
  )

  -- which pages are changed
  changed_is : (page : ℕ) → IsPool layout page → has_strays layout image mid.words page ≡ is_changed image old.words (is_used mid.words) (is_stray layout mid.words) page
  changed_is page pool =
      let stray = is_stray layout mid.words in
      elim (cases_Bool (is_used mid.words page)) [
        | inl used ↦
            let stubs = stubs_same image old.words mid.words stray stray page (sweeps.keeps page pool used) (λ t v. refl) (kept_code page pool used) in
            ap are_some (some_strays layout image mid.words mid.words page used ∙ stubs) ∙ sym (ap (λ b. b && are_some (stubs_where stray image old.words page)) used)
        | inr unused ↦
            ap (λ b. are_some (if b then stubs_where stray image mid.words page else [])) unused ∙ sym (ap (λ b. b && are_some (stubs_where stray image old.words page)) unused)
      ]

  keeps_all : (new : Memory) → IsRight layout → length old.words ≡ 65536 → length image ≤ most_image_words → Unlinks layout image mid new
      → Keeps layout image old.words new.words (is_used mid.words) (is_stray layout mid.words)
  keeps_all new right whole short unlinks =
      let stray = is_stray layout mid.words in
      record {
        are = sweeps.are;
        strays = strays_are short;
        size = unlinks.size ∙ sweeps.size;
        outside = λ page out. unlinks.outside page out ∙ sweeps.outside page out;
        keeps = λ page pool used.
            unlinks.pages page pool
            ∙ ap (λ ss. page_of (with_calls mid.words ss) page) (some_strays layout image mid.words mid.words page used)
            ∙ calls_same _ _ _ stray stray page sweeps.size (inside_pool _ _ _ right whole pool) (sweeps.keeps page pool used) (λ t v. refl) (kept_code page pool used);
        drops = λ page pool unused.
            let free = sweeps.drops page pool (both_ways (is_used mid.words page) unused) in
            unlinks.pages page pool ∙ free_calls layout image mid.words mid.words page free ∙ free;
      }

-- a page was erased once at most
once : (blank used some : Bool) → (not blank && not used) ≡ true → (used && some) ≡ false
once true true some is = absurd (cc)
once false true some is = absurd (cc)
once blank false some is = refl

pub restarted : (layout : Layout) (image : List ℕ) (old mid new : Memory) (told : Kept) → IsRight layout → length old.words ≡ 65536 → length image ≤ most_image_words
    → Sweeps layout image old mid told → Unlinks layout image mid new → Restarts layout image old new told
restarted layout image old mid new told right whole short sweeps unlinks =
    let kept = is_used mid.words in
    let stray = is_stray layout mid.words in
    let changed : (page : ℕ) → IsPool layout page → has_strays layout image mid.words page ≡ is_changed image old.words kept stray page = λ page pool. changed_is _ _ _ _ _ sweeps page pool in
    let count = count_same (has_strays layout image mid.words) (is_changed image old.words kept stray) layout.pool_first layout.pool_pages
    (λ page from to. changed page (record { from = from; to = to })) in
    record {
      kept = kept;
      stray = stray;
      keeps = keeps_all layout image old mid told sweeps new right whole short unlinks;
      kept_is = sweeps.kept_is;
      dropped_is = sweeps.dropped_is;
      ops = unlinks.ops ∙ ap₂ (λ m n. m + 2 * n) sweeps.ops count;
      erases = λ page pool.
          let some = is_changed image old.words kept stray page in
          unlinks.erases page pool ∙ ap₂ worn (changed page pool) (sweeps.erases page pool)
          ∙ worn_once (is_dropped old.words kept page) some (slice_index old.erases page) (once _ _ _);
      other_erases = λ page out. unlinks.other_erases page out ∙ sweeps.other_erases page out;
      failing = unlinks.failing ∙ sweeps.failing;
      refused = unlinks.refused ∙ sweeps.refused;
    }

-- the pages that are used are those that are kept
used_is : (layout : Layout) (image old new : List ℕ) (kept : ℕ → Bool) (stray : ℕ → ℕ → Bool) (page : ℕ) → IsRight layout → length old ≡ 65536 → length image ≤ most_image_words
    → Keeps layout image old new kept stray → IsPool layout page → is_used new page ≡ kept page
used_is layout image old new kept stray page right whole short keeps pool = elim (cases_Bool (kept page)) [
  | inl is ↦ (
      let own = kept_page layout image old new kept stray page right whole keeps pool is in
      holds_run_used (IsKeptEntry layout old kept) image new page own.first own.last short own.behind ∙ sym is)
  | inr dropped ↦ free_unused new page (keeps.drops page pool dropped) ∙ sym dropped
]

pub used_after : (layout : Layout) (image : List ℕ) (old new : Memory) (told : Kept) → IsRight layout → length old.words ≡ 65536 → length image ≤ most_image_words → Restarts layout image old new told
    → used_pages layout new.words ≡ told.kept
used_after layout image old new told right whole short restarts =
    count_used new.words layout.pool_first layout.pool_pages
    ∙ count_same (is_used new.words) restarts.kept layout.pool_first layout.pool_pages (λ page from to. used_is _ _ _ _ _ _ _ right whole short restarts.keeps (record { from = from; to = to }))
    ∙ sym restarts.kept_is

-- between both passes flash holds the image
pub mid_image : (layout : Layout) (image : List ℕ) (old mid : Memory) (told : Kept) → IsRight layout → length old.words ≡ 65536 → length image ≡ layout.image_words
    → HaveFormsAround layout image old.words → Sweeps layout image old mid told → image_of layout mid.words ≡ image
mid_image layout image old mid told right whole long around sweeps =
    image_there layout old.words mid.words right whole sweeps.size sweeps.outside ∙ held_image layout image old.words right whole long around
