-- What becomes of a page where one is rewritten, and where the stubs into a page that is recycled call the bridge again; and how often it
-- is erased there, also where an operation is refused.
use Rattle.std.proofs.Common.{◌≡◌, ◌≢◌, ℕ, suc, ◌+◌, ◌-◌, ◌*◌, ◌<◌, ◌≤◌, ◌==◌, ◌⊎◌, Bool, true, false, if◌then◌else◌, List, [], length, Option, Some, None, refl, sym, ap, ◌∙◌, subst, arith}
use Rattle.std.proofs.Common.{inl, inr}
use Rattle.std.specs.Prelude.{◌||◌, not, slice_index, slice_set}
use Rattle.std.proofs.lemmas.Bool.{cases_eq}
use Rattle.std.proofs.lemmas.List.{get_or-set_other}
use Rattle.flash_words.specs.Pages.{page_of, raised, word_at, set_page, blank}
use Rattle.flash_words.specs.Memory.{Memory}
use Rattle.flash_words.specs.Layouts.{IsRight, image_of}
use Rattle.flash_words.specs.declared.layout.Layout.{Layout}
use Rattle.flash_words.proofs.PageLaws.{page_same, word_out_of_page, length-page_of}
use Rattle.flash_words.proofs.ProgramLaws.{length-blank}
use Rattle.page_index.specs.Maps.{IsPool, IsFree, address_of, entry_count}
use Rattle.page_index.specs.Entries.{IsEntry}
use Rattle.nat_page.specs.Faithful.{IsFaithful}
use Rattle.nat_page.specs.Unlinking.{with_calls, stubs_into, leads_into, are_some}
use Rattle.nat_page.specs.Used.{is_used}
use Rattle.nat_page.proofs.UnlinkLaws.{length-with_calls, unlinked_page}
use Rattle.nat_page.proofs.UsedLaws.{free_unused, same_used}
use Rattle.nat_page.proofs.WalkLaws.{own_run}
use Rattle.branch_bridge.specs.declared.rewriting.ResolveStop.{ResolveStop}
use Rattle.branch_bridge.specs.declared.rewriting.Torn.{Torn}
use Rattle.branch_bridge.specs.Operating.{Performed, perform, rewriting}
use Rattle.branch_bridge.specs.Tried.{torn_at}
use Rattle.branch_bridge.specs.Unresolving.{has_stubs_into, unlinking, unresolved}
use Rattle.branch_bridge.proofs.PartLaws.{stubs_used}
use Rattle.branch_bridge.proofs.UnresolveLaws.{used_rewritten}
use Rattle.theorem_reader.specs.Wear.{IsSamePage}
use Rattle.theorem_reader.proofs.Erasing.{other_words}
use Rattle.theorem_reader.proofs.OtherPages.{Told, unresolved_by, told_none, told_next, told_refused}
use Rattle.theorem_reader.proofs.StubWords.{KeepsCalls, Same, calls_then, then_calls, calls_unlinked}
use Rattle.theorem_reader.proofs.Rewriting.{Rewrites, Unerased, Unprogrammed, Whole, rewrites_by, beside, erased_more}

-- Another page than one that is rewritten. ---------------------------------------------------------------

-- a page has the same words, and wasn't erased
abbrev pub IsUntouched : (old new : Memory) → ℕ → Type 0
IsUntouched old new page = IsSamePage old.words new.words page × (slice_index new.erases page ≡ slice_index old.erases page)

pub untouched_self : (old new : Memory) (page : ℕ) → new.words ≡ old.words → new.erases ≡ old.erases → IsUntouched old new page
untouched_self old new page words erases = (λ k below. ap (λ ws. word_at ws (128 * page + k)) words, ap (λ es. slice_index es page) erases)

pub untouched_on : (old mid new : Memory) (page : ℕ) → IsUntouched old mid page → IsUntouched mid new page → IsUntouched old new page
untouched_on old mid new page first second = (λ k below. second.0 k below ∙ first.0 k below, second.1 ∙ first.1)

untouched_by : (old new : Memory) (page own : ℕ) (words : List ℕ) → length words ≡ 128 → 128 * own + 128 ≤ length old.words → page ≢ own → new.words ≡ set_page old.words own words
    → new.erases ≡ slice_set old.erases own (raised (slice_index old.erases own)) → IsUntouched old new page
untouched_by old new page own words long inside apart is erases = (
  λ k below. ap (λ ws. word_at ws (128 * page + k)) is ∙ word_out_of_page old.words words own (128 * page + k) long inside (beside page own k below apart),
  ap (λ es. slice_index es page) erases ∙ get_or-set_other old.erases own page (raised (slice_index old.erases own)) 0 apart,
)

pub other_untouched : (old new : Memory) (page own : ℕ) (words : List ℕ) (stop : Option ResolveStop) → length words ≡ 128 → 128 * own + 128 ≤ length old.words → page ≢ own
    → Rewrites old new own words stop → IsUntouched old new page
other_untouched old new page own words stop long inside apart (Unerased refusal stopped same erases) = untouched_self old new page same erases
other_untouched old new page own words stop long inside apart (Unprogrammed lacks is erases) = untouched_by old new page own blank length-blank inside apart is erases
other_untouched old new page own words stop long inside apart (Whole is erases) = untouched_by old new page own words long inside apart is erases

-- One that isn't recycled. --------------------------------------------------------------------------------

-- A page stays; or it was erased once, and of its words only some of stubs into a page that is gone have changed.
pub data Unlinks (IsGone : ℕ → Type 0) (old new : Memory) (page : ℕ) : Type 0 where
  Stayed : IsUntouched old new page → Unlinks IsGone old new page
  Unlinked : slice_index new.erases page ≤ slice_index old.erases page + 1 → (IsSamePage old.words new.words page → ⊥) → KeepsCalls IsGone old.words new.words page → Unlinks IsGone old new page

pub unlinks_on : (IsGone : ℕ → Type 0) (old mid new : Memory) (page : ℕ) → Unlinks IsGone old mid page → IsUntouched mid new page → Unlinks IsGone old new page
unlinks_on IsGone old mid new page (Stayed first) second = Stayed (untouched_on old mid new page first second)
unlinks_on IsGone old mid new page (Unlinked once differs calls) second =
    Unlinked (omega (arith, once, second.1)) (λ same. differs (λ k below. sym (second.0 k below) ∙ same k below)) (calls_then IsGone old.words mid.words new.words page calls second.0)

pub calls_of : (IsGone : ℕ → Type 0) (old new : Memory) (page : ℕ) → Unlinks IsGone old new page → KeepsCalls IsGone old.words new.words page
calls_of IsGone old new page (Stayed still) = λ k below. Same (still.0 k below)
calls_of IsGone old new page (Unlinked once differs calls) = calls

pub once_of : (IsGone : ℕ → Type 0) (old new : Memory) (page : ℕ) → Unlinks IsGone old new page → slice_index new.erases page ≤ slice_index old.erases page + 1
once_of IsGone old new page (Stayed still) = omega (arith, still.1)
once_of IsGone old new page (Unlinked once differs calls) = once

-- A page that had words is blank, and lacks those that are told; it was erased twice at most.
pub record IsTornPage (old new : Memory) (torn : Option Torn) (page : ℕ) : Type 0 where
  pub twice : slice_index new.erases page ≤ slice_index old.erases page + 2
  pub differs : IsSamePage old.words new.words page → ⊥
  pub words : List ℕ
  pub lacks : torn ≡ Some (record { page = page; words = words })
  pub free : IsFree new.words page

-- a used page isn't blank
pub used_differs : (old new : List ℕ) (page : ℕ) → is_used old page ≡ true → IsFree new page → IsSamePage old new page → ⊥
used_differs old new page used free same =
    let e : ◌≡◌ {A = Bool} true false = sym used ∙ same_used new old page (record { word = same }) ∙ free_unused new page free in
    absurd (cc)

-- The stubs of pages into the victim, one page after another: what becomes of a page, where those below the page of this number are done.
abbrev pub IsAhead : Layout → (IsGone : ℕ → Type 0) → (old : Memory) → (page k : ℕ) → Performed → Type 0
IsAhead layout IsGone old page k p =
    (layout.pool_first + k ≤ page → IsUntouched old p.memory page) × (Unlinks IsGone old p.memory page ⊎ IsTornPage old p.memory (torn_at p.stop) page)

some_stubs : (none some : Bool) → (if none then false else some) ≡ true → some ≡ true
some_stubs true some is = absurd (let e : ◌≡◌ {A = Bool} false true = is in cc)
some_stubs false some is = is

-- the page itself, which has some
own_unlinked : (layout : Layout) (IsGone : ℕ → Type 0) (image : List ℕ) (old now new : Memory) (victim page : ℕ) (stop : Option ResolveStop) → IsRight layout → IsFaithful layout image now.words
    → IsPool layout page → IsGone victim → has_stubs_into image now.words victim page ≡ true → IsUntouched old now page
    → Rewrites now new page (page_of (with_calls now.words (stubs_into image now.words victim page)) page) stop → Unlinks IsGone old new page ⊎ IsTornPage old new (torn_at stop) page
own_unlinked layout IsGone image old now new victim page stop right code pool gone some before (Unerased refusal stopped same erases) =
    inl (Stayed (untouched_on old now new page before (untouched_self now new page same erases)))
own_unlinked layout IsGone image old now new victim page stop right code pool gone some before (Unprogrammed lacks is erases) =
    let inside : 128 * page + 128 ≤ length now.words = omega (arith, code.whole, pool.to, right.pool_below_kernel) in
    let free : IsFree new.words page = ap (λ ws. page_of ws page) is ∙ page_same now.words blank page length-blank inside in
    let used = stubs_used (page == victim) (is_used now.words page) (are_some (stubs_into image now.words victim page)) some in
    inr (record {
      twice = omega (arith, erased_more now new page erases, before.1);
      differs = λ same. used_differs now.words new.words page used free (λ k below. same k below ∙ sym (before.0 k below));
      words = _;
      lacks = lacks;
      free = free;
    })
own_unlinked layout IsGone image old now new victim page stop right code pool gone some before (Whole is erases) =
    let words = now.words in
    let stubs = stubs_into image words victim page in
    let run = used_rewritten layout image words page code pool (stubs_used (page == victim) (is_used words page) (are_some stubs) some) in
    let own = own_run (IsEntry layout words) image words page run.first run.last run.holds in
    let inside : 128 * page + 128 ≤ length words = omega (arith, code.whole, pool.to, right.pool_below_kernel) in
    let there : new.words ≡ with_calls words stubs =
    is ∙ unlinked_page (IsEntry layout words) image words (leads_into victim) page (address_of words page 0) (entry_count words page - 1) inside own.holds in
    let any = some_stubs ((page == victim) || not (is_used words page)) (are_some stubs) some in
    let differ = other_words image words new.words (leads_into victim) page code.whole (omega (arith, pool.to, right.pool_below_kernel)) (ap (λ ws. page_of ws page) there) own.holds.fits any in
    let calls = subst (λ ws. KeepsCalls IsGone words ws page) (sym there) (calls_unlinked IsGone image words victim page gone inside own.holds.fits) in
    inl (Unlinked (omega (arith, erased_more now new page erases, before.1)) (λ same. differ (λ k below. same k below ∙ sym (before.0 k below)))
    (then_calls IsGone old.words words new.words page before.0 calls))

ahead_next : (layout : Layout) (IsGone : ℕ → Type 0) (image : List ℕ) (old now : Memory) (victim page k : ℕ) → IsRight layout → IsFaithful layout image now.words → k < layout.pool_pages
    → IsGone victim
    → IsAhead layout IsGone old page k (record { memory = now; stop = None }) → IsAhead layout IsGone old page (suc k) (perform now (unlinking image now.words victim (layout.pool_first + k)))
ahead_next layout IsGone image old now victim page k right code less gone ahead =
    let from = layout.pool_first + k in
    let words = now.words in
    let calls = with_calls words (stubs_into image words victim from) in
    let new = page_of calls from in
    let pool : IsPool layout from = record { from = omega arith; to = omega (arith, less) } in
    let inside : 128 * from + 128 ≤ length words = omega (arith, code.whole, pool.to, right.pool_below_kernel) in
    let long : length new ≡ 128 = length-page_of calls from (omega (arith, inside, length-with_calls words (stubs_into image words victim from))) in
    let Told : Bool → Type 0 = λ b. has_stubs_into image words victim from ≡ b → IsAhead layout IsGone old page (suc k) (perform now (if b then rewriting from new else [])) in
    (elim (has_stubs_into image words victim from) as Told [
      | false ↦ λ none. (λ later. ahead.0 (omega (arith, later)), ahead.1)
      | true ↦ λ some.
          let p = perform now (rewriting from new) in
          let rewrites = rewrites_by now p.memory from new p.stop inside refl in
          elim (cases_eq page from) [
            | inr apart ↦
                let other = other_untouched now p.memory page from new p.stop long inside apart rewrites in (
                  λ later. untouched_on old now p.memory page (ahead.0 (omega (arith, later))) other,
                  elim ahead.1 [
                    | inl unlinks ↦ inl (unlinks_on IsGone old now p.memory page unlinks other)
                    | inr torn ↦ absurd (let e : None ≡ Some _ = torn.lacks in cc)
                  ],
                )
            | inl here ↦ (
              λ later. absurd (omega (arith, later, here)),
              rw here (own_unlinked layout IsGone image old now p.memory victim from p.stop right code pool gone some (subst (IsUntouched old now) here (ahead.0 (omega (arith, here)))) rewrites),
            )
          ]
    ]) refl

pub ahead_all : (layout : Layout) (IsGone : ℕ → Type 0) (old : Memory) (victim page : ℕ) → IsRight layout → IsFaithful layout (image_of layout old.words) old.words → IsPool layout victim
    → IsGone victim → IsAhead layout IsGone old page layout.pool_pages (unresolved (image_of layout old.words) victim layout.pool_first layout.pool_pages old)
ahead_all layout IsGone old victim page right code pool gone =
    (unresolved_by (λ k p. Told layout old victim victim k p × IsAhead layout IsGone old page k p) (image_of layout old.words) victim layout.pool_first layout.pool_pages old
    (told_none layout old victim victim code, (λ later. untouched_self old old page refl refl, inl (Stayed (untouched_self old old page refl refl)))) (λ k less now both. (
      told_next layout old now victim victim k right pool less both.0,
      ahead_next layout IsGone (image_of layout old.words) old now victim page k right (both.0.0 refl).code less gone both.1,
    )) (λ k now stop both. (told_refused layout old now victim victim k stop both.0, (λ later. both.1.0 (omega (arith, later)), both.1.1)))).1
