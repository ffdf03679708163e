-- Going up through the pool, what is judged so far stays judged.
use Rattle.std.proofs.Common.{◌≡◌, ℕ, ◌+◌, ◌*◌, ◌<◌, ◌≤◌, Bool, true, false, not, List, length, arith, refl, sym, ap, ap₂, ◌∙◌, inl, inr}
use Rattle.std.specs.Prelude.{◌≢◌, ◌&&◌, if◌then◌else◌, slice_index}
use Rattle.std.proofs.lemmas.Bool.{cases_lt}
use Rattle.std.proofs.lemmas.Bool.Decides.{nat_tests}
use Rattle.std.proofs.lemmas.List.{get_or-set_same, get_or-set_other}
use Rattle.flash_words.specs.Pages.{page_words, page_count, page_of, set_page, blank, raised}
use Rattle.flash_words.specs.Memory.{Memory, IsWhole}
use Rattle.flash_words.specs.Operations.{erased_page}
use Rattle.flash_words.specs.Layouts.{IsRight, most_image_words}
use Rattle.flash_words.specs.declared.layout.Layout.{Layout}
use Rattle.flash_words.proofs.PageLaws as pages
use Rattle.base.proofs.ManyLaws.{length-many}
use Rattle.page_index.specs.Maps.{IsPool, IsFree}
use Rattle.page_index.proofs.MapLaws.{free_lists_nothing}
use Rattle.page_draft.specs.CodePages.{Anywhere, IsCodePage}
use Rattle.nat_page.specs.Used.{is_used}
use Rattle.nat_page.proofs.StayLaws.{held_used}
use Rattle.nat_page.proofs.UsedLaws.{free_unused, map_used, same_used}
use Rattle.pool_check.specs.Links.{IsAlone}
use Rattle.flash_dump.specs.WrittenDumps.{is_erased}
use Rattle.tk_restart.specs.declared.judging.Fate.{Fate}
use Rattle.tk_restart.specs.declared.judging.Fate.TheVariants.{Stays, Blank, Goes}
use Rattle.tk_restart.specs.declared.sweeping.Kept.{Kept}
use Rattle.tk_restart.specs.Keeping.{is_dropped}
use Rattle.tk_restart.specs.Restarting.{worn}
use Rattle.tk_restart.specs.Sweeping.{ArePagesBelow, IsJudged, after_fate, counted, SweptPage, Left, Freed, IsSwept, Sweeps}
use Rattle.tk_restart.proofs.CountLaws.{count_none, count_more, count_same}
use Rattle.tk_restart.proofs.BlankLaws.{free_blank, not_blank}
use Rattle.tk_restart.proofs.PageLaws.{same_page, lists_there, code_there, code_map}

pub blank_long : length blank ≡ page_words
unfolding blank
blank_long = length-many page_words 0xFFFF

-- what is judged stays judged where the pages up to this one stay
pub swept_on : (layout : Layout) (image old now now' : List ℕ) (page : ℕ) → ((other : ℕ) → other ≤ page → page_of now' other ≡ page_of now other) → SweptPage layout image old now page
    → SweptPage layout image old now' page
swept_on layout image old now now' page stays swept = elim swept [
  | Left code alone same ↦ Left code
      (λ lower i j t v v' pool below lists lists'. alone lower i j t v v' pool below (lists_there now' now lower i t v (sym (stays lower (omega arith))) lists) lists')
      (stays page (omega arith) ∙ same)
  | Freed none free ↦ Freed
      (λ both. none (both.0, λ lower i j t v v' pool below lists lists'. both.1 lower i j t v v' pool below (lists_there now now' lower i t v (stays lower (omega arith)) lists) lists'))
      (stays page (omega arith) ∙ free)
]

-- a page that is judged now was the same before
swept_own : (layout : Layout) (image old now now' : List ℕ) (page : ℕ) → page_of now page ≡ page_of old page → SweptPage layout image now now' page → SweptPage layout image old now' page
swept_own layout image old now now' page same swept = elim swept [
  | Left code alone own ↦ Left (code_there image now old page (sym same) code)
      (λ lower i j t v v' pool below lists lists'. alone lower i j t v v' pool below lists (lists_there old now page j t v' same lists'))
      (own ∙ same)
  | Freed none free ↦ Freed
      (λ both. none (code_there _ _ _ _ same both.0, λ lower i j t v v' pool below lists lists'. both.1 lower i j t v v' pool below lists (lists_there _ _ _ _ _ _ (sym same) lists')))
      free
]

-- one page is judged: it is used afterwards or not, and it was dropped or not
pub record SweepsPage (layout : Layout) (image : List ℕ) (old now now' : Memory) (page : ℕ) (stays goes : Bool) : Type 0 where
  pub size : length now'.words ≡ length now.words
  pub others : (other : ℕ) → other ≢ page → page_of now'.words other ≡ page_of now.words other
  pub own : SweptPage layout image now.words now'.words page
  pub used : is_used now'.words page ≡ stays
  pub gone : is_dropped old.words (is_used now'.words) page ≡ goes
  pub ops : now'.ops ≡ now.ops + (if goes then 1 else 0)
  pub own_erases : slice_index now'.erases page ≡ worn goes (slice_index now.erases page)
  pub other_erases : (other : ℕ) → other ≢ page → slice_index now'.erases other ≡ slice_index now.erases other
  pub failing : now'.failing ≡ now.failing
  pub refused : now'.refused ≡ now.refused

-- a page is used as before where its words stay
used_there : (words words' : List ℕ) (page : ℕ) → page_of words' page ≡ page_of words page → is_used words page ≡ is_used words' page
used_there words words' page same = sym (same_used words words' page (same_page words words' page same))

-- one page more
pub swept_more : (layout : Layout) (image : List ℕ) (old now now' : Memory) (k : ℕ) (told told' : Kept) (stays goes : Bool) → IsPool layout (layout.pool_first + k)
    → IsSwept layout image old now k told
    → SweepsPage layout image old now now' (layout.pool_first + k) stays goes
    → told'.kept ≡ told.kept + (if stays then 1 else 0) → told'.dropped ≡ told.dropped + (if goes then 1 else 0) → IsSwept layout image old now' (k + 1) told'
swept_more layout image old now now' k told told' stays goes pool swept sweeps kept_is dropped_is =
    let first = layout.pool_first in
    let n = first + k in
    let before : (page : ℕ) → page < n → page_of now'.words page ≡ page_of now.words page = λ page below. sweeps.others page (λ same. omega (arith, same, below)) in
    let used_on : (page : ℕ) → page < n → is_used now.words page ≡ is_used now'.words page = λ page below. used_there now.words now'.words page (before page below) in
    let gone_on : (page : ℕ) → page < n → is_dropped old.words (is_used now.words) page ≡ is_dropped old.words (is_used now'.words) page = λ page below.
    ap (λ u. not (is_erased (page_of old.words page)) && not u) (used_on page below) in
    record {
      size = sweeps.size ∙ swept.size;
      outside = λ page out.
          let apart : page ≢ n = λ same. out (rw same pool) in
          sweeps.others page apart ∙ swept.outside page out;
      ahead = λ page from. sweeps.others page (λ same. omega (arith, same, from)) ∙ swept.ahead page (omega arith);
      behind = λ page own below. elim (cases_lt page n) [
        | inl earlier ↦ swept_on layout image old.words now.words now'.words page (λ other to. before other (omega arith)) (swept.behind page own earlier)
        | inr not_earlier ↦
            let same : n ≡ page = omega arith in
            rw same at (swept_own layout image old.words now.words now'.words n (swept.ahead n (omega arith)) sweeps.own)
      ];
      kept_is = kept_is ∙ ap₂ (λ m b. m + (if b then 1 else 0)) (swept.kept_is ∙ count_same (is_used now.words) (is_used now'.words) first k (λ page low high. used_on page high)) (sym sweeps.used)
          ∙ omega (arith, count_more (is_used now'.words) first k);
      dropped_is = dropped_is ∙ ap₂ (λ m b. m + (if b then 1 else 0))
          (swept.dropped_is ∙ count_same (is_dropped old.words (is_used now.words)) (is_dropped old.words (is_used now'.words)) first k (λ page low high. gone_on page high)) (sym sweeps.gone)
          ∙ omega (arith, count_more (is_dropped old.words (is_used now'.words)) first k);
      ops = sweeps.ops ∙ ap (λ m. m + (if goes then 1 else 0)) swept.ops ∙ omega (arith, dropped_is);
      erases = λ page own below. elim (cases_lt page n) [
        | inl earlier ↦
            sweeps.other_erases page (λ same. omega (arith, same, earlier)) ∙ swept.erases page own earlier ∙ ap (λ b. worn b (slice_index old.erases page)) (gone_on page earlier)
        | inr not_earlier ↦
            let same : n ≡ page = omega arith in
            rw same at (sweeps.own_erases ∙ ap₂ worn (sym sweeps.gone) (swept.other_erases n (inr (omega arith))))
      ];
      other_erases = λ page out. elim out [
        | inl none ↦
            let apart : page ≢ n = λ same. none (rw same pool) in
            sweeps.other_erases page apart ∙ swept.other_erases page (inl none)
        | inr from ↦ sweeps.other_erases page (λ same. omega (arith, same, from)) ∙ swept.other_erases page (inr (omega arith))
      ];
      failing = sweeps.failing ∙ swept.failing;
      refused = sweeps.refused ∙ swept.refused;
    }

-- The three fates. ------------------------------------------------------------------------------------------

-- what is used isn't dropped
used_kept : (blank used : Bool) → used ≡ true → (not blank && not used) ≡ false
used_kept blank used is = grind (arith, nat_tests)

blank_kept : (blank used : Bool) → blank ≡ true → (not blank && not used) ≡ false
blank_kept blank used is = grind (arith, nat_tests)

gone_is : (blank used : Bool) → blank ≡ false → used ≡ false → (not blank && not used) ≡ true
gone_is blank used none unused = grind (arith, nat_tests)

module _ (layout : Layout) (image : List ℕ) (old : Memory) where
  stays_page : (now : Memory) (page : ℕ) → length image ≤ most_image_words → IsCodePage image now.words page → IsAlone layout now.words page → SweepsPage layout image old now now page true false
  stays_page now page short code alone =
      let used = map_used now.words page (code_map image now.words page short code) in
      record {
        size = refl;
        others = λ other apart. refl;
        own = Left code alone refl;
        used = used;
        gone = used_kept (is_erased (page_of old.words page)) (is_used now.words page) used;
        ops = omega arith;
        own_erases = refl;
        other_erases = λ other apart. refl;
        failing = refl;
        refused = refl;
      }

  blank_page : (now : Memory) (page : ℕ) → length image ≤ most_image_words → page_of now.words page ≡ page_of old.words page → IsFree now.words page
      → SweepsPage layout image old now now page false false
  blank_page now page short same free = record {
    size = refl;
    others = λ other apart. refl;
    own = Freed (λ both. held_used Anywhere image now.words page both.0.first both.0.last short both.0.holds free) free;
    used = free_unused now.words page free;
    gone = blank_kept (is_erased (page_of old.words page)) (is_used now.words page) (free_blank old.words page (sym same ∙ free));
    ops = omega arith;
    own_erases = refl;
    other_erases = λ other apart. refl;
    failing = refl;
    refused = refl;
  }

  goes_page : (now : Memory) (page : ℕ) → page < page_count → IsWhole now → page_of now.words page ≡ page_of old.words page → length now.words ≡ length old.words → ¬ IsFree now.words page
      → ¬ (IsCodePage image now.words page × IsAlone layout now.words page) → SweepsPage layout image old now (erased_page now page) page false true
  goes_page now page low whole same size filled none =
      let words = now.words in
      let inside : page_words * page + page_words ≤ length words = omega (arith, whole.words) in
      let free : IsFree (set_page words page blank) page = pages.page_same words blank page blank_long inside in
      let beside : (other : ℕ) → other ≢ page → page_of (set_page words page blank) other ≡ page_of words other = λ other apart. pages.page_other words blank page other blank_long inside apart in
      let unused = free_unused (set_page words page blank) page free in
      let filled' : ¬ IsFree old.words page = λ free'. filled (same ∙ free') in
      record {
        size = pages.length-set_page words blank page blank_long inside;
        others = beside;
        own = Freed
            (λ both. none (
              both.0,
              λ lower i j t v v' pool below lists lists'.
                  both.1 lower i j t v v' pool below (lists_there _ _ _ _ _ _ (beside lower (λ is. omega (arith, is, below))) lists) lists',
            ))
            free;
        used = unused;
        gone = gone_is (is_erased (page_of old.words page)) (is_used (set_page words page blank) page) (not_blank old.words page (omega (arith, inside, size)) filled') unused;
        ops = omega arith;
        own_erases = get_or-set_same now.erases page (raised (slice_index now.erases page)) 0 (omega (arith, whole.erases));
        other_erases = λ other apart. get_or-set_other now.erases page other (raised (slice_index now.erases page)) 0 apart;
        failing = refl;
        refused = refl;
      }

  pub swept_fate : (now now' : Memory) (k : ℕ) (told told' : Kept) (fate : Fate) → length image ≤ most_image_words → IsRight layout → IsWhole now → IsPool layout (layout.pool_first + k)
      → IsSwept layout image old now k told → IsJudged layout image now.words (layout.pool_first + k) fate → now' ≡ after_fate now (layout.pool_first + k) fate → told' ≡ counted told fate
      → IsSwept layout image old now' (k + 1) told'
  swept_fate now now' k told told' Stays short right whole pool swept judged after is =
      let page = layout.pool_first + k in
      rw after (swept_more layout image old now now k told told' true false pool swept (stays_page now page short judged.0 judged.1) (ap (λ t. t.kept) is) (ap (λ t. t.dropped) is ∙ omega arith))
  swept_fate now now' k told told' Blank short right whole pool swept judged after is =
      let page = layout.pool_first + k in
      rw after (swept_more _ _ _ _ _ _ _ _ _ _ pool swept (blank_page now page short (swept.ahead page (omega arith)) judged) (ap (λ t. t.kept) is ∙ omega arith)
      (ap (λ t. t.dropped) is ∙ omega arith))
  swept_fate now now' k told told' Goes short right whole pool swept judged after is =
      let page = layout.pool_first + k in
      rw after (swept_more layout image old now (erased_page now page) k told told' false true pool swept
      (goes_page now page (omega (arith, pool.to, right.pool_below_kernel)) whole (swept.ahead page (omega arith)) swept.size judged.0 judged.1)
      (ap (λ t. t.kept) is ∙ omega arith) (ap (λ t. t.dropped) is))

  pub swept_none : IsSwept layout image old old 0 (record { kept = 0; dropped = 0 })
  swept_none = record {
    size = refl;
    outside = λ page out. refl;
    ahead = λ page from. refl;
    behind = λ page pool below. absurd (omega (arith, pool.from));
    kept_is = count_none (is_used old.words) layout.pool_first;
    dropped_is = count_none (is_dropped old.words (is_used old.words)) layout.pool_first;
    ops = omega arith;
    erases = λ page pool below. absurd (omega (arith, pool.from));
    other_erases = λ page out. refl;
    failing = refl;
    refused = refl;
  }

  -- the pages below are free or have a map
  pub swept_pages : (now : Memory) (k : ℕ) (told : Kept) → length image ≤ most_image_words → IsSwept layout image old now k told → ArePagesBelow layout now.words (layout.pool_first + k)
  swept_pages now k told short swept page pool below = elim (swept.behind page pool below) [
    | Left code alone same ↦ inr (code_map image now.words page short (code_there image old.words now.words page same code))
    | Freed none free ↦ inl free
  ]

-- Behind the pool. -------------------------------------------------------------------------------------

pub free_not_used : (words : List ℕ) (page : ℕ) → IsFree words page → is_used words page ≡ true → ⊥
free_not_used words page free is = let unused = free_unused words page free in cc

pub swept_all : (layout : Layout) (image : List ℕ) (old now : Memory) (told : Kept) → length image ≤ most_image_words → IsSwept layout image old now layout.pool_pages told
    → Sweeps layout image old now told
swept_all layout image old now told short swept =
    let judged : (page : ℕ) → IsPool layout page → SweptPage layout image old.words now.words page = λ page pool. swept.behind page pool pool.to in
    let is_kept : (page : ℕ) → IsCodePage image old.words page → page_of now.words page ≡ page_of old.words page → is_used now.words page ≡ true = λ page code same.
    map_used now.words page (code_map image now.words page short (code_there image old.words now.words page same code)) in
    record {
      size = swept.size;
      outside = swept.outside;
      keeps = λ page pool is. elim (judged page pool) [
        | Left code alone same ↦ same
        | Freed none free ↦ absurd (free_not_used now.words page free is)
      ];
      drops = λ page pool none. elim (judged page pool) [
        | Left code alone same ↦ absurd (none (is_kept page code same))
        | Freed none' free ↦ free
      ];
      are = λ page pool. (
        λ is. elim (judged page pool) [
          | Freed none free ↦ absurd (free_not_used now.words page free is)
          | Left code alone same ↦ record {
            code = code;
            alone = λ lower i j t v v' pool' below is' lists lists'. elim (judged lower pool') [
              | Freed none free ↦ absurd (free_not_used now.words lower free is')
              | Left code' alone' same' ↦ alone lower i j t v v' pool' below (lists_there old.words now.words lower i t v same' lists) lists'
            ];
          }
        ],
        λ keeper. elim (judged page pool) [
          | Left code alone same ↦ is_kept page code same
          | Freed none free ↦ absurd (none (
            keeper.code,
            λ lower i j t v v' pool' below lists lists'. elim (judged lower pool') [
              | Freed none' free' ↦ free_lists_nothing now.words lower i t v free' lists
              | Left code' alone' same' ↦ keeper.alone lower i j t v v' pool' below (is_kept lower code' same') (lists_there now.words old.words lower i t v (sym same') lists) lists'
            ],
          ))
        ],
      );
      kept_is = swept.kept_is;
      dropped_is = swept.dropped_is;
      ops = swept.ops;
      erases = λ page pool. swept.erases page pool pool.to;
      other_erases = λ page out. swept.other_erases page (inl out);
      failing = swept.failing;
      refused = swept.refused;
    }
