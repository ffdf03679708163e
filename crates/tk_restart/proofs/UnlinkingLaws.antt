-- Going up through the pool, the stubs of one page after another that stray call the bridge: what the pages list
-- stays, so which stubs stray does.
use Rattle.std.proofs.Common.{◌≡◌, ℕ, ◌+◌, ◌-◌, ◌*◌, ◌/◌, ◌<◌, ◌≤◌, ◌==◌, ◌&&◌, Bool, true, false, List, [], ◌∷◌, length, arith, refl, sym, ap, ap₂, ◌∙◌, inl, inr, ⊎_elim}
use Rattle.std.specs.Prelude.{◌≢◌, ◌⊎◌, if◌then◌else◌, slice_index}
use Rattle.std.proofs.lemmas.Bool.{cases_lt}
use Rattle.std.proofs.lemmas.List.{get_or-set_same, get_or-set_other}
use Rattle.flash_words.specs.Pages.{page_words, page_count, word_at, page_of, set_page, blank, raised}
use Rattle.flash_words.specs.Memory.{Memory, IsWhole}
use Rattle.flash_words.specs.Operations.{erased_page, programmed_page}
use Rattle.flash_words.specs.Layouts.{IsRight, most_image_words}
use Rattle.flash_words.specs.declared.layout.Layout.{Layout}
use Rattle.flash_words.proofs.PageLaws as pages
use Rattle.nat_template.specs.declared.piece.Piece.{Piece}
use Rattle.nat_template.specs.declared.piece.Piece.TheVariants.{Fixed, Link}
use Rattle.page_index.specs.Maps.{IsPool, IsFree, address_of, entry_count}
use Rattle.page_index.specs.Entries.{Lists}
use Rattle.page_draft.specs.Standing.{jump_word, size}
use Rattle.page_draft.specs.CodePages.{page_pieces, Anywhere, HoldsRun, IsCodePage}
use Rattle.nat_page.specs.Used.{is_used}
use Rattle.nat_page.specs.Unlinking.{links_where, with_calls, pieces_in, stubs_where, are_some}
use Rattle.page_draft.proofs.PieceLaws.{size-cons}
use Rattle.nat_page.proofs.KeptLaws.{lists_again}
use Rattle.nat_page.proofs.UnlinkLaws.{Each, length-with_calls, calls_alike, links_among, among_inside, holds_unlinked, no_stubs}
use Rattle.nat_page.proofs.UsedLaws.{free_unused, map_used}
use Rattle.nat_page.proofs.WalkLaws.{OwnRun, own_run}
use Rattle.pool_check.specs.Links.{ArePages}
use Rattle.tk_restart.specs.Restarting.{worn}
use Rattle.tk_restart.specs.Strays.{is_stray}
use Rattle.tk_restart.specs.Unlinking.{AreCodes, strays_in, calls_in, has_strays, unlinked_page, IsUnlinked, Unlinks}
use Rattle.tk_restart.proofs.CountLaws.{count_none, count_more}
use Rattle.tk_restart.proofs.PageLaws.{same_page, lists_there, code_there, code_map}
use Rattle.tk_restart.proofs.StrayLaws.{stray_alike}
use Rattle.tk_restart.proofs.SweepLaws.{blank_long}

-- The stubs of one page, in words that agree on it. ---------------------------------------------------------

pub links_same : (words words' : List ℕ) (test test' : ℕ → ℕ → Bool) (a : ℕ) (pieces : List Piece) → ((x : ℕ) → a ≤ x → x < a + size pieces → word_at words' x ≡ word_at words x)
    → ((t v : ℕ) → test' t v ≡ test t v)
    → links_where words' test' a pieces ≡ links_where words test a pieces
links_same words words' test test' a [] same tests = refl
links_same words words' test test' a (Fixed word ∷ pieces) same tests =
    let long = size-cons (Fixed word) pieces in
    links_same words words' test test' (a + 1) pieces (λ x from to. same x (omega arith) (omega arith)) tests
links_same words words' test test' a (Link t ∷ pieces) same tests =
    let long = size-cons (Link t) pieces in
    let rest = links_same words words' test test' (a + 3) pieces (λ x from to. same x (omega arith) (omega arith)) tests in
    let picked = ap₂ (λ w w'. w == jump_word && test' t w') (same a (omega arith) (omega arith)) (same (a + 1) (omega arith) (omega arith))
    ∙ ap (λ b. word_at words a == jump_word && b) (tests t (word_at words (a + 1))) in
    ap₂ (λ (b : Bool) (stubs : List ℕ). if b then a ∷ stubs else stubs) picked rest

-- a run as the page tells it
pub told_run : (image words : List ℕ) (page : ℕ) → IsCodePage image words page → OwnRun Anywhere image words page
told_run image words page code = own_run Anywhere image words page code.first code.last code.holds

pub stubs_same : (image words words' : List ℕ) (test test' : ℕ → ℕ → Bool) (page : ℕ) → page_of words' page ≡ page_of words page → ((t v : ℕ) → test' t v ≡ test t v) → IsCodePage image words page
    → stubs_where test' image words' page ≡ stubs_where test image words page
stubs_same image words words' test test' page same tests code =
    let fits = (told_run image words page code).holds.fits in
    let words_are = (same_page words words' page same).word in
    let first : address_of words' page 0 ≡ address_of words page 0 = ap₂ (λ original word. page_words * original + word / 256) (sym (words_are 0 (omega arith))) (sym (words_are 2 (omega arith))) in
    let pieces : pieces_in image words' page ≡ pieces_in image words page = ap₂ (λ t n. page_pieces image t (n - 1)) first (sym (words_are 1 (omega arith))) in
    ap (links_where words' test' (page_words * page)) pieces
    ∙ links_same words words' test test' (page_words * page) (pieces_in image words page) (λ x from to.
    let here : page_words * page + (x - page_words * page) ≡ x = omega arith in
    sym (ap (word_at words') here) ∙ sym (words_are (x - page_words * page) (omega arith)) ∙ ap (word_at words) here) tests

stubs_inside : (image words : List ℕ) (test : ℕ → ℕ → Bool) (page n : ℕ) → page_words * page + page_words ≤ n → (own : OwnRun Anywhere image words page)
    → Each (λ s. s + 1 < n) (stubs_where test image words page)
stubs_inside image words test page n inside own =
    let fits = own.holds.fits in
    among_inside _ _ _ _ (omega arith) (links_among words test (page_words * page) (pieces_in image words page))

pub calls_same : (image words words' : List ℕ) (test test' : ℕ → ℕ → Bool) (page : ℕ) → length words' ≡ length words → page_words * page + page_words ≤ length words
    → page_of words' page ≡ page_of words page → ((t v : ℕ) → test' t v ≡ test t v) → IsCodePage image words page
    → page_of (with_calls words' (stubs_where test' image words' page)) page ≡ page_of (with_calls words (stubs_where test image words page)) page
calls_same image words words' test test' page long inside same tests code =
    let stubs = stubs_where test image words page in
    let room = stubs_inside image words test page (length words') (omega (arith, long)) (told_run image words page code) in
    ap (λ ss. page_of (with_calls words' ss) page) (stubs_same image words words' test test' page same tests code)
    ∙ pages.page_alike (with_calls words' stubs) (with_calls words stubs) page page
    (λ k below. calls_alike words' words stubs (page_words * page + k) long room (sym (((same_page words words' page same).word) k below)))
    (omega (arith, length-with_calls words' stubs, long)) (omega (arith, length-with_calls words stubs))

-- the page holds its run
pub run_unlinked : (image words : List ℕ) (test : ℕ → ℕ → Bool) (page : ℕ) → page_words * page + page_words ≤ length words → (own : OwnRun Anywhere image words page)
    → HoldsRun Anywhere image (with_calls words (stubs_where test image words page)) page (address_of words page 0) (entry_count words page - 1)
run_unlinked image words test page inside own =
    holds_unlinked Anywhere Anywhere image words test page (address_of words page 0) (entry_count words page - 1) (λ b v leads elsewhere. tt) inside own.holds

-- One page after the other. -----------------------------------------------------------------------------------

module _ (layout : Layout) (image by words : List ℕ) (page : ℕ) where
  no_strays : is_used words page ≡ false → strays_in layout image by words page ≡ []
  no_strays unused = ap (λ b. if b then stubs_where (is_stray layout by) image words page else []) unused

  pub some_strays : is_used words page ≡ true → strays_in layout image by words page ≡ stubs_where (is_stray layout by) image words page
  some_strays used = ap (λ b. if b then stubs_where (is_stray layout by) image words page else []) used

  pub free_calls : IsFree words page → calls_in layout image by words page ≡ page_of words page
  free_calls free = ap (λ ss. page_of (with_calls words ss) page) (no_strays (free_unused words page free))

code_used : (image words : List ℕ) (page : ℕ) → length image ≤ most_image_words → IsCodePage image words page → is_used words page ≡ true
code_used image words page short code = map_used words page (code_map image words page short code)

-- a page in the words that it then has: it is free or code, and lists what it did
pub record Behind (image old now : List ℕ) (page : ℕ) : Type 0 where
  pub kind : IsFree now page ⊎ IsCodePage image now page
  pub lists : (i t v : ℕ) → Lists old page i t v → Lists now page i t v
  pub back : (i t v : ℕ) → Lists now page i t v → Lists old page i t v

behind_same : (image old now : List ℕ) (page : ℕ) → IsFree old page ⊎ IsCodePage image old page → page_of now page ≡ page_of old page → Behind image old now page
behind_same image old now page kind same = record {
  kind = ⊎_elim (λ free. inl (same ∙ free)) (λ code. inr (code_there image old now page same code)) kind;
  lists = λ i t v lists. lists_there old now page i t v same lists;
  back = λ i t v lists. lists_there now old page i t v (sym same) lists;
}

behind_calls : (layout : Layout) (image old now : List ℕ) (page : ℕ) → length image ≤ most_image_words → page_words * page + page_words ≤ length old → IsFree old page ⊎ IsCodePage image old page
    → page_of now page ≡ calls_in layout image old old page → Behind image old now page
behind_calls layout image old now page short inside kind is = elim kind [
  | inl free ↦ behind_same image old now page (inl free) (is ∙ free_calls layout image old old page free)
  | inr code ↦ (
      let test = is_stray layout old in
      let own = told_run image old page code in
      let first = address_of old page 0 in
      let last = entry_count old page - 1 in
      let words = with_calls old (stubs_where test image old page) in
      let there : page_of now page ≡ page_of words page = is ∙ ap (λ ss. page_of (with_calls old ss) page) (some_strays layout image old old page (code_used image old page short code)) in
      let holds = run_unlinked image old test page inside own in
      record {
        kind = inr (code_there image words now page there (record { first = first; last = last; holds = holds }));
        lists = λ i t v lists. lists_there words now page i t v there (lists_again Anywhere Anywhere image old words page first last i t v short own.holds holds lists);
        back = λ i t v lists. lists_again Anywhere Anywhere image words old page first last i t v short holds own.holds (lists_there now words page i t v (sym there) lists);
      })
]

pub inside_pool : (layout : Layout) (words : List ℕ) (page : ℕ) → IsRight layout → length words ≡ 65536 → IsPool layout page → page_words * page + page_words ≤ length words
inside_pool layout words page right whole pool = omega (arith, whole, pool.to, right.pool_below_kernel)

-- every page of the pool, at any moment
pub behind_all : (layout : Layout) (image : List ℕ) (old now : Memory) (k page : ℕ) → length image ≤ most_image_words → IsRight layout → length old.words ≡ 65536 → AreCodes layout image old.words
    → IsUnlinked layout image old now k → IsPool layout page → Behind image old.words now.words page
behind_all layout image old now k page short right whole codes unlinked pool = elim (cases_lt page (layout.pool_first + k)) [
  | inl before ↦ behind_calls layout image old.words now.words page short (inside_pool layout old.words page right whole pool) (codes page pool) (unlinked.behind page pool before)
  | inr ahead ↦ behind_same image old.words now.words page (codes page pool) (unlinked.ahead page (omega arith))
]

pub pages_of : (layout : Layout) (image words : List ℕ) → length image ≤ most_image_words → AreCodes layout image words → ArePages layout words
pages_of layout image words short codes page pool = ⊎_elim inl (λ code. inr (code_map image words page short code)) (codes page pool)

pub strays_still : (layout : Layout) (image : List ℕ) (old now : Memory) (k t v : ℕ) → length image ≤ most_image_words → IsRight layout → length old.words ≡ 65536 → AreCodes layout image old.words
    → IsUnlinked layout image old now k → is_stray layout now.words t v ≡ is_stray layout old.words t v
strays_still layout image old now k t v short right whole codes unlinked =
    let at : (page : ℕ) → IsPool layout page → Behind image old.words now.words page = λ page pool. behind_all layout image old now k page short right whole codes unlinked pool in
    stray_alike layout old.words now.words t v (pages_of layout image old.words short codes) (pages_of layout image now.words short (λ page pool. (at page pool).kind))
    (λ entry. record { page = entry.page; index = entry.index; pool = entry.pool; lists = (at entry.page entry.pool).lists entry.index t v entry.lists })
    (λ entry. record { page = entry.page; index = entry.index; pool = entry.pool; lists = (at entry.page entry.pool).back entry.index t v entry.lists })

-- one page more, whose stubs are those that it had
pub record UnlinksPage (layout : Layout) (image : List ℕ) (old now now' : Memory) (page : ℕ) (some : Bool) : Type 0 where
  pub size : length now'.words ≡ length now.words
  pub others : (other : ℕ) → other ≢ page → page_of now'.words other ≡ page_of now.words other
  pub own : page_of now'.words page ≡ calls_in layout image old.words old.words page
  pub is : has_strays layout image old.words page ≡ some
  pub ops : now'.ops ≡ now.ops + 2 * (if some then 1 else 0)
  pub own_erases : slice_index now'.erases page ≡ worn some (slice_index now.erases page)
  pub other_erases : (other : ℕ) → other ≢ page → slice_index now'.erases other ≡ slice_index now.erases other
  pub failing : now'.failing ≡ now.failing
  pub refused : now'.refused ≡ now.refused

module _ (layout : Layout) (image : List ℕ) where
  pub unlinked_more : (old now now' : Memory) (k : ℕ) (some : Bool) → IsPool layout (layout.pool_first + k) → IsUnlinked layout image old now k
      → UnlinksPage layout image old now now' (layout.pool_first + k) some → IsUnlinked layout image old now' (k + 1)
  unlinked_more old now now' k some pool unlinked one =
      let first = layout.pool_first in
      let n = first + k in
      let test = has_strays layout image old.words in
      record {
        size = one.size ∙ unlinked.size;
        outside = λ page out.
            let apart : page ≢ n = λ same. out (rw same pool) in
            one.others page apart ∙ unlinked.outside page out;
        ahead = λ page from. one.others page (λ same. omega (arith, same, from)) ∙ unlinked.ahead page (omega arith);
        behind = λ page own below. elim (cases_lt page n) [
          | inl earlier ↦ one.others page (λ same. omega (arith, same, earlier)) ∙ unlinked.behind page own earlier
          | inr not_earlier ↦
              let same : n ≡ page = omega arith in
              rw same at one.own
        ];
        ops = one.ops ∙ ap₂ (λ m (b : Bool). m + 2 * (if b then 1 else 0)) unlinked.ops (sym one.is) ∙ omega (arith, count_more test first k);
        erases = λ page own below. elim (cases_lt page n) [
          | inl earlier ↦ one.other_erases page (λ same. omega (arith, same, earlier)) ∙ unlinked.erases page own earlier
          | inr not_earlier ↦
              let same : n ≡ page = omega arith in
              rw same at (one.own_erases ∙ ap₂ worn (sym one.is) (unlinked.other_erases n (inr (omega arith))))
        ];
        other_erases = λ page out. elim out [
          | inl none ↦
              let apart : page ≢ n = λ same. none (rw same pool) in
              one.other_erases page apart ∙ unlinked.other_erases page (inl none)
          | inr from ↦ one.other_erases page (λ same. omega (arith, same, from)) ∙ unlinked.other_erases page (inr (omega arith))
        ];
        failing = one.failing ∙ unlinked.failing;
        refused = one.refused ∙ unlinked.refused;
      }

  -- in words that agree on a page its strays are the same
  strays_same : (old now : List ℕ) (page : ℕ) → length image ≤ most_image_words → page_of now page ≡ page_of old page → ((t v : ℕ) → is_stray layout now t v ≡ is_stray layout old t v)
      → IsFree old page ⊎ IsCodePage image old page → strays_in layout image now now page ≡ strays_in layout image old old page
  strays_same old now page short same tests kind = elim kind [
    | inl free ↦ no_strays layout image now now page (free_unused now page (same ∙ free)) ∙ sym (no_strays layout image old old page (free_unused old page free))
    | inr code ↦ (
        some_strays layout image now now page (code_used image now page short (code_there image old now page same code))
        ∙ stubs_same image old now (is_stray layout old) (is_stray layout now) page same tests code
        ∙ sym (some_strays layout image old old page (code_used image old page short code)))
  ]

  calls_still : (old now : List ℕ) (page : ℕ) → length image ≤ most_image_words → length now ≡ length old → page_words * page + page_words ≤ length old → page_of now page ≡ page_of old page
      → ((t v : ℕ) → is_stray layout now t v ≡ is_stray layout old t v) → IsFree old page ⊎ IsCodePage image old page → calls_in layout image now now page ≡ calls_in layout image old old page
  calls_still old now page short long inside same tests kind = elim kind [
    | inl free ↦ free_calls layout image now now page (same ∙ free) ∙ same ∙ sym (free_calls layout image old old page free)
    | inr code ↦ (
        ap (λ ss. page_of (with_calls now ss) page) (some_strays layout image now now page (code_used image now page short (code_there image old now page same code)))
        ∙ calls_same image old now (is_stray layout old) (is_stray layout now) page long inside same tests code
        ∙ sym (ap (λ ss. page_of (with_calls old ss) page) (some_strays layout image old old page (code_used image old page short code))))
  ]

  -- whether it had strays
  one_by : (old now : Memory) (page : ℕ) (some : Bool) → page < page_count → IsWhole now → length now.words ≡ length old.words → page_of now.words page ≡ page_of old.words page
      → has_strays layout image now.words page ≡ some → has_strays layout image old.words page ≡ some → calls_in layout image now.words now.words page ≡ calls_in layout image old.words old.words page
      → length (calls_in layout image now.words now.words page) ≡ page_words
      → UnlinksPage layout image old now (if some then programmed_page (erased_page now page) page (calls_in layout image now.words now.words page) else now) page some
  one_by old now page false low whole size same here is calls long = record {
    size = refl;
    others = λ other apart. refl;
    own = sym (ap (λ w. page_of w page) (no_stubs now.words (strays_in layout image now.words now.words page) here)) ∙ calls;
    is = is;
    ops = omega arith;
    own_erases = refl;
    other_erases = λ other apart. refl;
    failing = refl;
    refused = refl;
  }
  one_by old now page true low whole size same here is calls long =
      let words = now.words in
      let new = calls_in layout image words words page in
      let inside : page_words * page + page_words ≤ length words = omega (arith, whole.words) in
      let once = set_page words page blank in
      let long' : length once ≡ length words = pages.length-set_page words blank page blank_long inside in
      record {
        size = pages.length-set_page once new page long (omega (arith, long')) ∙ long';
        others = λ other apart. pages.page_other once new page other long (omega (arith, long')) apart ∙ pages.page_other words blank page other blank_long inside apart;
        own = pages.page_same once new page long (omega (arith, long')) ∙ calls;
        is = is;
        ops = omega arith;
        own_erases = get_or-set_same now.erases page (raised (slice_index now.erases page)) 0 (omega (arith, whole.erases));
        other_erases = λ other apart. get_or-set_other now.erases page other (raised (slice_index now.erases page)) 0 apart;
        failing = refl;
        refused = refl;
      }

  pub unlinked_one : (old now now' : Memory) (k : ℕ) → length image ≤ most_image_words → IsRight layout → length old.words ≡ 65536 → AreCodes layout image old.words → IsWhole now
      → IsPool layout (layout.pool_first + k) → IsUnlinked layout image old now k → now' ≡ unlinked_page layout image now (layout.pool_first + k) → IsUnlinked layout image old now' (k + 1)
  unlinked_one old now now' k short right whole codes wholly pool unlinked after =
      let page = layout.pool_first + k in
      let same = unlinked.ahead page (omega arith) in
      let tests : (t v : ℕ) → is_stray layout now.words t v ≡ is_stray layout old.words t v = λ t v. strays_still layout image old now k t v short right whole codes unlinked in
      let inside = inside_pool layout old.words page right whole pool in
      let stubs = strays_same old.words now.words page short same tests (codes page pool) in
      let calls = calls_still old.words now.words page short unlinked.size inside same tests (codes page pool) in
      let some = has_strays layout image now.words page in
      let words' = with_calls now.words (strays_in layout image now.words now.words page) in
      let long = pages.length-page_of words' page (omega (arith, length-with_calls now.words (strays_in layout image now.words now.words page), unlinked.size, inside)) in
      rw after (unlinked_more old now (unlinked_page layout image now page) k some pool unlinked
      (one_by old now page some (omega (arith, pool.to, right.pool_below_kernel)) wholly unlinked.size same refl (sym (ap are_some stubs)) calls long))

  pub unlinked_none : (old : Memory) → IsUnlinked layout image old old 0
  unlinked_none old = record {
    size = refl;
    outside = λ page out. refl;
    ahead = λ page from. refl;
    behind = λ page pool below. absurd (omega (arith, pool.from));
    ops = omega (arith, count_none (has_strays layout image old.words) layout.pool_first);
    erases = λ page pool below. absurd (omega (arith, pool.from));
    other_erases = λ page out. refl;
    failing = refl;
    refused = refl;
  }

  pub unlinked_all : (old now : Memory) → IsUnlinked layout image old now layout.pool_pages → Unlinks layout image old now
  unlinked_all old now unlinked = record {
    size = unlinked.size;
    outside = unlinked.outside;
    pages = λ page pool. unlinked.behind page pool pool.to;
    ops = unlinked.ops;
    erases = λ page pool. unlinked.erases page pool pool.to;
    other_erases = λ page out. unlinked.other_erases page (inl out);
    failing = unlinked.failing;
    refused = unlinked.refused;
  }
