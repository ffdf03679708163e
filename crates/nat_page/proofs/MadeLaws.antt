-- The page that is made: it holds its run, all else stays, and the pool stays faithful.
use Rattle.std.proofs.Common.{◌≡◌, ℕ, ◌+◌, ◌-◌, ◌*◌, ◌<◌, ◌≤◌, List, length, get_or, arith, refl, sym, ap, ◌∙◌, inl, inr, subst}
use Rattle.std.specs.Prelude.{◌≢◌, slice_index}
use Rattle.std.proofs.lemmas.Bool.{cases_eq}
use Rattle.std.proofs.lemmas.List.{length-append, get_or_append_left, get_or-append_right}
use Rattle.flash_words.specs.Pages.{word_count, page_words, word_at, set_page}
use Rattle.base.specs.Lists.{many}
use Rattle.flash_words.specs.Layouts.{IsRight, image_of, most_image_words}
use Rattle.flash_words.specs.declared.layout.Layout.{Layout}
use Rattle.flash_words.proofs.PageLaws.{length-set_page, word_in_page, word_out_of_page, take-set_page}
use Rattle.base.proofs.ManyLaws.{get_or-many, length-many}
use Rattle.nat_template.specs.Stubs.{words_of}
use Rattle.page_index.specs.Maps.{IsPool, IsFree}
use Rattle.page_index.specs.Entries.{Lists, IsEntry}
use Rattle.page_index.proofs.ChangeLaws as change
use Rattle.page_draft.specs.Runs.{address, IsRun}
use Rattle.page_draft.specs.CodePages.{page_pieces, page_size, HoldsRun, filled, made_words}
use Rattle.nat_page.specs.Links.{IsLinkIn, IsUnresolved}
use Rattle.nat_page.specs.Faithful.{IsRewritten, IsFaithful}
use Rattle.nat_page.specs.Making.{HasNoEntry, MakesPage}
use Rattle.page_draft.proofs.PieceLaws.{stands_unresolved}
use Rattle.nat_page.proofs.HeldLaws.{lists_held, held_listed, map_held, IsHeld}
use Rattle.nat_page.proofs.LinkLaws.{link_room}
use Rattle.nat_page.proofs.StayLaws.{held_used, holds_alike}
use Rattle.nat_page.proofs.FaithfulLaws.{faithful_mapped}

-- the words of a page and the erased words behind them
pub length-filled : (front : List ℕ) → length front ≤ page_words → length (filled front) ≡ page_words
length-filled front fits =
    omega (arith, length-append front (many (page_words - length front) 0xFFFF), length-many (page_words - length front) 0xFFFF)

filled_front : (front : List ℕ) (k : ℕ) → k < length front → get_or (filled front) k 0 ≡ get_or front k 0
filled_front front k below = get_or_append_left front (many (page_words - length front) 0xFFFF) 0 k below

filled_rest : (front : List ℕ) (k : ℕ) → length front ≤ k → k < page_words → get_or (filled front) k 0 ≡ 0xFFFF
filled_rest front k behind below =
    get_or-append_right front (many (page_words - length front) 0xFFFF) (length front) k 0 refl behind ∙ get_or-many (page_words - length front) 0xFFFF (k - length front) (omega arith)

-- a word of the page that is set
word_set : (words new : List ℕ) (page k : ℕ) → length words ≡ word_count → page < 480 → length new ≡ page_words → k < page_words
    → word_at (set_page words page new) (page_words * page + k) ≡ get_or new k 0
word_set words new page k whole low fits below =
    word_in_page words new page (page_words * page + k) fits (omega arith) (omega arith) (omega arith) ∙ ap (slice_index new) (omega arith)

-- the run fits into the page, and the page into flash
record Fits (image words : List ℕ) (page t last : ℕ) : Type 0 where
  inside : page_words * page + page_words ≤ length words
  low : page < 480
  short : length image ≤ most_image_words
  long : length (made_words image t last) ≡ page_words

module _ (layout : Layout) (image words : List ℕ) (page t last : ℕ)
    (right : IsRight layout) (code : IsFaithful layout image words) (pool : IsPool layout page) (run : IsRun image t last) (fits : page_size image t last ≤ page_words) where
  fits_of : Fits image words page t last
  fits_of = record {
    inside = omega (arith, code.whole, right.pool_below_kernel, pool.to);
    low = omega (arith, right.pool_below_kernel, pool.to);
    short = omega (arith, code.image_length, right.image_fits);
    long = length-filled (words_of (page_pieces image t last)) fits;
  }

  -- the page with the words of a run holds it, with no link resolved
  new_run : (leads : ℕ → ℕ → Type 0) → HoldsRun leads image (set_page words page (made_words image t last)) page t last
  new_run leads =
      let front = words_of (page_pieces image t last) in
      let word : (k : ℕ) → k < page_words → word_at (set_page words page (filled front)) (page_words * page + k) ≡ get_or (filled front) k 0 =
      λ k below. word_set words (filled front) page k code.whole fits_of.low fits_of.long below in
      record {
        run = run;
        fits = fits;
        stands = stands_unresolved leads _ _ (page_pieces image t last) (λ k below. word k (omega arith) ∙ filled_front front k below);
        rest = λ k behind below. word k below ∙ filled_rest front k behind below;
      }

  -- another page holds its run still
  other_stays : (other first end : ℕ) → IsFree words page → other ≢ page → HoldsRun (IsEntry layout words) image words other first end
      → HoldsRun (IsEntry layout (set_page words page (made_words image t last))) image (set_page words page (made_words image t last)) other first end
  other_stays other first end free apart holds =
      holds_alike _ _ _ _ _ _ _ _ (λ a v entry. change.entry_stays _ _ _ _ _ _ fits_of.long fits_of.inside free entry) (change.page_left _ _ _ _ fits_of.long fits_of.inside apart) holds

  -- the pool with the page that is made, where flash is told
  made_faithful : IsFree words page → ((i : ℕ) → i ≤ last → HasNoEntry layout words (address image t i)) → IsFaithful layout image (set_page words page (made_words image t last))
  made_faithful free unknown =
      let new = made_words image t last in
      let words' = set_page words page new in
      let long = fits_of.long in
      let inside = fits_of.inside in
      let length' : length words' ≡ length words = length-set_page words new page long inside in
      let holds = new_run (IsEntry layout words') in
      let mapped = change.still_mapped _ _ _ _ right code.whole long fits_of.low (faithful_mapped _ _ _ right code) (map_held _ _ _ _ _ _ fits_of.short holds) (λ i a v v' lists entry.
      let held : IsHeld image page t last i a v = held_listed (IsEntry layout words') image words' page t last i a v holds lists in
      unknown i held.near v' (rw held.address at entry)) in
      record {
        whole = length' ∙ code.whole;
        image_length = code.image_length;
        held = take-set_page words new page layout.image_words (omega arith) (omega (arith, right.image_below_pool, pool.from)) ∙ code.held;
        erased = λ a after before. word_out_of_page words new page a long inside (inl (omega (arith, pool.from))) ∙ code.erased a after before;
        kernel = λ a after before. word_out_of_page words new page a long inside (inr (omega (arith, fits_of.low))) ∙ code.kernel a after before;
        pages = λ other pool'. elim (cases_eq other page) [
          | inl same ↦ inr (subst (IsRewritten layout image words') (sym same) (record { first = t; last = last; holds = holds }))
          | inr apart ↦ elim (code.pages other pool') [
            | inl blank ↦
                let room : page_words * other + page_words ≤ length words = omega (arith, pool'.to, right.pool_below_kernel, code.whole) in
                inl (change.free_alike _ _ _ (change.page_left _ _ _ _ long inside apart) room (omega arith) blank)
            | inr run' ↦ inr (record { first = run'.first; last = run'.last; holds = other_stays other run'.first run'.last free apart run'.holds })
          ]
        ];
        once = mapped.once;
      }

module _ (layout : Layout) (image old new : List ℕ) (page t place : ℕ)
    (right : IsRight layout) (code : IsFaithful layout image old) (pool : IsPool layout page) (makes : MakesPage layout image old new page t place) where
  made_fits : Fits image old page t makes.prepared.last
  made_fits = fits_of layout image old page t makes.prepared.last right code pool makes.prepared.run makes.prepared.fits

  made_flash : new ≡ set_page old page (made_words image t makes.prepared.last)
  made_flash = makes.changed ∙ ap (set_page old page) makes.prepared.is

  made_run : (leads : ℕ → ℕ → Type 0) → HoldsRun leads image new page t makes.prepared.last
  made_run leads = rw made_flash (new_run layout image old page t makes.prepared.last right code pool makes.prepared.run makes.prepared.fits leads)

  -- its first entry is of the address, at the place
  pub makes_first : Lists new page 0 t place
  makes_first = rw makes.prepared.placed (lists_held (IsEntry layout new) image new page t makes.prepared.last 0 made_fits.short (made_run (IsEntry layout new)) (omega arith))

  pub makes_entry : IsEntry layout new t place
  makes_entry = record { page = page; index = 0; pool = pool; lists = makes_first }

  -- every other page stays
  page_stays : (other : ℕ) → other ≢ page → change.SamePage old new other
  page_stays other apart = rw made_flash (change.page_left old (made_words image t makes.prepared.last) page other made_fits.long made_fits.inside apart)

  -- the image stays
  pub makes_image : image_of layout new ≡ image_of layout old
  makes_image =
      ap (image_of layout) made_flash
      ∙ take-set_page old (made_words image t makes.prepared.last) page layout.image_words (omega (arith, pool.to, right.pool_below_kernel)) (omega (arith, right.image_below_pool, pool.from))

-- the page that is made holds its run, with no link resolved
pub makes_holds : (layout : Layout) (leads : ℕ → ℕ → Type 0) (image old new : List ℕ) (page t place : ℕ) → IsRight layout → IsFaithful layout image old → IsPool layout page
    → (makes : MakesPage layout image old new page t place) → HoldsRun leads image new page t makes.prepared.last
makes_holds layout leads image old new page t place right code pool makes = made_run layout image old new page t place right code pool makes leads

pub makes_other : (layout : Layout) (image old new : List ℕ) (page t place other : ℕ) → IsRight layout → IsFaithful layout image old → IsPool layout page
    → MakesPage layout image old new page t place → other ≢ page → change.SamePage old new other
makes_other layout image old new page t place other right code pool makes apart = page_stays layout image old new page t place right code pool makes other apart

module _ (layout : Layout) (image old new : List ℕ) (page t place : ℕ)
    (right : IsRight layout) (code : IsFaithful layout image old) (pool : IsPool layout page) (free : IsFree old page) (makes : MakesPage layout image old new page t place) where
  -- making a page in a free page keeps the pool faithful
  pub makes_faithful : IsFaithful layout image new
  makes_faithful =
      let made = makes.prepared in
      rw (made_flash _ _ _ _ _ _ _ right code pool makes) (made_faithful layout image old page t made.last right code pool made.run made.fits free made.unknown)

  -- every entry stays
  pub makes_entries : (a v : ℕ) → IsEntry layout old a v → IsEntry layout new a v
  makes_entries a v entry =
      let made = made_fits layout image old new page t place right code pool makes in
      rw (made_flash _ _ _ _ _ _ _ right code pool makes) (change.entry_stays layout old (made_words image t makes.prepared.last) page a v made.long made.inside free entry)

  -- each link stays where it is, with its words, and so does the run that its page holds
  other_page : (other first end : ℕ) → HoldsRun (IsEntry layout old) image old other first end → change.SamePage old new other
  other_page other first end holds =
      makes_other layout image old new page t place other right code pool makes
      (λ same. held_used (IsEntry layout old) image old page first end (omega (arith, code.image_length, right.image_fits)) (rw same at holds) free)

  makes_links : (s to : ℕ) → IsLinkIn layout image old s to → IsLinkIn layout image new s to
  makes_links s to link =
      let holds = holds_alike _ _ _ _ _ _ _ _ makes_entries (other_page _ _ _ link.holds) link.holds in
      record { page = link.page; pool = link.pool; first = link.first; last = link.last; holds = holds; link = link.link }

  makes_link_words : (s to k : ℕ) → IsLinkIn layout image old s to → k < 3 → word_at new (s + k) ≡ word_at old (s + k)
  makes_link_words s to k link below =
      let room = link_room image link.page link.first link.last s to link.holds.fits link.link in
      let same = (other_page _ _ _ link.holds).word (s + k - page_words * link.page) (omega arith) in
      let here : page_words * link.page + (s + k - page_words * link.page) ≡ s + k = omega arith in
      sym (ap (word_at new) here) ∙ sym same ∙ ap (word_at old) here

  pub makes_unresolved : (s to : ℕ) → IsUnresolved layout image old s to → IsUnresolved layout image new s to
  makes_unresolved s to stub =
      let here : s ≡ s + 0 = omega arith in
      record {
        link = makes_links s to stub.link;
        call = ap (word_at new) here ∙ makes_link_words s to 0 stub.link (omega arith) ∙ sym (ap (word_at old) here) ∙ stub.call;
        bridge = makes_link_words s to 1 stub.link (omega arith) ∙ stub.bridge;
      }
