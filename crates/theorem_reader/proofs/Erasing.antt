-- Which pages a restart erases: just those whose words change.
use Rattle.std.proofs.Common.{◌≡◌, ◌≢◌, ℕ, ◌+◌, ◌-◌, ◌*◌, ◌≤◌, ◌<◌, ◌==◌, ◌&&◌, Bool, true, false, not, if◌then◌else◌, List, [], ◌∷◌, length, slice_index, refl, sym, ap, ◌∙◌, arith, inl, inr}
use Rattle.std.specs.Prelude.{◌||◌}
use Rattle.std.proofs.lemmas.Bool.{cases_lt, and_parts, eqb-true, cases_Bool}
use Rattle.flash_words.specs.declared.layout.Layout.{Layout}
use Rattle.flash_words.specs.Layouts.{IsRight}
use Rattle.flash_words.specs.Memory.{Memory}
use Rattle.flash_words.specs.Pages.{page_of, page_words, raised, word_at}
use Rattle.flash_words.proofs.PageLaws.{page_word, length-page_of}
use Rattle.flash_dump.specs.WrittenDumps.{is_erased}
use Rattle.flash_dump.proofs.ErasedLaws.{all_are_blank}
use Rattle.nat_template.specs.declared.piece.Piece.{Piece}
use Rattle.nat_template.specs.declared.piece.Piece.TheVariants.{Fixed, Link}
use Rattle.nat_template.specs.Stubs.{call_word, bridge_entry}
use Rattle.page_index.specs.Maps.{IsPool}
use Rattle.page_index.proofs.ChangeLaws.{free_alike}
use Rattle.page_draft.specs.Standing.{size, jump_word}
use Rattle.page_draft.specs.CodePages.{Anywhere}
use Rattle.page_draft.proofs.PieceLaws.{size-cons}
use Rattle.nat_page.specs.Links.{with_two_words}
use Rattle.nat_page.specs.Unlinking.{is_picked, links_where, with_calls, pieces_in, stubs_where, are_some}
use Rattle.nat_page.proofs.TwoWords.{first_of_two}
use Rattle.nat_page.proofs.UnlinkLaws.{calls_beside, beside_below, links_among, no_stubs}
use Rattle.nat_page.proofs.WalkLaws.{own_run}
use Rattle.tk_restart.specs.declared.sweeping.Kept.{Kept}
use Rattle.tk_restart.specs.Restarting.{Restarts, worn}
use Rattle.theorem_reader.specs.Wear.{IsSamePage}

-- Stubs that call the bridge again. -----------------------------------------------------------------------

-- a word that changes
record Changes (words words' : List ℕ) (from to : ℕ) : Type 0 where
  at : ℕ
  low : from ≤ at
  high : at < to
  apart : word_at words' at ≢ word_at words at

changed_by : (words : List ℕ) (test : ℕ → ℕ → Bool) (a : ℕ) (pieces : List Piece) → a + size pieces ≤ length words → are_some (links_where words test a pieces) ≡ true
    → Changes words (with_calls words (links_where words test a pieces)) a (a + size pieces)
changed_by words test a [] inside some = absurd (cc)
changed_by words test a (Fixed word ∷ pieces) inside some =
    let long = size-cons (Fixed word) pieces in
    let one = changed_by words test (a + 1) pieces (omega (arith, inside, long)) some in
    record { at = one.at; low = omega (arith, one.low); high = omega (arith, one.high, long); apart = one.apart }
changed_by words test a (Link t ∷ pieces) inside some =
    let long = size-cons (Link t) pieces in
    let stubs = links_where words test (a + 3) pieces in
    let end = a + size (Link t ∷ pieces) in
    let Picked : Bool → Type 0 = λ b. is_picked words test a t ≡ b → are_some (if b then a ∷ stubs else stubs) ≡ true → Changes words (with_calls words (if b then a ∷ stubs else stubs)) a end in
    (elim (is_picked words test a t) as Picked [
      | true ↦ λ is any.
          let was : word_at words a ≡ jump_word = eqb-true _ _ (and_parts (word_at words a == jump_word) (test t (word_at words (a + 1))) is).0 in
          let now : word_at (with_calls words (a ∷ stubs)) a ≡ call_word =
          calls_beside (with_two_words words a call_word bridge_entry) stubs a (beside_below (a + 3) (a + 3 + size pieces) a stubs (omega arith) (links_among words test (a + 3) pieces))
          ∙ first_of_two words a call_word bridge_entry (omega (arith, inside, long)) in
          record { at = a; low = omega arith; high = omega (arith, long); apart = λ same. omega (arith, same, was, now) }
      | false ↦ λ is any.
          let one = changed_by words test (a + 3) pieces (omega (arith, inside, long)) any in
          record { at = one.at; low = omega (arith, one.low); high = omega (arith, one.high, long); apart = one.apart }
    ]) refl some

-- One page. -----------------------------------------------------------------------------------------------

-- it has the same words, and wasn't erased; or it hasn't, and was, once
pub data Turned (old new : Memory) (page : ℕ) : Type 0 where
  Same : IsSamePage old.words new.words page → slice_index new.erases page ≡ slice_index old.erases page → Turned old new page
  Other : (IsSamePage old.words new.words page → ⊥) → slice_index new.erases page ≡ raised (slice_index old.erases page) → Turned old new page

same_words : (words words' : List ℕ) (page : ℕ) → page_of words' page ≡ page_of words page → IsSamePage words words' page
same_words words words' page same k below = sym (page_word words' page k below) ∙ ap (λ (w : List ℕ). slice_index w k) same ∙ page_word words page k below

-- a page that is kept is erased where it has stubs that stray, any other where it has words
where_kept : (blank kept some : Bool) → kept ≡ true → ((not blank && not kept) || (kept && some)) ≡ some
where_kept blank false some is = absurd (cc)
where_kept true true some is = refl
where_kept false true some is = refl

where_not : (blank kept some : Bool) → kept ≡ false → ((not blank && not kept) || (kept && some)) ≡ not blank
where_not blank true some is = absurd (cc)
where_not true false some is = refl
where_not false false some is = refl

-- the words of a page that is kept and has stubs that stray
pub other_words : (image words words' : List ℕ) (stray : ℕ → ℕ → Bool) (page : ℕ) → length words ≡ 65536 → page < 480
    → page_of words' page ≡ page_of (with_calls words (stubs_where stray image words page)) page
    → size (pieces_in image words page) ≤ 128 → are_some (stubs_where stray image words page) ≡ true → IsSamePage words words' page → ⊥
other_words image words words' stray page whole low is fits some same =
    let new = with_calls words (stubs_where stray image words page) in
    let one = changed_by words stray (page_words * page) (pieces_in image words page) (omega (arith, whole, low, fits)) some in
    let k = one.at - 128 * page in
    let below : k < 128 = omega (arith, one.high, one.low, fits) in
    let here : 128 * page + k ≡ one.at = omega (arith, one.low) in
    one.apart (ap (word_at new) (sym here) ∙ sym (same_words new words' page is k below) ∙ same k below ∙ ap (word_at words) here)

-- outside the pool nothing changes
turned_out : (layout : Layout) (image : List ℕ) (old new : Memory) (told : Kept) (page : ℕ) → Restarts layout image old new told → (IsPool layout page → ⊥) → Turned old new page
turned_out layout image old new told page restarts out = Same (same_words old.words new.words page (restarts.keeps.outside page out)) (restarts.other_erases page out)

turned_in : (layout : Layout) (image : List ℕ) (old new : Memory) (told : Kept) (page : ℕ) → IsRight layout → length old.words ≡ 65536 → Restarts layout image old new told → IsPool layout page
    → Turned old new page
turned_in layout image old new told page right whole restarts pool =
    let keeps = restarts.keeps in
    let stray = restarts.stray in
    let kept = restarts.kept page in
    let stubs = stubs_where stray image old.words page in
    let blank = is_erased (page_of old.words page) in
    let count = slice_index old.erases page in
    let low : page < 480 = omega (arith, pool.to, right.pool_below_kernel) in
    let long : length (page_of old.words page) ≡ 128 = length-page_of old.words page (omega (arith, whole, low)) in
    let by = restarts.erases page pool in
    elim (cases_Bool kept) [
      | inl is ↦ (
          let test = where_kept blank kept (are_some stubs) is in
          let own = keeps.keeps page pool is in
          let code = ((keeps.are page pool).0 is).code in
          elim (cases_Bool (are_some stubs)) [
            | inl some ↦ Other (other_words image old.words new.words stray page whole low own (own_run Anywhere image old.words page code.first code.last code.holds).holds.fits some)
                (by ∙ ap (λ b. worn b count) (test ∙ some))
            | inr none ↦ Same (same_words old.words new.words page (own ∙ ap (λ w. page_of w page) (no_stubs old.words stubs none))) (by ∙ ap (λ b. worn b count) (test ∙ none))
          ])
      | inr not_kept ↦ (
          let test = where_not blank kept (are_some stubs) not_kept in
          let free = keeps.drops page pool not_kept in
          elim (cases_Bool blank) [
            | inl is ↦ Same (same_words old.words new.words page (free ∙ sym ((all_are_blank (page_of old.words page) long).0 is))) (by ∙ ap (λ b. worn b count) (test ∙ ap not is))
            | inr filled ↦ Other (λ same.
                let was = free_alike new.words old.words page (record { word = same }) (omega (arith, whole, keeps.size, low)) (omega (arith, whole, low)) free in
                let both : true ≡ false = sym ((all_are_blank (page_of old.words page) long).1 was) ∙ filled in
                absurd (cc)) (by ∙ ap (λ b. worn b count) (test ∙ ap not filled))
          ])
    ]

pub turned : (layout : Layout) (image : List ℕ) (old new : Memory) (told : Kept) (page : ℕ) → IsRight layout → length old.words ≡ 65536 → Restarts layout image old new told → Turned old new page
turned layout image old new told page right whole restarts = elim (cases_lt page layout.pool_first) [
  | inl before ↦ turned_out layout image old new told page restarts (λ pool. omega (arith, before, pool.from))
  | inr from ↦ elim (cases_lt page (layout.pool_first + layout.pool_pages)) [
    | inl to ↦ turned_in layout image old new told page right whole restarts (record { from = omega (arith, from); to = to })
    | inr behind ↦ turned_out layout image old new told page restarts (λ pool. omega (arith, behind, pool.to))
  ]
]

pub erased_once : (old new : Memory) (page : ℕ) → Turned old new page → (IsSamePage old.words new.words page → ⊥) → slice_index new.erases page ≡ raised (slice_index old.erases page)
erased_once old new page (Same same still) other = absurd (other same)
erased_once old new page (Other other more) other' = more

pub erased_never : (old new : Memory) (page : ℕ) → Turned old new page → IsSamePage old.words new.words page → slice_index new.erases page ≡ slice_index old.erases page
erased_never old new page (Same same still) same' = still
erased_never old new page (Other other more) same = absurd (other same)
