-- What a run that recycles no page erases.
use Rattle.std.proofs.Common.{◌≡◌, ◌≢◌, ℕ, zero, suc, ◌+◌, ◌-◌, ◌*◌, ◌/◌, ◌%◌, ◌<◌, ◌≤◌, ◌==◌, Bool, true, false, List, [], ◌∷◌, length, Option, Some, None, refl, sym, ap, ◌∙◌, subst, arith, inl, inr}
use Rattle.std.specs.Prelude.{Ok, slice_index, if◌then◌else◌}
use Rattle.std.proofs.lemmas.Bool.{cases_eq}
use Rattle.std.proofs.lemmas.Bool.Decides.{nat_tests}
use Rattle.std.proofs.lemmas.List.{get_or-set_other}
use Rattle.flash_words.specs.declared.layout.Layout.{Layout}
use Rattle.flash_words.specs.Layouts.{image_of, IsRight}
use Rattle.flash_words.specs.Memory.{Memory}
use Rattle.flash_words.specs.Operations.{programmed_page}
use Rattle.flash_words.specs.Pages.{word_at, page_of, raised}
use Rattle.flash_words.proofs.PageLaws.{word_in_page, word_out_of_page, page_word, length-page_of}
use Rattle.page_index.specs.Maps.{IsPool, IsFree}
use Rattle.page_index.proofs.MapLaws.{free_word}
use Rattle.nat_template.specs.Stubs.{call_word, bridge_entry}
use Rattle.page_draft.specs.Standing.{jump_word}
use Rattle.nat_page.specs.Faithful.{IsFaithful}
use Rattle.nat_page.specs.Links.{IsUnresolved, with_two_words}
use Rattle.nat_page.specs.Making.{IsPrepared, MakesPage}
use Rattle.nat_page.specs.Used.{used_pages}
use Rattle.nat_page.proofs.FaithfulLaws.{faithful_mapped}
use Rattle.nat_page.proofs.MadeLaws.{makes_faithful, makes_other}
use Rattle.nat_page.proofs.RelinkLaws.{link_placed}
use Rattle.nat_page.proofs.TwoWords.{first_of_two, word_beside_two, length-with_two_words}
use Rattle.nat_page.proofs.UsedLaws.{all_used}
use Rattle.branch_bridge.specs.declared.arrival.Moved.{Moved}
use Rattle.branch_bridge.specs.declared.through.Arrival.{Arrival}
use Rattle.branch_bridge.specs.Operating.{Program, Performed, perform, stop_at}
use Rattle.branch_bridge.specs.Resolving.{resolving}
use Rattle.branch_bridge.specs.Arrivals.{Store, Makes, Arrives, ArrivesFrom, CameThrough}
use Rattle.branch_bridge.proofs.PerformLaws.{rewriting_done}
use Rattle.branch_bridge.proofs.ThroughLaws.{is_to_resolve}
use Rattle.program_steps.proofs.Arriving.{same_found}
use Rattle.theorem_reader.specs.Wear.{jumps_in, IsSpared}
use Rattle.theorem_reader.specs.Pools.{number_where}
use Rattle.theorem_reader.proofs.Linking.{not_stopped}
use Rattle.theorem_reader.proofs.StubWords.{one_of_two}
use Rattle.theorem_reader.proofs.Rewriting.{one_performed, rewriting_erases, beside, erased_more}

-- Jumps among words. --------------------------------------------------------------------------------------

abbrev jump_of : ℕ → ℕ
jump_of w = if w == 0x940C then 1 else 0

abbrev is_jump : List ℕ → ℕ → ℕ
is_jump words a = jump_of (slice_index words a)

-- of n words from an address on
abbrev jumps_from : List ℕ → (a n : ℕ) → ℕ
jumps_from words a n = number_where (λ b. slice_index words b == 0x940C) a n

jumps_most : (words words' : List ℕ) (a n : ℕ) → ((k : ℕ) → k < n → is_jump words (a + k) ≤ is_jump words' (a + k)) → jumps_from words a n ≤ jumps_from words' a n
unfolding number_where
jumps_most words words' a zero each = omega arith
jumps_most words words' a (suc n) each = omega (arith, each n (omega arith), jumps_most words words' a n (λ k below. each k (omega (arith, below))))

jumps_more : (words words' : List ℕ) (a n i : ℕ) → i < n → is_jump words (a + i) ≡ 0 → is_jump words' (a + i) ≡ 1 → ((k : ℕ) → k < n → is_jump words (a + k) ≤ is_jump words' (a + k))
    → jumps_from words a n + 1 ≤ jumps_from words' a n
unfolding number_where
jumps_more words words' a zero i below was is each = absurd (omega (arith, below))
jumps_more words words' a (suc n) i below was is each = elim (cases_eq i n) [
  | inl same ↦
      let first : is_jump words (a + n) ≡ 0 = subst (λ k. is_jump words (a + k) ≡ 0) same was in
      let second : is_jump words' (a + n) ≡ 1 = subst (λ k. is_jump words' (a + k) ≡ 1) same is in
      omega (arith, first, second, jumps_most words words' a n (λ k less. each k (omega (arith, less))))
  | inr apart ↦
      omega (arith, each n (omega arith), jumps_more words words' a n i (omega (arith, below, apart)) was is (λ k less. each k (omega (arith, less))))
]

no_jumps : (words : List ℕ) (a n : ℕ) → ((k : ℕ) → k < n → is_jump words (a + k) ≡ 0) → jumps_from words a n ≡ 0
unfolding number_where
no_jumps words a zero none = refl
no_jumps words a (suc n) none = omega (arith, none n (omega arith), no_jumps words a n (λ k less. none k (omega (arith, less))))

jump_same : (words words' : List ℕ) (a : ℕ) → word_at words' a ≡ word_at words a → is_jump words a ≤ is_jump words' a
jump_same words words' a same = let e : is_jump words' a ≡ is_jump words a = ap jump_of same in omega (arith, e)

jump_other : (words : List ℕ) (a w : ℕ) → word_at words a ≡ w → w ≢ 0x940C → is_jump words a ≡ 0
jump_other words a w is other = let none : jump_of w ≡ 0 = grind (arith, nat_tests) in ap jump_of is ∙ none

-- One flash after another. --------------------------------------------------------------------------------

pub spares_self : (m : Memory) → IsSpared m m
spares_self m page below = omega arith

pub spares_on : (old mid new : Memory) → IsSpared old mid → IsSpared mid new → IsSpared old new
spares_on old mid new first second page below = omega (arith, first page below, second page below)

-- A page in which a stub is resolved. ---------------------------------------------------------------------

record StubResolved (old new : Memory) (s place : ℕ) : Type 0 where
  whole : length old.words ≡ 65536
  low : s / 128 < 480
  room : s % 128 + 1 < 128
  call : word_at old.words s ≡ call_word
  bridge : word_at old.words (s + 1) ≡ bridge_entry
  done : perform old (resolving old.words s place) ≡ record { memory = new; stop = None }

-- the words of the page afterwards
word_resolved : (old new : Memory) (s place k : ℕ) → StubResolved old new s place → k < 128
    → word_at new.words (128 * (s / 128) + k) ≡ word_at (with_two_words old.words s jump_word place) (128 * (s / 128) + k)
word_resolved old new s place k is below =
    let page = s / 128 in
    let words = with_two_words old.words s jump_word place in
    let inside : 128 * page + 128 ≤ length old.words = omega (arith, is.whole, is.low) in
    let inside' : 128 * page + 128 ≤ length words = omega (arith, inside, length-with_two_words old.words s jump_word place) in
    let at : 128 * page + k - 128 * page ≡ k = omega arith in
    ap (λ ws. word_at ws (128 * page + k)) (rewriting_done old new page (page_of words page) inside is.done)
    ∙ word_in_page old.words (page_of words page) page (128 * page + k) (length-page_of words page inside') inside (omega arith) (omega (arith, below))
    ∙ ap (slice_index (page_of words page)) at ∙ page_word words page k below

jump_kept : (old new : Memory) (s place k : ℕ) → StubResolved old new s place → k < 128 → is_jump old.words (128 * (s / 128) + k) ≤ is_jump new.words (128 * (s / 128) + k)
jump_kept old new s place k is below =
    let a = 128 * (s / 128) + k in
    elim (one_of_two a s) [
      | inl (inl same) ↦ (let none = jump_other old.words a call_word (ap (word_at old.words) same ∙ is.call) (λ e. omega (arith, e)) in omega (arith, none))
      | inl (inr same) ↦ (let none = jump_other old.words a bridge_entry (ap (word_at old.words) same ∙ is.bridge) (λ e. omega (arith, e)) in omega (arith, none))
      | inr apart ↦ jump_same old.words new.words a (word_resolved old new s place k is below ∙ word_beside_two old.words s a jump_word place apart.0 apart.1)
    ]

resolved_spares : (old new : Memory) (s place : ℕ) → StubResolved old new s place → IsSpared old new
resolved_spares old new s place is page below =
    let own = s / 128 in
    let words = page_of (with_two_words old.words s jump_word place) own in
    let inside : 128 * own + 128 ≤ length old.words = omega (arith, is.whole, is.low) in
    let long = length-page_of (with_two_words old.words s jump_word place) own (omega (arith, inside, length-with_two_words old.words s jump_word place)) in
    let erases = rewriting_erases old new own words inside is.done in
    elim (cases_eq page own) [
      | inl same ↦
          let at : 128 * own + s % 128 ≡ s = omega arith in
          let was : is_jump old.words (128 * own + s % 128) ≡ 0 = jump_other old.words (128 * own + s % 128) call_word (ap (word_at old.words) at ∙ is.call) (λ e. omega (arith, e)) in
          let here : word_at new.words (128 * own + s % 128) ≡ jump_word =
          word_resolved old new s place (s % 128) is (omega (arith, is.room)) ∙ ap (word_at (with_two_words old.words s jump_word place)) at
          ∙ first_of_two old.words s jump_word place (omega (arith, is.whole, is.low, is.room)) in
          let now : is_jump new.words (128 * own + s % 128) ≡ 1 = ap jump_of here in
          let more = jumps_more old.words new.words (128 * own) 128 (s % 128) (omega (arith, is.room)) was now (λ k less. jump_kept old new s place k is less) in
          let There : ℕ → Type 0 = λ p. slice_index new.erases p + jumps_in old.words p ≤ slice_index old.erases p + jumps_in new.words p in
          subst There (sym same) (omega (arith, more, (erased_more old new own erases)))
      | inr apart ↦
          let still : slice_index new.erases page ≡ slice_index old.erases page = ap (λ es. slice_index es page) erases
          ∙ get_or-set_other old.erases own page (raised (slice_index old.erases own)) 0 apart in
          let most = jumps_most old.words new.words (128 * page) 128 (λ k less. jump_same old.words new.words (128 * page + k)
          (ap (λ ws. word_at ws (128 * page + k)) (rewriting_done old new own words inside is.done) ∙ word_out_of_page old.words words own (128 * page + k) long inside
          (beside page own k less apart))) in
          omega (arith, still, most)
    ]

-- A page that is made. ------------------------------------------------------------------------------------

pub programmed_is : (m m' : Memory) (again : Bool) (page : ℕ) (words : List ℕ) → perform m (Program again page words ∷ []) ≡ record { memory = m'; stop = None } → m' ≡ programmed_page m page words
programmed_is m m' again page words performed =
    one_performed (λ r. r ≡ record { memory = m'; stop = None } → m' ≡ programmed_page m page words) m (Program again page words) []
    (λ is. absurd (let told : Some (stop_at m (Program again page words)) ≡ None = ap (λ (r : Performed). r.stop) is in cc)) (λ is. sym (ap (λ (r : Performed). r.memory) is)) performed

-- what an arrival leaves before its stub is resolved
record Landed (old new : Memory) : Type 0 where
  spares : IsSpared old new
  whole : length new.words ≡ 65536
  kept : (a : ℕ) → word_at old.words a ≢ 0xFFFF → word_at new.words a ≡ word_at old.words a

landed_same : (old new : Memory) → length old.words ≡ 65536 → new ≡ old → Landed old new
landed_same old new whole same = subst (Landed old) (sym same) (record { spares = spares_self old; whole = whole; kept = λ a used. refl })

made_lands : (layout : Layout) (image : List ℕ) (old new : Memory) (page t place : ℕ) (words : List ℕ) → IsRight layout → IsFaithful layout image old.words → IsPool layout page → IsFree old.words page
    → IsPrepared layout image old.words page t words place → new ≡ programmed_page old page words → Landed old new
made_lands layout image old new page t place words right code pool free prepared done =
    let makes : MakesPage layout image old.words new.words page t place = record { words = words; prepared = prepared; changed = ap (λ (m : Memory). m.words) done } in
    let other = λ (q : ℕ) (apart : q ≢ page). makes_other layout image old.words new.words page t place q right code pool makes apart in
    let erases : (q : ℕ) → slice_index new.erases q ≡ slice_index old.erases q = λ q. ap (λ (m : Memory). slice_index m.erases q) done in
    record {
      spares = λ q below. elim (cases_eq q page) [
        | inl same ↦
            let none : jumps_in old.words page ≡ 0 =
            no_jumps old.words (128 * page) 128 (λ k less. jump_other old.words (128 * page + k) 0xFFFF (free_word old.words page k less free) (λ e. omega (arith, e))) in
            let here : jumps_in old.words q ≡ 0 = ap (jumps_in old.words) same ∙ none in
            omega (arith, here, erases q)
        | inr apart ↦
            let most = jumps_most old.words new.words (128 * q) 128 (λ k less. jump_same old.words new.words (128 * q + k) (sym ((other q apart).word k less))) in
            omega (arith, most, erases q)
      ];
      whole = (makes_faithful layout image old.words new.words page t place right code pool free makes).whole;
      kept = λ a used. elim (cases_eq (a / 128) page) [
        | inl same ↦
            let at : 128 * page + a % 128 ≡ a = omega (arith, same) in
            absurd (used (ap (word_at old.words) (sym at) ∙ free_word old.words page (a % 128) (omega arith) free))
        | inr apart ↦
            let at : 128 * (a / 128) + a % 128 ≡ a = omega arith in
            ap (word_at new.words) (sym at) ∙ sym ((other (a / 128) apart).word (a % 128) (omega arith)) ∙ ap (word_at old.words) at
      ];
    }

prepared_lands : (layout : Layout) (old new : Store) (page t : ℕ) (moved : Moved) → IsRight layout → IsFaithful layout (image_of layout old.flash.words) old.flash.words → IsPool layout page
    → IsFree old.flash.words page → Makes layout old new page t false (Ok moved) → Landed old.flash new.flash
prepared_lands layout old new page t moved right code pool free (Makes.Made words place prepared done noted is) =
    made_lands layout (image_of layout old.flash.words) old.flash new.flash page t place words right code pool free prepared (programmed_is old.flash new.flash false page words done)
prepared_lands layout old new page t moved right code pool free (Makes.NotMade words place prepared stop done same is) = absurd (cc)

-- where the pool has a free page, or none is made
arrives_lands : (layout : Layout) (old new : Store) (t : ℕ) (moved : Moved) (made : Bool) → IsRight layout → IsFaithful layout (image_of layout old.flash.words) old.flash.words → moved.made ≡ made
    → used_pages layout old.flash.words + (if made then 1 else 0) ≤ layout.pool_pages → Arrives layout old new t (Ok moved) → Landed old.flash new.flash
arrives_lands layout old new t moved false right code none fits arrives = landed_same old.flash new.flash code.whole (same_found layout old new t moved arrives none)
arrives_lands layout old new t moved true right code made fits (Arrives.Beyond outside same answer) = absurd (cc)
arrives_lands layout old new t moved true right code made fits (Arrives.Found place inside found same answer) = landed_same old.flash new.flash code.whole same
arrives_lands layout old new t moved true right code made fits (Arrives.Free page inside missed lowest makes) = prepared_lands layout old new page t moved right code lowest.pool lowest.free makes
arrives_lands layout old new t moved true right code made fits (Arrives.Full inside missed full recycles) =
    absurd (omega (arith, fits, all_used layout old.flash.words (faithful_mapped layout (image_of layout old.flash.words) old.flash.words right code) full))

-- An arrival. ---------------------------------------------------------------------------------------------

pub arrival_spares : (layout : Layout) (old new : Store) (t : ℕ) (stub : Option ℕ) (arrival : Arrival) → IsRight layout → IsFaithful layout (image_of layout old.flash.words) old.flash.words
    → CameThrough layout old.flash.words stub t
    → arrival.refused ≡ None → used_pages layout old.flash.words + (if arrival.made then 1 else 0) ≤ layout.pool_pages → ArrivesFrom layout old new t stub arrival → IsSpared old.flash new.flash
arrival_spares layout old new t stub arrival right code came unrefused fits (ArrivesFrom.Stopped refused arrives is) =
    absurd (let e : Some refused ≡ None = sym (ap (λ (a : Arrival). a.refused) is) ∙ unrefused in cc)
arrival_spares layout old new t stub arrival right code came unrefused fits (ArrivesFrom.Went moved arrives nothing is) =
    (arrives_lands layout old new t moved moved.made right code refl (subst (λ (a : Arrival). used_pages layout old.flash.words + (if a.made then 1 else 0) ≤ layout.pool_pages) is fits)
    arrives).spares
arrival_spares layout old new t stub arrival right code came unrefused fits (ArrivesFrom.Resolved mid moved s arrives some stop done same is) =
    let landed = arrives_lands layout old mid t moved moved.made right code refl (subst (λ (a : Arrival). used_pages layout old.flash.words + (if a.made then 1 else 0) ≤ layout.pool_pages) is fits)
    arrives in
    let to = is_to_resolve moved.recycled stub s some in
    let link : IsUnresolved layout (image_of layout old.flash.words) old.flash.words s t = subst (λ x. CameThrough layout old.flash.words x t) to.same came in
    let at = link_placed layout (image_of layout old.flash.words) old.flash.words s t jump_word moved.place right code.whole link.link in
    let no_stop : stop ≡ None = not_stopped stop (sym (ap (λ (a : Arrival). a.refused) is) ∙ unrefused) in
    spares_on old.flash mid.flash new.flash landed.spares (resolved_spares mid.flash new.flash s moved.place (record {
      whole = landed.whole;
      low = at.low;
      room = at.room;
      call = landed.kept s (λ e. omega (arith, e, link.call)) ∙ link.call;
      bridge = landed.kept (s + 1) (λ e. omega (arith, e, link.bridge)) ∙ link.bridge;
      done = subst (λ x. perform mid.flash (resolving mid.flash.words s moved.place) ≡ record { memory = new.flash; stop = x }) no_stop done;
    }))
