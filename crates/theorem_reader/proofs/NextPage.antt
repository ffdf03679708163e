-- Which page an arrival makes.
use Rattle.std.proofs.Common.{◌≡◌, ℕ, ◌+◌, ◌-◌, ◌*◌, ◌/◌, ◌%◌, ◌<◌, ◌≤◌, cond, nat_le, if◌then◌else◌, slice_index, Bool, true, false, List, length, inl, inr, Option, Some, None, Ok, refl, sym, ap}
use Rattle.std.proofs.Common.{ap₂, ◌∙◌, arith, subst}
use Rattle.std.specs.Prelude.{◌&&◌}
use Rattle.std.proofs.lemmas.Bool.Decides.{nat_tests}
use Rattle.std.proofs.lemmas.List.FromFn.{length-map-range_with_len, get_or-map-range_with_len}
use Rattle.std.proofs.lemmas.Option.{same_Some}
use Rattle.sram_layout.specs.Bytes.{byte_count, byte_at, data_word_at}
use Rattle.sram_layout.specs.Cells.{ring_cell, entry_at}
use Rattle.sram_layout.specs.Regions.{place_tables, is_within}
use Rattle.sram_layout.proofs.Laws.{word_same}
use Rattle.flash_words.specs.Layouts.{IsRight, layout_of, image_of}
use Rattle.flash_words.specs.declared.layout.Layout.{Layout}
use Rattle.flash_words.specs.Pages.{page_words}
use Rattle.mote_core.specs.declared.mote.Mote.{Mote}
use Rattle.page_index.specs.Maps.{IsPool, IsFree, page_word}
use Rattle.page_index.specs.Entries.{IsEntry}
use Rattle.nat_page.specs.Faithful.{IsFaithful}
use Rattle.nat_page.specs.Making.{HasNoFree, IsLowestFree}
use Rattle.nat_page.proofs.HeldLaws.{original_held}
use Rattle.branch_bridge.specs.declared.arrival.Moved.{Moved}
use Rattle.branch_bridge.specs.declared.through.Arrival.{Arrival}
use Rattle.addr_tables.specs.Changes.{Finds, noted, is_in, forgotten_byte, forgotten}
use Rattle.addr_tables.proofs.NoteLaws.{rest_noted}
use Rattle.branch_bridge.specs.Arrivals.{Store, ring_of, Makes, Made, NotMade, Recycles, NotUnlinked, NotErased, Erased, Arrives, Beyond, Found, Free, Full, ArrivesFrom, CameThrough}
use Rattle.branch_bridge.specs.Arrivals.{Stopped, Went, Resolved}
use Rattle.branch_bridge.proofs.MakeLaws.{ring_kept}
use Rattle.program_steps.proofs.Arriving.{is_made}
use Rattle.theorem_reader.specs.Acts as acts
use Rattle.theorem_reader.specs.Acts.{IsNext, Lowest, InTurn}
use Rattle.theorem_reader.specs.Pools.{pool_size, IsErased, IsPlaceOf}
use Rattle.theorem_reader.proofs.OtherPages.{IsReady, made_here, recycled_stays}
use Rattle.theorem_reader.proofs.RefusedPages.{recycled_again}
use Rattle.theorem_reader.proofs.Pooling.{pool_begins, in_pool, from_pool, blank_word}

-- RING, as the reader reads it
pub ring_is : (m : Mote) → ring_of m.sram ≡ acts.ring_of m
unfolding byte_at data_word_at
ring_is m = refl

-- RING stays where a place is noted, and where a page is forgotten
ring_noted : (old new : List ℕ) (t place : ℕ) → new ≡ noted old t place → ring_of new ≡ ring_of old
ring_noted old new t place is = ap ring_of is ∙ ring_kept old (noted old t place) (rest_noted old t place)

ring_found : (layout : Layout) (words old new : List ℕ) (t : ℕ) (result : Option ℕ) → Finds layout words old new t result → ring_of new ≡ ring_of old
ring_found layout words old new t result (Finds.Hit place there answer is) = ring_noted old new t place is
ring_found layout words old new t result (Finds.Entered place there entry answer is) = ring_noted old new t place is
ring_found layout words old new t result (Finds.Missed there none answer is) = ap ring_of is

forgets_far : (old : List ℕ) (page a : ℕ) → 0x0100 ≤ a → a < place_tables.first → byte_at (forgotten old page) a ≡ byte_at old a
unfolding forgotten byte_at
forgets_far old page a from low =
    let apart : is_within place_tables a ≡ false = grind (arith, nat_tests) in
    let there : 0x0100 + (a - 0x0100) ≡ a = omega arith in
    get_or-map-range_with_len (forgotten_byte old page) 0x0100 byte_count (a - 0x0100) a 0 (omega arith) there ∙ ap (λ t. cond (t && is_in page (entry_at old (4 * (a / 4)))) 0 (byte_at old a)) apart

forgotten_long : (old : List ℕ) (page : ℕ) → length (forgotten old page) ≡ byte_count
unfolding forgotten
forgotten_long old page = length-map-range_with_len (forgotten_byte old page) 0x0100 byte_count

ring_forgot : (old : List ℕ) (page : ℕ) → ring_of (forgotten old page) ≡ ring_of old
unfolding data_word_at
ring_forgot old page = ap₂ (λ low high. low + 256 * high) (forgets_far old page ring_cell (omega arith) (omega arith)) (forgets_far old page (ring_cell + 1) (omega arith) (omega arith))

-- where no page was made
pub made_true : (b : Bool) → b ≡ true → b ≡ false → ⊥
made_true b made unmade = let e : ◌≡◌ {A = Bool} true false = sym made ∙ unmade in absurd (cc)

ring_by : (layout : Layout) (old new : Store) (t : ℕ) (moved : Moved) → Arrives layout old new t (Ok moved) → moved.made ≡ false → ring_of new.sram ≡ ring_of old.sram
ring_by layout old new t moved (Beyond out same answer) unmade = absurd (cc)
ring_by layout old new t moved (Found place inside finds same answer) unmade = ring_found layout old.flash.words old.sram new.sram t (Some place) finds
ring_by layout old new t moved (Free page inside finds lowest makes) unmade = absurd (made_true moved.made (is_made makes) unmade)
ring_by layout old new t moved (Full inside finds none recycles) unmade = absurd (made_true moved.made (recycled_again layout old new (layout.pool_first + ring_of old.sram) t moved recycles).0 unmade)

ring_from : (layout : Layout) (old new : Store) (t : ℕ) (stub : Option ℕ) (arrival : Arrival) (place : ℕ) → ArrivesFrom layout old new t stub arrival → arrival.made ≡ false
    → arrival.place ≡ Some place → ring_of new.sram ≡ ring_of old.sram
ring_from layout old new t stub arrival place (Stopped refused arrives is) unmade there = absurd (let e : None ≡ Some place = sym (ap (λ (a : Arrival). a.place) is) ∙ there in cc)
ring_from layout old new t stub arrival place (Went moved arrives nothing is) unmade there = ring_by layout old new t moved arrives (sym (ap (λ (a : Arrival). a.made) is) ∙ unmade)
ring_from layout old new t stub arrival place (Resolved mid moved s arrives some stop done kept is) unmade there =
    ap ring_of kept ∙ ring_by layout old mid t moved arrives (sym (ap (λ (a : Arrival). a.made) is) ∙ unmade)

pub ring_stays : (layout : Layout) (old : Store) (after : Mote) (t : ℕ) (stub : Option ℕ) (arrival : Arrival) → arrival.made ≡ false → (place : ℕ) → arrival.place ≡ Some place
    → ArrivesFrom layout old (record { flash = after.flash; sram = after.sram }) t stub arrival
    → slice_index after.sram 0x42 + 256 * slice_index after.sram 0x43 ≡ slice_index old.sram 0x42 + 256 * slice_index old.sram 0x43
unfolding byte_at data_word_at
ring_stays layout old after t stub arrival unmade place there from = ring_from layout old (record { flash = after.flash; sram = after.sram }) t stub arrival place from unmade there

-- the page, by the layout, and RING behind it
data Next (layout : Layout) (old new : Store) (page : ℕ) : Type 0 where
  First : IsLowestFree layout old.flash.words page → ring_of new.sram ≡ ring_of old.sram → Next layout old new page
  Again : HasNoFree layout old.flash.words → page ≡ layout.pool_first + ring_of old.sram → ring_of new.sram ≡ (ring_of old.sram + 1) % layout.pool_pages → Next layout old new page

ring_made : (layout : Layout) (old new : Store) (page t : ℕ) (again : Bool) (moved : Moved) → Makes layout old new page t again (Ok moved) → ring_of new.sram ≡ ring_of old.sram
ring_made layout old new page t again moved (Made words place prepared done there is) = ring_noted old.sram new.sram t place there
ring_made layout old new page t again moved (NotMade words place prepared stop done same is) = absurd (cc)

ring_recycled : (layout : Layout) (old new : Store) (victim t : ℕ) (moved : Moved) → Recycles layout old new victim t (Ok moved) → ring_of new.sram ≡ (ring_of old.sram + 1) % layout.pool_pages
ring_recycled layout old new victim t moved (NotUnlinked stop done same is) = absurd (cc)
ring_recycled layout old new victim t moved (NotErased unlinked done fails left forgot is) = absurd (cc)
ring_recycled layout old new victim t moved (Erased unlinked done fails makes) =
    ring_made layout _ new victim t true moved makes ∙ word_same (forgotten old.sram victim) ring_cell ((ring_of (forgotten old.sram victim) + 1) % layout.pool_pages) (omega arith)
    (omega (arith, forgotten_long old.sram victim)) ∙ ap (λ r. (r + 1) % layout.pool_pages) (ring_forgot old.sram victim)

next_of : (layout : Layout) (old new : Store) (t : ℕ) (moved : Moved) → IsReady layout old → Arrives layout old new t (Ok moved) → moved.made ≡ true → Next layout old new (moved.place / page_words)
next_of layout old new t moved (right, code, ring) (Beyond out same answer) made = absurd (cc)
next_of layout old new t moved (right, code, ring) (Found place inside finds same answer) made =
    absurd (let e : moved ≡ record { place = place; made = false; recycled = None } = cc in let both : true ≡ false = sym made ∙ ap (λ (m : Moved). m.made) e in cc)
next_of layout old new t moved (right, code, ring) (Free page inside finds lowest makes) made =
    subst (Next layout old new) (made_here layout old new page t false moved right code lowest.pool lowest.free makes) (First lowest (ring_made layout old new page t false moved makes))
next_of layout old new t moved (right, code, ring) (Full inside finds none recycles) made =
    subst (Next layout old new) (recycled_stays layout old new (layout.pool_first + ring_of old.sram) t (Ok moved) right code (record { from = omega arith; to = omega arith }) recycles).here
    (Again none refl (ring_recycled layout old new (layout.pool_first + ring_of old.sram) t moved recycles))

next_after : (layout : Layout) (old mid new : Store) (page : ℕ) → ring_of new.sram ≡ ring_of mid.sram → Next layout old mid page → Next layout old new page
next_after layout old mid new page same (First lowest ring) = First lowest (same ∙ ring)
next_after layout old mid new page same (Again none is ring) = Again none is (same ∙ ring)

next_from : (layout : Layout) (old new : Store) (t : ℕ) (stub : Option ℕ) (arrival : Arrival) (place : ℕ) → IsReady layout old
    → ArrivesFrom layout old new t stub arrival → arrival.made ≡ true → arrival.place ≡ Some place → Next layout old new (place / page_words)
next_from layout old new t stub arrival place (right, code, ring) (Stopped refused arrives is) made there = absurd (let e : None ≡ Some place = sym (ap (λ (a : Arrival). a.place) is) ∙ there in cc)
next_from layout old new t stub arrival place (right, code, ring) (Went moved arrives nothing is) made there =
    let same = same_Some moved.place place (sym (ap (λ (a : Arrival). a.place) is) ∙ there) in
    subst (λ v. Next layout old new (v / page_words)) same (next_of layout old new t moved (right, code, ring) arrives (sym (ap (λ (a : Arrival). a.made) is) ∙ made))
next_from layout old new t stub arrival place (right, code, ring) (Resolved mid moved s arrives some stop done kept is) made there =
    let same = same_Some moved.place place (sym (ap (λ (a : Arrival). a.place) is) ∙ there) in
    let there = rw same at (next_of layout old mid t moved (right, code, ring) arrives (sym (ap (λ (a : Arrival). a.made) is) ∙ made)) in
    next_after layout old mid new (place / page_words) (ap ring_of kept) there

-- the address had no entry
pub missed : (layout : Layout) (words old new : List ℕ) (t : ℕ) → Finds layout words old new t None → (place : ℕ) → ¬ IsEntry layout words t place
missed layout words old new t (Finds.Hit place there answer is) = absurd (cc)
missed layout words old new t (Finds.Entered place there entry answer is) = absurd (cc)
missed layout words old new t (Finds.Missed there none answer is) = none

anew_of : (layout : Layout) (old new : Store) (t : ℕ) (moved : Moved) → Arrives layout old new t (Ok moved) → moved.made ≡ true → (place : ℕ) → ¬ IsEntry layout old.flash.words t place
anew_of layout old new t moved (Beyond out same answer) made = absurd (cc)
anew_of layout old new t moved (Found place inside finds same answer) made =
    absurd (let e : moved ≡ record { place = place; made = false; recycled = None } = cc in made_true moved.made made (ap (λ (m : Moved). m.made) e))
anew_of layout old new t moved (Free page inside finds lowest makes) made = missed layout old.flash.words old.sram old.sram t finds
anew_of layout old new t moved (Full inside finds none recycles) made = missed layout old.flash.words old.sram old.sram t finds

pub anew_from : (layout : Layout) (old new : Store) (t : ℕ) (stub : Option ℕ) (arrival : Arrival) → ArrivesFrom layout old new t stub arrival → arrival.made ≡ true → (place : ℕ)
    → ¬ IsEntry layout old.flash.words t place
anew_from layout old new t stub arrival (Stopped refused arrives is) made = absurd (made_true arrival.made made (ap (λ (a : Arrival). a.made) is))
anew_from layout old new t stub arrival (Went moved arrives nothing is) made = anew_of layout old new t moved arrives (sym (ap (λ (a : Arrival). a.made) is) ∙ made)
anew_from layout old new t stub arrival (Resolved mid moved s arrives some stop done kept is) made = anew_of layout old mid t moved arrives (sym (ap (λ (a : Arrival). a.made) is) ∙ made)

-- a page of a faithful pool whose words are erased is free
pub erased_free : (layout : Layout) (image words : List ℕ) (page : ℕ) → IsRight layout → IsFaithful layout image words → IsPool layout page → IsErased words page → IsFree words page
erased_free layout image words page right code pool erased = elim (code.pages page pool) [
  | inl free ↦ free
  | inr run ↦ (
      let blank : page_word words page 0 ≡ 0xFFFF = erased 0 (omega arith) in
      let original : page_word words page 0 ≡ run.first / page_words = original_held (IsEntry layout words) image words page run.first run.last run.holds in
      let begins : run.first < length image = run.holds.run.inside 0 (omega arith) in
      absurd (omega (arith, blank, original, begins, code.image_length, right.image_fits)))
]

pub pool_pages_of : (image : List ℕ) → (layout_of (length image)).pool_pages ≡ pool_size image
pool_pages_of image = elim (nat_le (length image) 16384) as (λ b. ◌≡◌ {A = ℕ} (if b then 352 else 288) (if b then 352 else 288)) [ true ↦ refl | false ↦ refl ]

-- .. by its numbers
by_numbers : (image : List ℕ) (target : ℕ) (before after : Mote) (page : ℕ) → IsRight (layout_of (length image)) → IsFaithful (layout_of (length image)) image before.flash.words
    → ((place : ℕ) → ¬ IsPlaceOf image before.flash.words target place)
    → Next (layout_of (length image)) (record { flash = before.flash; sram = before.sram }) (record { flash = after.flash; sram = after.sram }) page → IsNext image target before after page
unfolding byte_at data_word_at
by_numbers image target before after page right code anew (First lowest same) =
    Lowest (from_pool image page lowest.pool) (λ k below. blank_word before.flash.words page k lowest.free below) (λ lower inside below erased. lowest.lowest lower (in_pool image lower inside) below
    (erased_free (layout_of (length image)) image before.flash.words lower right code (in_pool image lower inside) erased))
    same
by_numbers image target before after page right code anew (Again none is turns) =
    let at : page ≡ (layout_of (length image)).pool_first + ring_of before.sram = is in
    InTurn (record {
      anew = anew;
      full = λ other inside erased. none other (in_pool image other inside) (erased_free (layout_of (length image)) image before.flash.words other right code (in_pool image other inside) erased);
      turn = omega (arith, at, ring_is before, (pool_begins image).first);
    }) (turns ∙ ap (λ pages. (ring_of before.sram + 1) % pages) (pool_pages_of image))

-- An arrival. ---------------------------------------------------------------------------------------------

abbrev pub laid : List ℕ → Layout
laid image = layout_of (length image)

abbrev pub stored : Mote → Store
stored m = record { flash = m.flash; sram = m.sram }

-- flash before an arrival that is of this image and in order
pub record IsBegun (image : List ℕ) (old : Store) : Type 0 where
  pub right : IsRight (laid image)
  pub held : image_of (laid image) old.flash.words ≡ image
  pub code : IsFaithful (laid image) image old.flash.words
  pub ring : ring_of old.sram < (laid image).pool_pages

pub own_code : (image : List ℕ) (old : Store) → IsBegun image old → IsFaithful (laid image) (image_of (laid image) old.flash.words) old.flash.words
own_code image old begun = subst (λ i. IsFaithful (laid image) i old.flash.words) (sym begun.held) begun.code

pub ready_of : (image : List ℕ) (old : Store) → IsBegun image old → IsReady (laid image) old
ready_of image old begun = (begun.right, own_code image old begun, begun.ring)

-- .. and such an arrival, at this address
pub record Comes (image : List ℕ) (before after : Mote) (t : ℕ) (stub : Option ℕ) (arrival : Arrival) : Type 0 where
  pub begun : IsBegun image (stored before)
  pub came : CameThrough (laid image) before.flash.words stub t
  pub from : ArrivesFrom (laid image) (stored before) (stored after) t stub arrival

pub next_is : (image : List ℕ) (before after : Mote) (t : ℕ) (stub : Option ℕ) (arrival : Arrival) (place : ℕ) → Comes image before after t stub arrival
    → ((v : ℕ) → ¬ IsPlaceOf image before.flash.words t v) → arrival.made ≡ true → arrival.place ≡ Some place → IsNext image t before after (place / 128)
next_is image before after t stub arrival place comes anew made there =
    by_numbers image t before after (place / 128) comes.begun.right comes.begun.code anew
    (next_from (laid image) (stored before) (stored after) t stub arrival place (ready_of image (stored before) comes.begun) comes.from made there)
