-- A page that is made goes on as far as it may.
use Rattle.std.proofs.Common.{◌≡◌, ℕ, suc, ◌+◌, ◌*◌, ◌/◌, ◌≤◌, Bool, true, false, List, length, slice_index, Option, Some, None, Ok, sym, ap, ◌∙◌, subst, arith}
use Rattle.std.proofs.lemmas.Option.{same_Some}
use Rattle.flash_words.specs.Pages.{page_words, page_of, set_page}
use Rattle.flash_words.specs.Operations.{erased_page}
use Rattle.flash_words.specs.declared.layout.Layout.{Layout}
use Rattle.flash_words.specs.Layouts.{IsRight, image_of}
use Rattle.flash_words.proofs.PageLaws.{length-page_of}
use Rattle.mote_core.specs.declared.mote.Mote.{Mote}
use Rattle.page_index.specs.Maps.{IsPool, IsFree}
use Rattle.page_index.specs.Entries.{IsEntry, IsMapped}
use Rattle.page_index.proofs.EntryLaws.{page_of_place}
use Rattle.page_draft.specs.CodePages.{Anywhere, HoldsRun}
use Rattle.page_draft.specs.Runs.{address}
use Rattle.page_draft.specs.Standing.{jump_word}
use Rattle.nat_page.specs.Faithful.{IsFaithful}
use Rattle.nat_page.specs.Links.{IsUnresolved, with_two_words}
use Rattle.nat_page.specs.Making.{PageStops}
use Rattle.nat_page.proofs.FaithfulLaws.{faithful_mapped}
use Rattle.nat_page.proofs.HeldLaws.{count_held, offset_held}
use Rattle.nat_page.proofs.MadeLaws.{makes_holds}
use Rattle.nat_page.proofs.RelinkLaws.{link_placed}
use Rattle.nat_page.proofs.StayLaws.{holds_alike}
use Rattle.nat_page.proofs.TwoWords.{length-with_two_words}
use Rattle.branch_bridge.specs.declared.arrival.Moved.{Moved}
use Rattle.branch_bridge.specs.declared.through.Arrival.{Arrival}
use Rattle.branch_bridge.specs.Arrivals.{Store, CameThrough, ring_of, Makes, Made, NotMade, Recycles, NotUnlinked, NotErased, Erased, Arrives, Beyond, Found, Free, Full, ArrivesFrom}
use Rattle.branch_bridge.specs.Arrivals.{Stopped, Went, Resolved}
use Rattle.branch_bridge.proofs.MakeLaws.{prepared_makes, done_words}
use Rattle.branch_bridge.proofs.RecycleLaws.{entry_before}
use Rattle.branch_bridge.proofs.ThroughLaws.{is_to_resolve}
use Rattle.theorem_reader.specs.Acts as acts
use Rattle.theorem_reader.specs.Acts.{GoesNoFurther, IsNext, IsMade}
use Rattle.theorem_reader.specs.Pools.{IsPlaceOf}
use Rattle.theorem_reader.proofs.NextPage.{made_true, laid, stored, IsBegun, own_code, ready_of, Comes}
use Rattle.theorem_reader.proofs.OtherPages.{arrives_others, is_cleared, forgets, still_linked, made_here}
use Rattle.theorem_reader.proofs.PagesUnlinked.{other_untouched}
use Rattle.theorem_reader.proofs.Pooling.{place_is}
use Rattle.theorem_reader.proofs.Rewriting.{rewrites_by}
use Rattle.theorem_reader.proofs.RefusedPages.{stub_apart}
use Rattle.theorem_reader.proofs.Working.{link_page}

-- the run that a page holds, and why it is no longer
record Far (image before after : List ℕ) (page t : ℕ) : Type 0 where
  last : ℕ
  holds : HoldsRun Anywhere image after page t last
  stops : GoesNoFurther image before page t last

-- each entry that there is later was there before
abbrev HadEntries : Layout → (before later : List ℕ) → Type 0
HadEntries layout before later = (a v : ℕ) → IsEntry layout later a v → IsEntry layout before a v

stops_by : (image before later : List ℕ) (page t last : ℕ) → IsMapped (laid image) before → IsMapped (laid image) later → HadEntries (laid image) before later
    → PageStops (laid image) image later page t last → GoesNoFurther image before page t last
stops_by image before later page t last mapped mapped' had (PageStops.Ends is) = acts.Leads is
stops_by image before later page t last mapped mapped' had (PageStops.Leaves is) = acts.Leaves is
stops_by image before later page t last mapped mapped' had (PageStops.Outside is) = acts.Beyond is
stops_by image before later page t last mapped mapped' had (PageStops.Full is) = acts.Full is
stops_by image before later page t last mapped mapped' had (PageStops.Known other i v pool away lists) =
    let a = address image t (suc last) in
    let entry : IsEntry (laid image) later a v = record { page = other; index = i; pool = pool; lists = lists } in
    acts.Known v (λ same. away (page_of_place (laid image) later a v mapped' entry ∙ same)) (place_is image before a v mapped (had a v entry))

-- a page that is made
far_made : (image before : List ℕ) (old new : Store) (page t : ℕ) (again : Bool) (moved : Moved) → IsRight (laid image) → image_of (laid image) old.flash.words ≡ image
    → IsFaithful (laid image) image old.flash.words → IsPool (laid image) page → IsFree old.flash.words page → IsMapped (laid image) before → HadEntries (laid image) before old.flash.words
    → Makes (laid image) old new page t again (Ok moved) → Far image before new.flash.words (moved.place / page_words) t
far_made image before old new page t again moved right held code pool free mapped had (NotMade words place prepared stop performed same answer) = absurd (cc)
far_made image before old new page t again moved right held code pool free mapped had (Made words place prepared performed noted answer) =
    let l = laid image in
    let own = image_of l old.flash.words in
    let faithful : IsFaithful l own old.flash.words = subst (λ i. IsFaithful l i old.flash.words) (sym held) code in
    let after = done_words old.flash new.flash page again words performed in
    let makes = prepared_makes l own old.flash.words page t place words prepared in
    let last = makes.prepared.last in
    let holds = makes_holds l Anywhere own old.flash.words (set_page old.flash.words page words) page t place right faithful pool makes in
    let here = made_here l old new page t again moved right faithful pool free (Made words place prepared performed noted answer) in
    subst (λ p. Far image before new.flash.words p t) here (record {
      last = last;
      holds = subst (λ i. HoldsRun Anywhere i new.flash.words page t last) held (subst (λ w. HoldsRun Anywhere own w page t last) (sym after) holds);
      stops = stops_by image before old.flash.words page t last mapped (faithful_mapped l image old.flash.words right code) had
          (subst (λ i. PageStops l i old.flash.words page t last) held makes.prepared.stops);
    })

far_recycled : (image : List ℕ) (old new : Store) (victim t : ℕ) (moved : Moved) → IsBegun image old → IsPool (laid image) victim → Recycles (laid image) old new victim t (Ok moved)
    → Far image old.flash.words new.flash.words (moved.place / page_words) t
far_recycled image old new victim t moved begun pool (NotUnlinked stop performed same answer) = absurd (cc)
far_recycled image old new victim t moved begun pool (NotErased unlinked performed listed left same answer) = absurd (cc)
far_recycled image old new victim t moved begun pool (Erased unlinked performed free makes) =
    let l = laid image in
    let clear = is_cleared l old.flash unlinked victim begun.right (own_code image old begun) pool performed in
    let e = erased_page unlinked victim in
    far_made image old.flash.words (forgets l old unlinked victim) new victim t true moved begun.right (clear.same_image ∙ begun.held) (subst (λ i. IsFaithful l i e.words) begun.held clear.code)
    pool clear.free (faithful_mapped l image old.flash.words begun.right begun.code)
    (λ a v entry. clear.up.entries_back a v (entry_before l (image_of l old.flash.words) unlinked.words victim a v begun.right clear.up.code pool entry)) makes

far_arrives : (image : List ℕ) (old new : Store) (t : ℕ) (moved : Moved) → IsBegun image old → Arrives (laid image) old new t (Ok moved) → moved.made ≡ true
    → Far image old.flash.words new.flash.words (moved.place / page_words) t
far_arrives image old new t moved begun (Beyond out same answer) made = absurd (cc)
far_arrives image old new t moved begun (Found place inside finds same answer) made =
    absurd (let e : moved ≡ record { place = place; made = false; recycled = None } = cc in made_true moved.made made (ap (λ (m : Moved). m.made) e))
far_arrives image old new t moved begun (Free page inside finds lowest makes) made =
    far_made image old.flash.words old new page t false moved begun.right begun.held begun.code lowest.pool lowest.free (faithful_mapped (laid image) image old.flash.words begun.right begun.code)
    (λ a v entry. entry) makes
far_arrives image old new t moved begun (Full inside finds none recycles) made =
    let ring = begun.ring in
    far_recycled image old new ((laid image).pool_first + ring_of old.sram) t moved begun (record { from = omega arith; to = omega arith }) recycles

-- a stub of another page that is resolved then, or was to be, leaves that
far_from : (image : List ℕ) (old new : Store) (t place : ℕ) (stub : Option ℕ) (arrival : Arrival) → IsBegun image old → CameThrough (laid image) old.flash.words stub t
    → ArrivesFrom (laid image) old new t stub arrival → arrival.made ≡ true → arrival.place ≡ Some place → Far image old.flash.words new.flash.words (place / page_words) t
far_from image old new t place stub arrival begun came (Stopped refused arrives is) made there = absurd (made_true arrival.made made (ap (λ (a : Arrival). a.made) is))
far_from image old new t place stub arrival begun came (Went moved arrives nothing is) made there =
    let same = same_Some moved.place place (sym (ap (λ (a : Arrival). a.place) is) ∙ there) in
    subst (λ v. Far image old.flash.words new.flash.words (v / page_words) t) same (far_arrives image old new t moved begun arrives (sym (ap (λ (a : Arrival). a.made) is) ∙ made))
far_from image old new t place stub arrival begun came (Resolved mid moved s arrives some stop done kept is) made there =
    let l = laid image in
    let own = image_of l old.flash.words in
    let ready = ready_of image old begun in
    let same = same_Some moved.place place (sym (ap (λ (a : Arrival). a.place) is) ∙ there) in
    let is_made = sym (ap (λ (a : Arrival). a.made) is) ∙ made in
    let to = is_to_resolve moved.recycled stub s some in
    let stub_there : IsUnresolved l own old.flash.words s t = subst (λ x. CameThrough l old.flash.words x t) to.same came in
    let used = (link_page l own old.flash.words s t (omega (arith, (own_code image old begun).image_length, begun.right.image_fits)) stub_there.link).1 in
    let apart = stub_apart l old mid t s moved ready used to.apart arrives is_made in
    let whole = (arrives_others l old mid t (Ok moved) ready arrives).stay.whole in
    let at = link_placed l own mid.flash.words s t jump_word moved.place begun.right whole (still_linked l old mid t s stub moved ready came arrives some) in
    let inside : 128 * (s / 128) + 128 ≤ length mid.flash.words = omega (arith, whole, at.low) in
    let words = with_two_words mid.flash.words s jump_word moved.place in
    let long : length (page_of words (s / 128)) ≡ 128 = length-page_of words (s / 128) (omega (arith, inside, length-with_two_words mid.flash.words s jump_word moved.place)) in
    let rewrites = rewrites_by mid.flash new.flash (s / 128) (page_of words (s / 128)) stop inside done in
    let still = other_untouched mid.flash new.flash (moved.place / 128) (s / 128) (page_of words (s / 128)) stop long inside (λ is. apart (sym is)) rewrites in
    let far = far_arrives image old mid t moved begun arrives is_made in
    subst (λ v. Far image old.flash.words new.flash.words (v / page_words) t) same (record {
      last = far.last;
      holds = holds_alike Anywhere Anywhere image mid.flash.words new.flash.words (moved.place / 128) t far.last (λ a v leads. leads) (record { word = λ k below. sym (still.0 k below) }) far.holds;
      stops = far.stops;
    })

pub goes_far : (image : List ℕ) (before after : Mote) (t place : ℕ) (stub : Option ℕ) (arrival : Arrival) → Comes image before after t stub arrival → arrival.made ≡ true
    → arrival.place ≡ Some place → after.cpu.pc ≡ place → ((v : ℕ) → ¬ IsPlaceOf image before.flash.words t v) → IsNext image t before after (after.cpu.pc / 128)
    → IsPlaceOf image after.flash.words t after.cpu.pc → IsMade image t before after
goes_far image before after t place stub arrival comes made there pc anew next begins =
    let far = far_from image (stored before) (stored after) t place stub arrival comes.begun comes.came comes.from made there in
    record {
      anew = anew;
      next = next;
      place = begins;
      last = far.last;
      first = ap (λ v. slice_index after.flash.words (128 * (v / 128) + 2) / 256) pc ∙ offset_held Anywhere image after.flash.words (place / page_words) t far.last 0 far.holds (omega arith);
      entries = ap (λ v. slice_index after.flash.words (128 * (v / 128) + 1)) pc ∙ count_held Anywhere image after.flash.words (place / page_words) t far.last far.holds;
      stops = subst (λ v. GoesNoFurther image before.flash.words (v / 128) t far.last) (sym pc) far.stops;
    }
