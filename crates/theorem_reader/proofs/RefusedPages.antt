-- A page that an arrival makes is never the one that is torn.
use Rattle.std.proofs.Common.{◌≡◌, ◌≢◌, [], ◌∷◌, ℕ, ◌+◌, ◌*◌, ◌/◌, ◌≤◌, Bool, true, false, List, length, Option, Some, None, Ok, arith, refl, sym, ap, ◌∙◌, subst}
use Rattle.std.specs.Prelude.{IfSome}
use Rattle.std.specs.Option.{option_map}
use Rattle.flash_words.specs.Pages.{page_words, word_count}
use Rattle.flash_words.specs.Layouts.{IsRight, layout_of, image_of}
use Rattle.flash_words.specs.declared.layout.Layout.{Layout}
use Rattle.flash_words.specs.Memory.{Memory}
use Rattle.flash_words.specs.Operations.{fails, erased_page}
use Rattle.page_index.specs.Entries.{IsEntry, IsMapped}
use Rattle.page_index.proofs.ChangeLaws.{same_back, page_left, lists_alike, map_alike}
use Rattle.page_index.proofs.EntryLaws.{page_of_place}
use Rattle.nat_page.specs.Used.{is_used}
use Rattle.nat_page.proofs.UsedLaws.{free_unused}
use Rattle.branch_bridge.specs.declared.arrival.Moved.{Moved}
use Rattle.branch_bridge.specs.declared.through.Arrival.{Arrival}
use Rattle.branch_bridge.specs.declared.rewriting.ResolveStop.{ResolveStop}
use Rattle.branch_bridge.specs.declared.rewriting.Torn.{Torn}
use Rattle.branch_bridge.specs.Operating.{Erase, Program, Performed, perform, rewriting, with_torn}
use Rattle.branch_bridge.specs.Tried.{IsTorn, torn_at}
use Rattle.branch_bridge.specs.Arrivals.{Store, ring_of, Recycles, NotUnlinked, NotErased, Erased, Arrives, Beyond, Found, Free, Full, refused_by, ArrivesFrom, Stopped, Went, Resolved, CameThrough}
use Rattle.branch_bridge.specs.Arrivals.{torn_by}
use Rattle.branch_bridge.proofs.MakeLaws.{makes_told}
use Rattle.branch_bridge.proofs.ThroughLaws.{is_to_resolve}
use Rattle.program_steps.proofs.Arriving.{is_made}
use Rattle.theorem_reader.specs.Pools.{IsPlaceOf}
use Rattle.theorem_reader.proofs.OtherPages.{IsReady, made_here, recycled_stays}
use Rattle.theorem_reader.proofs.Pooling.{place_is, place_listed, map_of}
use Rattle.theorem_reader.proofs.Rewriting.{one_performed}
use Rattle.theorem_reader.proofs.Working.{link_page}

-- a page that is rewritten is the torn one, if any is
rewriting_torn : (m : Memory) (page : ℕ) (words : List ℕ) → IfSome (torn_at (perform m (rewriting page words)).stop) (λ torn. torn.page ≡ page)
rewriting_torn m page words =
    let So : Performed → Type 0 = λ r. IfSome (torn_at r.stop) (λ torn. torn.page ≡ page) in
    one_performed So m (Erase page) (Program true page words ∷ []) tt (one_performed So (erased_page m page) (Program true page words) [] refl tt)

-- a page that is recycled is made, and told
pub recycled_again : (layout : Layout) (old new : Store) (victim t : ℕ) (moved : Moved) → Recycles layout old new victim t (Ok moved) → (moved.made ≡ true) × (moved.recycled ≡ Some victim)
recycled_again layout old new victim t moved (NotUnlinked stop done same is) = absurd (cc)
recycled_again layout old new victim t moved (NotErased unlinked done fails left forgot is) = absurd (cc)
recycled_again layout old new victim t moved (Erased unlinked done fails makes) = (is_made makes, makes_told layout _ new victim t true (Ok moved) makes)

-- the stub that is resolved behind it isn't in it
pub stub_apart : (layout : Layout) (old mid : Store) (t s : ℕ) (moved : Moved) → IsReady layout old
    → is_used old.flash.words (s / page_words) ≡ true → moved.recycled ≢ Some (s / page_words) → Arrives layout old mid t (Ok moved) → moved.made ≡ true → s / page_words ≢ moved.place / page_words
stub_apart layout old mid t s moved (right, code, ring) used apart (Beyond out same answer) made own = absurd (cc)
stub_apart layout old mid t s moved (right, code, ring) used apart (Found place inside finds same answer) made own =
    let e : moved ≡ record { place = place; made = false; recycled = None } = cc in
    absurd (let both : ◌≡◌ {A = Bool} true false = sym made ∙ ap (λ (m : Moved). m.made) e in cc)
stub_apart layout old mid t s moved (right, code, ring) used apart (Free page inside finds lowest makes) made own =
    let here = made_here layout old mid page t false moved right code lowest.pool lowest.free makes in
    absurd (let both : ◌≡◌ {A = Bool} true false = sym used ∙ ap (is_used old.flash.words) (own ∙ sym here) ∙ free_unused old.flash.words page lowest.free in cc)
stub_apart layout old mid t s moved (right, code, ring) used apart (Full inside finds none recycles) made own =
    let victim = layout.pool_first + ring_of old.sram in
    let here : victim ≡ moved.place / page_words = (recycled_stays layout old mid victim t (Ok moved) right code (record { from = omega arith; to = omega arith }) recycles).here in
    apart ((recycled_again layout old mid victim t moved recycles).1 ∙ ap Some (here ∙ sym own))

apart_by : (page place : ℕ) (torn : Option Torn) → page ≢ place / page_words → IfSome torn (λ torn. torn.page ≡ page) → IfSome torn (λ torn. torn.page ≢ place / page_words)
apart_by page place None away there = tt
apart_by page place (Some torn) away there = λ own. away (sym there ∙ own)

pub torn_told : (stop : Option ResolveStop) → torn_by (option_map refused_by stop) ≡ torn_at stop
torn_told None = refl
torn_told (Some stop) = refl

-- nor is it torn
pub made_untorn : (layout : Layout) (old new : Store) (t : ℕ) (stub : Option ℕ) (arrival : Arrival) (place : ℕ) → IsReady layout old → CameThrough layout old.flash.words stub t
    → ArrivesFrom layout old new t stub arrival → arrival.made ≡ true → arrival.place ≡ Some place → IfSome (torn_by arrival.refused) (λ torn. torn.page ≢ place / page_words)
made_untorn layout old new t stub arrival place (right, code, ring) came (Stopped refused arrives is) made there =
    absurd (let e : None ≡ Some place = sym (ap (λ (a : Arrival). a.place) is) ∙ there in cc)
made_untorn layout old new t stub arrival place (right, code, ring) came (Went moved arrives nothing is) made there =
    subst (λ (a : Arrival). IfSome (torn_by a.refused) (λ torn. torn.page ≢ place / page_words)) (sym is) tt
made_untorn layout old new t stub arrival place (right, code, ring) came (Resolved mid moved s arrives some stop done same is) made there =
    let image = image_of layout old.flash.words in
    let to = is_to_resolve moved.recycled stub s some in
    let used = (link_page layout image old.flash.words s t (omega (arith, code.image_length, right.image_fits)) (subst (λ x. CameThrough layout old.flash.words x t) to.same came).link).1 in
    let at : moved.place ≡ place = (let e : Some moved.place ≡ Some place = sym (ap (λ (a : Arrival). a.place) is) ∙ there in cc) in
    let away = subst (λ v. s / page_words ≢ v / page_words) at (stub_apart layout old mid t s moved (right, code, ring) used to.apart arrives (sym (ap (λ (a : Arrival). a.made) is) ∙ made)) in
    let own : IfSome (torn_at stop) (λ torn. torn.page ≡ s / page_words) = subst (λ (p : Performed). IfSome (torn_at p.stop) (λ torn. torn.page ≡ s / page_words)) done
    (rewriting_torn mid.flash (s / page_words) _) in
    let told : torn_at stop ≡ torn_by arrival.refused = sym (ap (λ (a : Arrival). torn_by a.refused) is ∙ torn_told stop) in
    subst (λ torn. IfSome torn (λ torn. torn.page ≢ place / page_words)) told (apart_by (s / page_words) place (torn_at stop) away own)

-- so its entry stands
pub place_untorn : (image words : List ℕ) (torn : Option Torn) (t place : ℕ) → IsRight (layout_of (length image)) → length words ≡ word_count → IfSome torn (IsTorn (layout_of (length image)) words)
    → IsMapped (layout_of (length image)) (with_torn words torn)
    → IsEntry (layout_of (length image)) (with_torn words torn) t place → IfSome torn (λ torn. torn.page ≢ place / page_words) → IsPlaceOf image words t place
place_untorn image words None t place right whole lacks mapped entry apart = place_is image words t place mapped entry
place_untorn image words (Some torn) t place right whole lacks mapped entry apart =
    let l = layout_of (length image) in
    let mended = with_torn words (Some torn) in
    let own : entry.page ≡ place / page_words = page_of_place l mended t place mapped entry in
    let inside : page_words * torn.page + page_words ≤ length words = omega (arith, whole, lacks.pool.to, right.pool_below_kernel) in
    let same = same_back words mended entry.page (page_left words torn.words torn.page entry.page lacks.size inside (λ is. apart (sym is ∙ own))) in
    place_listed image words t place (record { page = entry.page; index = entry.index; pool = entry.pool; lists = lists_alike mended words entry.page entry.index t place same entry.lists })
    (map_alike mended words entry.page same (map_of l mended entry.page entry.index t place (mapped.pages entry.page entry.pool) entry.lists))
