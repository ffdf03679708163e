-- Arrivals: which operations on flash they try.
use Rattle.std.proofs.Common.{◌≡◌, ℕ, zero, suc, ◌+◌, ◌/◌, ◌<◌, ◌≤◌, Bool, true, false, List, [], ◌∷◌, length, Option, Some, None, Result, Ok, Err, arith, refl, sym, ap, ◌∙◌, subst, ◌↔◌}
use Rattle.std.specs.Prelude.{if◌then◌else◌, MatchOption, ⊤}
use Rattle.std.specs.Option.{option_map}
use Rattle.flash_words.specs.Pages.{word_count, page_words, page_of, blank}
use Rattle.flash_words.specs.Memory.{Memory}
use Rattle.flash_words.specs.Operations.{next_op, erased_page}
use Rattle.flash_words.specs.Layouts.{IsRight, image_of}
use Rattle.flash_words.specs.declared.layout.Layout.{Layout}
use Rattle.flash_words.proofs.PageLaws.{length-page_of}
use Rattle.page_index.specs.Maps.{IsPool, IsFree}
use Rattle.page_draft.specs.Standing.{jump_word}
use Rattle.nat_page.specs.Links.{IsUnresolved, with_two_words}
use Rattle.nat_page.specs.Making.{IsPrepared}
use Rattle.nat_page.specs.Unlinking.{with_calls, stubs_into}
use Rattle.page_draft.specs.CodePages.{page_pieces}
use Rattle.nat_template.specs.Stubs.{words_of}
use Rattle.nat_page.proofs.MadeLaws.{length-filled}
use Rattle.nat_page.proofs.TwoWords.{length-with_two_words}
use Rattle.nat_page.proofs.UnlinkLaws.{length-with_calls}
use Rattle.nat_page.proofs.LinkLaws.{link_room}
use Rattle.branch_bridge.specs.declared.rewriting.ResolveStop.{ResolveStop}
use Rattle.branch_bridge.specs.declared.arrival.Refused.{Refused}
use Rattle.branch_bridge.specs.declared.arrival.Moved.{Moved}
use Rattle.branch_bridge.specs.declared.through.Arrival.{Arrival}
use Rattle.branch_bridge.specs.Operating.{Erase, Program, Performed, perform, rewriting, then_on, stop_at}
use Rattle.branch_bridge.specs.Resolving.{resolving}
use Rattle.branch_bridge.specs.Unresolving.{has_stubs_into, unlinking, unresolved, unresolved_in}
use Rattle.branch_bridge.specs.declared.arrival.ArriveStop.TheVariants.{Wild}
use Rattle.branch_bridge.specs.Tried.{torn_at, Tried}
use Rattle.branch_bridge.specs.Arrivals.{Store, ring_of, CameThrough, refused_by, torn_by, torn_in, stopped_by, refusal_in}
use Rattle.branch_bridge.specs.Arrivals.{Makes, Made, NotMade, Recycles, NotUnlinked, NotErased, Erased, Arrives, Beyond, Found, Free, Full, ArrivesFrom, Stopped, Went, Resolved}
use Rattle.branch_bridge.proofs.PerformLaws.{perform_refused, perform_done, erased_blank}
use Rattle.branch_bridge.proofs.ThroughLaws.{is_to_resolve}
use Rattle.branch_bridge.proofs.TriedLaws.{tried_image, tried_torn, tried_none, tried_on, tried_performed, tried_as, AreOnPool, rewriting_on_pool}

-- one page that loses its stubs into the victim
unlinking_on_pool : (layout : Layout) (image : List ℕ) (victim page : ℕ) (m : Memory) → IsRight layout → length m.words ≡ word_count → IsPool layout page
    → AreOnPool layout m (unlinking image m.words victim page)
unlinking_on_pool layout image victim page m right whole pool =
    let words = with_calls m.words (stubs_into image m.words victim page) in
    let long : length words ≡ word_count = length-with_calls m.words (stubs_into image m.words victim page) ∙ whole in
    let P : Bool → Type 0 = λ b. AreOnPool layout m (if b then rewriting page (page_of words page) else []) in
    elim (has_stubs_into image m.words victim page) as P [
      | true ↦ rewriting_on_pool layout m page (page_of words page) right whole pool (length-page_of words page (omega (arith, long, pool.to, right.pool_below_kernel)))
      | false ↦ tt
    ]

tried_then : (layout : Layout) (m : Memory) (p : Performed) (next : Memory → Performed) → length m.words ≡ word_count → Tried layout m p.memory p.stop
    → ((mid : Memory) → length mid.words ≡ word_count → Tried layout mid (next mid).memory (next mid).stop) → Tried layout m (then_on p next).memory (then_on p next).stop
tried_then layout m p next whole before on =
    let P : Option ResolveStop → Type 0 = λ stop. Tried layout m p.memory stop
    → Tried layout m (then_on (record { memory = p.memory; stop = stop }) next).memory (then_on (record { memory = p.memory; stop = stop }) next).stop in
    (elim (p.stop) as P [
      | None ↦ λ first. tried_on layout m p.memory (next p.memory).memory (next p.memory).stop first (on p.memory (first.size ∙ whole))
      | Some stop ↦ λ first. first
    ]) before

tried_unresolved : (layout : Layout) (image : List ℕ) (victim n : ℕ) (m : Memory) → IsRight layout → n ≤ layout.pool_pages → length m.words ≡ word_count
    → Tried layout m (unresolved image victim layout.pool_first n m).memory (unresolved image victim layout.pool_first n m).stop
tried_unresolved layout image victim zero m right most whole = tried_none layout m
tried_unresolved layout image victim (suc n) m right most whole =
    let page = layout.pool_first + n in
    let pool : IsPool layout page = record { from = omega arith; to = omega arith } in
    tried_then layout m (unresolved image victim layout.pool_first n m) (λ now. perform now (unlinking image now.words victim page)) whole
    (tried_unresolved layout image victim n m right (omega arith) whole)
    (λ now there. tried_performed layout now (unlinking image now.words victim page) right there (unlinking_on_pool layout image victim page now right there pool))

unresolved_as : (layout : Layout) (victim : ℕ) (m m' : Memory) (stop : Option ResolveStop) → IsRight layout → length m.words ≡ word_count
    → unresolved_in layout victim m ≡ record { memory = m'; stop = stop } → Tried layout m m' stop
unresolved_as layout victim m m' stop right whole is =
    rw is at (tried_unresolved layout (image_of layout m.words) victim layout.pool_pages m right (omega arith) whole)

-- a page that is made
pub prepared_size : (layout : Layout) (image old : List ℕ) (page t : ℕ) (words : List ℕ) (place : ℕ) → IsPrepared layout image old page t words place → length words ≡ page_words
prepared_size layout image old page t words place prepared = ap length prepared.is ∙ length-filled (words_of (page_pieces image t prepared.last)) prepared.fits

pub tried_made : (layout : Layout) (old new : Store) (page t : ℕ) (again : Bool) (result : Result Moved Refused) → IsRight layout → length old.flash.words ≡ word_count → IsPool layout page
    → IsFree old.flash.words page
    → Makes layout old new page t again result → Tried layout old.flash new.flash (stopped_by (refusal_in result))
tried_made layout old new page t again result right whole pool free (Made words place prepared performed noted_there answer) =
    let long = prepared_size layout (image_of layout old.flash.words) old.flash.words page t words place prepared in
    rw answer
    (tried_as layout old.flash new.flash None (Program again page words ∷ []) right whole ((pool, long, λ is. free), tt) performed)
tried_made layout old new page t again result right whole pool free (NotMade words place prepared stop performed same answer) =
    let long = prepared_size layout (image_of layout old.flash.words) old.flash.words page t words place prepared in
    rw answer
    (tried_as layout old.flash new.flash (Some stop) (Program again page words ∷ []) right whole ((pool, long, λ is. free), tt) performed)

-- a page that is recycled
pub tried_recycled : (layout : Layout) (old new : Store) (victim t : ℕ) (result : Result Moved Refused) → IsRight layout → length old.flash.words ≡ word_count → IsPool layout victim
    → Recycles layout old new victim t result → Tried layout old.flash new.flash (stopped_by (refusal_in result))
tried_recycled layout old new victim t result right whole pool (NotUnlinked stop performed same answer) =
    rw answer (unresolved_as layout victim old.flash new.flash (Some stop) right whole performed)
tried_recycled layout old new victim t result right whole pool (NotErased unlinked performed listed after forgot answer) =
    let first = unresolved_as layout victim old.flash unlinked None right whole performed in
    let told : Memory → Performed = λ m. record { memory = m; stop = Some (stop_at unlinked (Erase victim)) } in
    let erase = perform_refused unlinked (Erase victim) [] listed ∙ ap told (sym after) in
    let second = tried_as layout unlinked new.flash (Some (stop_at unlinked (Erase victim))) (Erase victim ∷ []) right (first.size ∙ whole) (pool, tt) erase in
    rw answer
    (tried_on layout old.flash unlinked new.flash (Some (stop_at unlinked (Erase victim))) first second)
tried_recycled layout old new victim t result right whole pool (Erased unlinked performed unlisted makes) =
    let first = unresolved_as layout victim old.flash unlinked None right whole performed in
    let there = first.size ∙ whole in
    let erased = erased_page unlinked victim in
    let second = tried_as layout unlinked erased None (Erase victim ∷ []) right there (pool, tt) (perform_done unlinked (Erase victim) [] unlisted) in
    let third = tried_made layout _ new victim t true result right (second.size ∙ there) pool (erased_blank unlinked victim (omega (arith, there, pool.to, right.pool_below_kernel))) makes in
    tried_on layout old.flash unlinked new.flash (stopped_by (refusal_in result)) first (tried_on layout unlinked erased new.flash (stopped_by (refusal_in result)) second third)

-- an arrival
pub tried_arriving : (layout : Layout) (old new : Store) (t : ℕ) (result : Result Moved Refused) → IsRight layout → length old.flash.words ≡ word_count → ring_of old.sram < layout.pool_pages
    → Arrives layout old new t result → Tried layout old.flash new.flash (stopped_by (refusal_in result))
tried_arriving layout old new t result right whole ring (Beyond outside same answer) = rw (answer, same) (tried_none layout old.flash)
tried_arriving layout old new t result right whole ring (Found place inside finds same answer) = rw (answer, same) (tried_none layout old.flash)
tried_arriving layout old new t result right whole ring (Free page inside finds lowest makes) = tried_made layout old new page t false result right whole lowest.pool lowest.free makes
tried_arriving layout old new t result right whole ring (Full inside finds full recycles) =
    tried_recycled layout old new (layout.pool_first + ring_of old.sram) t result right whole (record { from = omega arith; to = omega (arith, ring) }) recycles

-- .. through a stub
stub_in_pool : (layout : Layout) (image words : List ℕ) (s t : ℕ) → IsUnresolved layout image words s t → IsPool layout (s / page_words)
stub_in_pool layout image words s t stub =
    let at = stub.link in
    let room = link_room image at.page at.first at.last s t at.holds.fits at.link in
    subst (IsPool layout) (omega arith) at.pool

stopped_is : (stop : Option ResolveStop) → stopped_by (option_map refused_by stop) ≡ stop
stopped_is None = refl
stopped_is (Some stop) = refl

pub tried_from : (layout : Layout) (old new : Store) (t : ℕ) (stub : Option ℕ) (arrival : Arrival) → IsRight layout → length old.flash.words ≡ word_count → ring_of old.sram < layout.pool_pages
    → CameThrough layout old.flash.words stub t → ArrivesFrom layout old new t stub arrival → Tried layout old.flash new.flash (stopped_by arrival.refused)
tried_from layout old new t stub arrival right whole ring came (Stopped refused arrives is) =
    rw is (tried_arriving layout old new t (Err refused) right whole ring arrives)
tried_from layout old new t stub arrival right whole ring came (Went moved arrives none is) =
    rw is (tried_arriving layout old new t (Ok moved) right whole ring arrives)
tried_from layout old new t stub arrival right whole ring came (Resolved mid moved s arrives which stop performed same is) =
    let first = tried_arriving layout old mid t (Ok moved) right whole ring arrives in
    let there = first.size ∙ whole in
    let through = (is_to_resolve moved.recycled stub s which).same in
    let pool : IsPool layout (s / page_words) = stub_in_pool layout (image_of layout old.flash.words) old.flash.words s t (rw through at came) in
    let words = with_two_words mid.flash.words s jump_word moved.place in
    let long = length-page_of words (s / page_words) (omega (arith, length-with_two_words mid.flash.words s jump_word moved.place, there, pool.to, right.pool_below_kernel)) in
    let second = tried_as layout mid.flash new.flash stop (resolving mid.flash.words s moved.place) right there
    (rewriting_on_pool layout mid.flash (s / page_words) (page_of words (s / page_words)) right there pool long) performed in
    rw is
    (rw (stopped_is stop) (tried_on layout old.flash mid.flash new.flash stop first second))

-- a refusal tells the page that the operation left torn
made_torn : (layout : Layout) (old new : Store) (page t : ℕ) (again : Bool) (result : Result Moved Refused) → Makes layout old new page t again result
    → torn_in result ≡ torn_at (stopped_by (refusal_in result))
made_torn layout old new page t again result (Made words place prepared performed noted_there answer) = rw answer refl
made_torn layout old new page t again result (NotMade words place prepared stop performed same answer) = rw answer refl

recycled_torn : (layout : Layout) (old new : Store) (victim t : ℕ) (result : Result Moved Refused) → Recycles layout old new victim t result → torn_in result ≡ torn_at (stopped_by (refusal_in result))
recycled_torn layout old new victim t result (NotUnlinked stop performed same answer) = rw answer refl
recycled_torn layout old new victim t result (NotErased unlinked performed listed after forgot answer) = rw answer refl
recycled_torn layout old new victim t result (Erased unlinked performed unlisted makes) = made_torn layout _ new victim t true result makes

pub arrival_torn : (layout : Layout) (old new : Store) (t : ℕ) (result : Result Moved Refused) → Arrives layout old new t result → torn_in result ≡ torn_at (stopped_by (refusal_in result))
arrival_torn layout old new t result (Beyond outside same answer) = rw answer refl
arrival_torn layout old new t result (Found place inside finds same answer) = rw answer refl
arrival_torn layout old new t result (Free page inside finds lowest makes) = made_torn layout old new page t false result makes
arrival_torn layout old new t result (Full inside finds full recycles) = recycled_torn layout old new (layout.pool_first + ring_of old.sram) t result recycles

torn_same : (stop : Option ResolveStop) → torn_by (option_map refused_by stop) ≡ torn_at (stopped_by (option_map refused_by stop))
torn_same None = refl
torn_same (Some stop) = refl

pub from_torn : (layout : Layout) (old new : Store) (t : ℕ) (stub : Option ℕ) (arrival : Arrival) → ArrivesFrom layout old new t stub arrival
    → torn_by arrival.refused ≡ torn_at (stopped_by arrival.refused)
from_torn layout old new t stub arrival (Stopped refused arrives is) = rw is (arrival_torn layout old new t (Err refused) arrives)
from_torn layout old new t stub arrival (Went moved arrives none is) = rw is refl
from_torn layout old new t stub arrival (Resolved mid moved s arrives which stop performed same is) = rw is (torn_same stop)

-- what stands in flash then
pub record FlashLeft (layout : Layout) (old new : Store) (arrival : Arrival) : Type 0 where
  pub tried : Tried layout old.flash new.flash (stopped_by arrival.refused)
  pub image : image_of layout new.flash.words ≡ image_of layout old.flash.words
  pub torn : MatchOption (torn_by arrival.refused) ⊤ (λ torn. page_of new.flash.words torn.page ≡ blank)

pub flash_left : (layout : Layout) (old new : Store) (t : ℕ) (stub : Option ℕ) (arrival : Arrival) → IsRight layout → length old.flash.words ≡ word_count → ring_of old.sram < layout.pool_pages
    → CameThrough layout old.flash.words stub t → ArrivesFrom layout old new t stub arrival → FlashLeft layout old new arrival
flash_left layout old new t stub arrival right whole ring came arrives =
    let tried = tried_from layout old new t stub arrival right whole ring came arrives in
    record {
      tried = tried;
      image = tried_image layout old.flash new.flash (stopped_by arrival.refused) right whole tried;
      torn = rw (from_torn layout old new t stub arrival arrives) (tried_torn layout old.flash new.flash (stopped_by arrival.refused) tried);
    }

-- only an address outside the image is told as one
made_not_wild : (layout : Layout) (old new : Store) (page t address : ℕ) (again : Bool) (result : Result Moved Refused) → Makes layout old new page t again result
    → result ≡ Err (record { why = Wild address; torn = None }) → ⊥
made_not_wild layout old new page t address again result (Made words place prepared performed noted_there answer) is = absurd (cc)
made_not_wild layout old new page t address again result (NotMade words place prepared stop performed same answer) is =
    absurd (let told : Some (record { op = stop.op; torn = stop.torn }) ≡ None = ap (λ r. stopped_by (refusal_in r)) (sym answer ∙ is) in cc)

recycled_not_wild : (layout : Layout) (old new : Store) (victim t address : ℕ) (result : Result Moved Refused) → Recycles layout old new victim t result
    → result ≡ Err (record { why = Wild address; torn = None }) → ⊥
recycled_not_wild layout old new victim t address result (NotUnlinked stop performed same answer) is =
    absurd (let told : Some (record { op = stop.op; torn = stop.torn }) ≡ None = ap (λ r. stopped_by (refusal_in r)) (sym answer ∙ is) in cc)
recycled_not_wild layout old new victim t address result (NotErased unlinked performed listed after forgot answer) is =
    absurd (let told : Some (record { op = next_op unlinked; torn = None }) ≡ None = ap (λ r. stopped_by (refusal_in r)) (sym answer ∙ is) in cc)
recycled_not_wild layout old new victim t address result (Erased unlinked performed unlisted makes) is = made_not_wild layout _ new victim t address true result makes is

pub only_wild : (layout : Layout) (old new : Store) (t : ℕ) (result : Result Moved Refused) → Arrives layout old new t result → (result ≡ Err (record { why = Wild t; torn = None }))
    ↔ (layout.image_words ≤ t)
only_wild layout old new t result (Beyond outside same answer) = (λ is. outside, λ beyond. answer)
only_wild layout old new t result (Found place inside finds same answer) = (λ is. absurd (cc), λ beyond. absurd (omega arith))
only_wild layout old new t result (Free page inside finds lowest makes) = (λ is. absurd (made_not_wild layout old new page t t false result makes is), λ beyond. absurd (omega arith))
only_wild layout old new t result (Full inside finds full recycles) = (λ is. absurd (recycled_not_wild layout old new _ t t result recycles is), λ beyond. absurd (omega arith))
