-- What an arrival that makes no page changes in flash.
use Rattle.std.proofs.Common.{◌≡◌, ℕ, ◌/◌, false, List, length, Option, Some, None, refl, sym, ap, ◌∙◌, subst, arith}
use Rattle.std.specs.Option.{option_map}
use Rattle.flash_words.specs.declared.layout.Layout.{Layout}
use Rattle.flash_words.specs.Layouts.{IsRight, image_of}
use Rattle.flash_words.specs.Memory.{Memory}
use Rattle.flash_words.specs.Pages.{page_words, word_count, page_of}
use Rattle.nat_page.specs.Faithful.{IsFaithful}
use Rattle.nat_page.specs.Links.{IsUnresolved, IsLinkIn, with_two_words}
use Rattle.nat_page.proofs.RelinkLaws.{link_placed}
use Rattle.page_draft.specs.Standing.{jump_word}
use Rattle.branch_bridge.specs.declared.rewriting.ResolveStop.{ResolveStop}
use Rattle.branch_bridge.specs.declared.through.Arrival.{Arrival}
use Rattle.branch_bridge.specs.Operating.{perform}
use Rattle.branch_bridge.specs.Resolving.{resolving}
use Rattle.branch_bridge.specs.Arrivals.{Store, ArrivesFrom, Stopped, Went, Resolved, CameThrough, refused_by}
use Rattle.branch_bridge.proofs.ThroughLaws.{is_to_resolve}
use Rattle.branch_bridge.proofs.PerformLaws.{rewriting_done}
use Rattle.program_steps.proofs.Arriving.{same_found}
use Rattle.theorem_reader.specs.Acts.{Relinks, Same, Linked}
use Rattle.theorem_reader.proofs.OtherPages.{page_resolved}

-- nothing was refused
pub not_stopped : (stop : Option ResolveStop) → option_map refused_by stop ≡ None → stop ≡ None
not_stopped None is = refl
not_stopped (Some stop) is = absurd (cc)

-- the words of flash where a stub is resolved
pub words_resolved : (layout : Layout) (image : List ℕ) (old new : Memory) (s t place : ℕ) → IsRight layout → length old.words ≡ word_count → IsLinkIn layout image old.words s t
    → perform old (resolving old.words s place) ≡ record { memory = new; stop = None } → new.words ≡ with_two_words old.words s jump_word place
words_resolved layout image old new s t place right whole link done =
    let placed = link_placed layout image old.words s t jump_word place right whole link in
    let words = page_of (with_two_words old.words s jump_word place) (s / page_words) in
    rewriting_done old new (s / page_words) words (omega (arith, whole, placed.low)) done ∙ page_resolved layout image old.words s t place right whole link

linked : (layout : Layout) (image : List ℕ) (old new : Memory) (s t place : ℕ) → IsRight layout → length old.words ≡ word_count → IsUnresolved layout image old.words s t
    → perform old (resolving old.words s place) ≡ record { memory = new; stop = None } → Relinks old.words new.words place
unfolding with_two_words
linked layout image old new s t place right whole stub done = Linked s (stub.call, stub.bridge) (words_resolved layout image old new s t place right whole stub.link done)

pub relinks_by : (layout : Layout) (old new : Store) (t : ℕ) (stub : Option ℕ) (arrival : Arrival) (place : ℕ) → IsRight layout → IsFaithful layout (image_of layout old.flash.words) old.flash.words
    → CameThrough layout old.flash.words stub t → ArrivesFrom layout old new t stub arrival → arrival.made ≡ false → arrival.refused ≡ None → arrival.place ≡ Some place
    → Relinks old.flash.words new.flash.words place
relinks_by layout old new t stub arrival place right code came (Stopped refused arrives is) none unrefused there =
    absurd (let e : Some refused ≡ None = sym (ap (λ (a : Arrival). a.refused) is) ∙ unrefused in cc)
relinks_by layout old new t stub arrival place right code came (Went moved arrives nothing is) none unrefused there =
    Same (ap (λ (f : Memory). f.words) (same_found layout old new t moved arrives (sym (ap (λ (a : Arrival). a.made) is) ∙ none)))
relinks_by layout old new t stub arrival place right code came (Resolved mid moved s arrives some stop done same is) none unrefused there =
    let to = is_to_resolve moved.recycled stub s some in
    let unresolved : IsUnresolved layout (image_of layout old.flash.words) old.flash.words s t = subst (λ x. CameThrough layout old.flash.words x t) to.same came in
    let left : mid.flash ≡ old.flash = same_found layout old mid t moved arrives (sym (ap (λ (a : Arrival). a.made) is) ∙ none) in
    let no_stop : stop ≡ None = not_stopped stop (sym (ap (λ (a : Arrival). a.refused) is) ∙ unrefused) in
    let at : moved.place ≡ place = (let e : Some moved.place ≡ Some place = sym (ap (λ (a : Arrival). a.place) is) ∙ there in cc) in
    let P : Memory → Type 0 = λ m. perform m (resolving m.words s moved.place) ≡ record { memory = new.flash; stop = stop } in
    let ran = subst (λ x. perform old.flash (resolving old.flash.words s moved.place) ≡ record { memory = new.flash; stop = x }) no_stop (subst P left done) in
    subst (Relinks old.flash.words new.flash.words) at (linked layout (image_of layout old.flash.words) old.flash new.flash s t moved.place right code.whole unresolved ran)
