-- Arrivals keep links to the parts of the image that they keep to.
use Rattle.std.proofs.Common.{◌≡◌, ℕ, zero, suc, ◌+◌, ◌-◌, ◌*◌, ◌/◌, ◌<◌, ◌≤◌, Bool, true, false, List, [], length, Option, Some, None, Result, Ok, Err, arith, refl, sym, ap, ◌∙◌, inl, inr, subst}
use Rattle.std.specs.Prelude.{◌≢◌, ◌==◌, ◌||◌, not, if◌then◌else◌, IfOk}
use Rattle.std.proofs.lemmas.Bool.{cases_eq}
use Rattle.flash_words.specs.Pages.{page_words, word_at, page_of, set_page}
use Rattle.flash_words.specs.Layouts.{IsRight, image_of}
use Rattle.flash_words.specs.declared.layout.Layout.{Layout}
use Rattle.flash_words.specs.Memory.{Memory}
use Rattle.flash_words.specs.Operations.{erased_page}
use Rattle.page_index.specs.Maps.{IsPool, IsFree, address_of, entry_count}
use Rattle.page_index.specs.Entries.{IsEntry}
use Rattle.page_index.proofs.ChangeLaws.{SamePage}
use Rattle.page_draft.specs.Standing.{jump_word}
use Rattle.page_draft.specs.CodePages.{page_pieces}
use Rattle.nat_page.specs.Faithful.{IsFaithful, IsRewritten}
use Rattle.nat_page.specs.Links.{IsUnresolved, with_two_words}
use Rattle.nat_page.specs.Making.{MakesPage}
use Rattle.nat_page.specs.Parts.{IsLinkFrom, IsParted}
use Rattle.nat_page.specs.Used.{is_used}
use Rattle.nat_page.specs.Unlinking.{leads_into, with_calls, stubs_into, are_some}
use Rattle.nat_page.proofs.StayLaws.{held_used}
use Rattle.nat_page.proofs.MadeLaws.{makes_other, makes_faithful}
use Rattle.nat_page.proofs.PartLaws.{kept_parted, makes_parted, erased_parted, relinked_parted, link_kept, link_stays, link_page, same_origin}
use Rattle.nat_page.proofs.UnlinkLaws.{links_among, among_inside, unlinked_page, unlinks}
use Rattle.nat_page.proofs.WalkLaws.{own_run}
use Rattle.nat_page.proofs.RelinkLaws.{link_placed}
use Rattle.branch_bridge.specs.declared.arrival.Refused.{Refused}
use Rattle.branch_bridge.specs.declared.arrival.Moved.{Moved}
use Rattle.branch_bridge.specs.declared.rewriting.ResolveStop.{ResolveStop}
use Rattle.branch_bridge.specs.Operating.{Performed, perform, rewriting, unless_stopped, then_on, mended, with_torn}
use Rattle.branch_bridge.specs.Resolving.{resolving}
use Rattle.branch_bridge.specs.Unresolving.{has_stubs_into, unlinking, unresolved}
use Rattle.branch_bridge.specs.Arrivals.{Store, ring_of, Makes, Made, NotMade, Recycles, NotUnlinked, NotErased, Erased, Arrives, Beyond, Found, Free, Full, torn_in, turned}
use Rattle.addr_tables.specs.Changes.{forgotten}
use Rattle.branch_bridge.proofs.PerformLaws.{mended_by}
use Rattle.branch_bridge.proofs.UnresolveLaws.{no_jump, used_rewritten}
use Rattle.branch_bridge.proofs.UpToLaws.{UpTo, up_to_none, up_to_next}
use Rattle.branch_bridge.proofs.RecycleLaws.{IsAlone, other_left, victim_free, erased_faithful, erased_image}
use Rattle.branch_bridge.proofs.MakeLaws.{prepared_makes, by_program, done_words, makes_told}
use Rattle.branch_bridge.proofs.ResolveLaws.{jump_links, is_resolved}

-- links keep to the parts, and those that were there are there still
pub record Parted (layout : Layout) (image : List ℕ) (part : ℕ → ℕ) (before words : List ℕ) : Type 0 where
  pub parted : IsParted layout image words part
  pub links : (q s t : ℕ) → IsLinkFrom layout image before part q s t → IsLinkFrom layout image words part q s t

-- one page without its stubs into the victim
unlinked_parted : (layout : Layout) (image before words : List ℕ) (part : ℕ → ℕ) (victim page : ℕ) → IsRight layout → IsFaithful layout image words → IsPool layout page
    → IsRewritten layout image words page
    → Parted layout image part before words → Parted layout image part before (with_calls words (stubs_into image words victim page))
unlinked_parted layout image before words part victim page right code pool run is =
    let own = own_run (IsEntry layout words) image words page run.first run.last run.holds in
    let first = address_of words page 0 in
    let last = entry_count words page - 1 in
    let stubs = stubs_into image words victim page in
    let words' = with_calls words stubs in
    let low : page < 480 = omega (arith, pool.to, right.pool_below_kernel) in
    let keeps = unlinks layout image words (leads_into victim) page first last (omega (arith, code.image_length, right.image_fits)) code.whole low own.holds in
    let among = among_inside _ _ (length words) stubs (omega arith) (links_among words (leads_into victim) (page_words * page) (page_pieces image first last)) in
    record {
      parted = kept_parted layout image words words' part page first last right code pool keeps (λ s t link jump. elim (cases_eq (word_at words s) jump_word) [
        | inl was ↦ inl was
        | inr none ↦ absurd (no_jump words stubs s among none jump)
      ]) is.parted;
      links = λ q s t from. link_kept layout image words words' part page first last q s t keeps (is.links q s t from);
    }

pub stubs_used : (itself used some : Bool) → (if itself || not used then false else some) ≡ true → used ≡ true
stubs_used true used some is = absurd (cc)
stubs_used false false some is = absurd (cc)
stubs_used false true some is = refl

one_parted : (layout : Layout) (image before : List ℕ) (now : Memory) (part : ℕ → ℕ) (victim page : ℕ) → IsRight layout → IsFaithful layout image now.words → IsPool layout page
    → Parted layout image part before now.words
    → (let told = perform now (unlinking image now.words victim page) in Parted layout image part before (mended told.memory.words told.stop))
one_parted layout image before now part victim page right code pool is =
    let words = now.words in
    let new = page_of (with_calls words (stubs_into image words victim page)) page in
    let more = rewriting page new in
    let Told : Bool → Type 0 = λ b. has_stubs_into image words victim page ≡ b
    → (let told = perform now (if b then more else []) in Parted layout image part before (mended told.memory.words told.stop)) in
    (elim (has_stubs_into image words victim page) as Told [
      | true ↦ λ some. (
          let run = used_rewritten layout image words page code pool (stubs_used (page == victim) (is_used words page) (are_some (stubs_into image words victim page)) some) in
          let own = own_run (IsEntry layout words) image words page run.first run.last run.holds in
          let inside : page_words * page + page_words ≤ length words = omega (arith, code.whole, pool.to, right.pool_below_kernel) in
          let there = unlinked_page (IsEntry layout words) image words (leads_into victim) page (address_of words page 0) (entry_count words page - 1) inside own.holds in
          mended_by (Parted layout image part before) now page new inside is
          (subst (Parted layout image part before) (sym there) (unlinked_parted layout image before words part victim page right code pool run is)))
      | false ↦ λ none. is
    ]) refl

-- all pages, one after another
abbrev Told : Layout → (image before : List ℕ) → (part : ℕ → ℕ) → (old : Memory) → (victim k : ℕ) → Performed → Type 0
Told layout image before part old victim k p = (p.stop ≡ None → UpTo layout old p.memory victim k) × Parted layout image part before (mended p.memory.words p.stop)

told_next : (layout : Layout) (part : ℕ → ℕ) (old : Memory) (victim k : ℕ) (p : Performed) → IsRight layout → suc k ≤ layout.pool_pages
    → Told layout (image_of layout old.words) old.words part old victim k p
    → Told layout (image_of layout old.words) old.words part old victim (suc k) (then_on p (λ m. perform m (unlinking (image_of layout old.words) m.words victim (layout.pool_first + k))))
told_next layout part old victim k p right below told =
    let image = image_of layout old.words in
    let page = layout.pool_first + k in
    let next : Memory → Performed = λ m. perform m (unlinking image m.words victim page) in
    let Next : Option ResolveStop → Type 0 = λ o. p.stop ≡ o → Told layout image old.words part old victim (suc k) (unless_stopped o p.memory next) in
    (elim p.stop as Next [
      | None ↦ λ none. (
          let now = p.memory in
          let up = told.0 none in
          let pool : IsPool layout page = record { from = omega arith; to = omega arith } in
          let q = next now in
          let here : Parted layout image part old.words now.words = rw none at told.1 in (
            λ done. up_to_next layout old now q.memory victim k right up (omega arith)
                (ap (λ i. perform now (unlinking i now.words victim page)) up.same_image ∙ ap (λ stop. record { memory = q.memory; stop = stop }) done),
            one_parted layout image old.words now part victim page right up.code pool here,
          ))
      | Some stop ↦ λ some. (λ none. absurd (let never : Some stop ≡ None = none in cc), rw some at told.1)
    ]) refl

told_all : (layout : Layout) (part : ℕ → ℕ) (old : Memory) (victim k : ℕ) → IsRight layout → IsFaithful layout (image_of layout old.words) old.words → k ≤ layout.pool_pages
    → IsParted layout (image_of layout old.words) old.words part
    → Told layout (image_of layout old.words) old.words part old victim k (unresolved (image_of layout old.words) victim layout.pool_first k old)
told_all layout part old victim zero right code below parted = (λ none. up_to_none layout old victim code, record { parted = parted; links = λ q s t from. from })
told_all layout part old victim (suc k) right code below parted =
    told_next layout part old victim k (unresolved (image_of layout old.words) victim layout.pool_first k old) right below (told_all layout part old victim k right code (omega arith) parted)

-- no link stands in a free page
link_elsewhere : (layout : Layout) (image words : List ℕ) (part : ℕ → ℕ) (page q s t : ℕ) → IsRight layout → IsFaithful layout image words → IsFree words page
    → (from : IsLinkFrom layout image words part q s t) → from.link.page ≢ page
link_elsewhere layout image words part page q s t right code free from is =
    let link = from.link in
    held_used (IsEntry layout words) image words page link.first link.last (omega (arith, code.image_length, right.image_fits)) (rw is at link.holds) free

-- a page that is made
made_parted : (layout : Layout) (image old new : List ℕ) (part : ℕ → ℕ) (page t place : ℕ) → IsRight layout → IsFaithful layout image old → IsPool layout page → IsFree old page
    → MakesPage layout image old new page t place
    → IsParted layout image old part → Parted layout image part old new
made_parted layout image old new part page t place right code pool free makes parted = record {
  parted = makes_parted layout image old new part page t place right code pool free makes parted;
  links = λ q s to from.
      link_stays layout image old new part q s to right code.whole (makes_faithful layout image old new page t place right code pool free makes) from
      (makes_other layout image old new page t place from.link.page right code pool makes (link_elsewhere layout image old part page q s to right code free from));
}

-- the links that are there still where control goes on
abbrev AllStay : (layout : Layout) → (image : List ℕ) → (part : ℕ → ℕ) → (before words : List ℕ) → Result Moved Refused → Type 0
AllStay layout image part before words result = IfOk result (λ moved. (q s t : ℕ) → IsLinkFrom layout image before part q s t → IsLinkFrom layout image words part q s t)

abbrev LinksStay : (layout : Layout) → (image : List ℕ) → (part : ℕ → ℕ) → (before words : List ℕ) → Result Moved Refused → Type 0
LinksStay layout image part before words result =
    IfOk result (λ moved. (q s t : ℕ) → moved.recycled ≢ Some (s / page_words) → IsLinkFrom layout image before part q s t → IsLinkFrom layout image words part q s t)

makes_arrived : (layout : Layout) (old new : Store) (part : ℕ → ℕ) (page t : ℕ) (again : Bool) (result : Result Moved Refused) → IsRight layout
    → IsFaithful layout (image_of layout old.flash.words) old.flash.words → IsPool layout page → IsFree old.flash.words page
    → Makes layout old new page t again result → IsParted layout (image_of layout old.flash.words) old.flash.words part
    → (let image = image_of layout old.flash.words in IsParted layout image (with_torn new.flash.words (torn_in result)) part × AllStay layout image part old.flash.words new.flash.words result)
makes_arrived layout old new part page t again result right code pool free (Made words place prepared performed noted_there answer) parted =
    let image = image_of layout old.flash.words in
    let before = old.flash.words in
    let after = done_words old.flash new.flash page again words performed in
    let makes : MakesPage layout image before new.flash.words page t place = rw after (prepared_makes layout image before page t place words prepared) in
    let made = made_parted layout image before new.flash.words part page t place right code pool free makes parted in
    let Stays : Result Moved Refused → Type 0 = λ r. IsParted layout image (with_torn new.flash.words (torn_in r)) part × AllStay layout image part before new.flash.words r in
    subst Stays (sym answer) (made.parted, made.links)
makes_arrived layout old new part page t again result right code pool free (NotMade words place prepared stop performed same answer) parted =
    let image = image_of layout old.flash.words in
    let before = old.flash.words in
    let makes = prepared_makes layout image before page t place words prepared in
    let Stays : Result Moved Refused → Type 0 = λ r. IsParted layout image (with_torn new.flash.words (torn_in r)) part × AllStay layout image part before new.flash.words r in
    subst Stays (sym answer) (
      by_program (λ w. IsParted layout image w part) old.flash new.flash page again words stop parted
          (makes_parted layout image before (set_page before page words) part page t place right code pool free makes parted) performed,
      tt,
    )

ok_stays : (layout : Layout) (image : List ℕ) (part : ℕ → ℕ) (before words : List ℕ) (result : Result Moved Refused) → AllStay layout image part before words result
    → LinksStay layout image part before words result
ok_stays layout image part before words (Ok moved) all = λ q s t away from. all q s t from
ok_stays layout image part before words (Err refused) all = tt

-- a page that is recycled
recycled_links : (layout : Layout) (image : List ℕ) (part : ℕ → ℕ) (before mid words : List ℕ) (victim : ℕ) (result : Result Moved Refused) → IfOk result (λ moved. moved.recycled ≡ Some victim)
    → ((q s t : ℕ) → s / page_words ≢ victim → IsLinkFrom layout image before part q s t → IsLinkFrom layout image mid part q s t) → AllStay layout image part mid words result
    → LinksStay layout image part before words result
recycled_links layout image part before mid words victim (Ok moved) told on all = λ q s t away from. all q s t (on q s t (λ own. away (told ∙ ap Some (sym own))) from)
recycled_links layout image part before mid words victim (Err refused) told on all = tt

abbrev Arrived : Layout → (old new : Store) → (part : ℕ → ℕ) → Result Moved Refused → Type 0
Arrived layout old new part result =
    IsParted layout (image_of layout old.flash.words) (with_torn new.flash.words (torn_in result)) part × LinksStay layout (image_of layout old.flash.words) part old.flash.words new.flash.words result

recycles_arrived : (layout : Layout) (old new : Store) (part : ℕ → ℕ) (victim t : ℕ) (result : Result Moved Refused) → IsRight layout
    → IsFaithful layout (image_of layout old.flash.words) old.flash.words → IsPool layout victim
    → Recycles layout old new victim t result → IsParted layout (image_of layout old.flash.words) old.flash.words part → Arrived layout old new part result
recycles_arrived layout old new part victim t result right code pool (NotUnlinked stop performed same answer) parted =
    subst (Arrived layout old new part) (sym answer) ((rw performed at (told_all layout part old.flash victim layout.pool_pages right code (omega arith) parted).1).parted, tt)
recycles_arrived layout old new part victim t result right code pool (NotErased unlinked performed listed left same answer) parted =
    let all = told_all layout part old.flash victim layout.pool_pages right code (omega arith) parted in
    subst (Arrived layout old new part) (sym answer) (rw (ap (λ (m : Memory). m.words) left) (rw performed at all.1).parted, tt)
recycles_arrived layout old new part victim t result right code pool (Erased unlinked performed free makes) parted =
    let image = image_of layout old.flash.words in
    let all = told_all layout part old.flash victim layout.pool_pages right code (omega arith) parted in
    let up = (rw performed at all.0) refl in
    let here = rw performed at all.1 in
    let erased = erased_page unlinked victim in
    let alone : IsAlone layout image unlinked.words victim = record { pool = pool; apart = λ page pool' away. up.apart page pool' (omega (arith, pool'.to)) away } in
    let held : IsFaithful layout image erased.words = erased_faithful layout image unlinked.words victim right up.code alone in
    let image_there : image_of layout erased.words ≡ image = erased_image layout image unlinked.words victim right up.code pool ∙ up.same_image in
    let others : (other : ℕ) → other ≢ victim → SamePage unlinked.words erased.words other = λ other away. other_left layout image unlinked.words victim other right up.code pool away in
    let blank_there = victim_free layout image unlinked.words victim right up.code pool in
    let emptied = erased_parted layout image unlinked.words erased.words part victim right up.code held.whole blank_there others here.parted in
    let mid : Store = record { flash = erased; sram = turned layout (forgotten old.sram victim) } in
    let made = makes_arrived layout mid new part victim t true result right (rw image_there held) pool blank_there makes (rw image_there emptied) in
    let there = rw image_there at made in (
      there.0,
      recycled_links layout image part old.flash.words erased.words new.flash.words victim result (makes_told layout mid new victim t true result makes)
          (λ q s to away from. (let now = here.links q s to from in link_stays _ _ _ _ _ _ _ _ right up.code.whole held now
          (others now.link.page (λ is. away (link_page layout image unlinked.words s to now.link ∙ is))))) there.1,
    )

pub arrives_parted : (layout : Layout) (old new : Store) (part : ℕ → ℕ) (t : ℕ) (result : Result Moved Refused) → IsRight layout → IsFaithful layout (image_of layout old.flash.words) old.flash.words
    → ring_of old.sram < layout.pool_pages
    → Arrives layout old new t result → IsParted layout (image_of layout old.flash.words) old.flash.words part → Arrived layout old new part result
arrives_parted layout old new part t result right code ring (Beyond out same answer) parted =
    subst (Arrived layout old new part) (sym answer) (rw (ap (λ (s : Store). s.flash.words) same) parted, tt)
arrives_parted layout old new part t result right code ring (Found place inside finds same answer) parted =
    let words : new.flash.words ≡ old.flash.words = ap (λ (m : Memory). m.words) same in
    subst (Arrived layout old new part) (sym answer) (rw words parted, λ q s to away from. rw words from)
arrives_parted layout old new part t result right code ring (Free page inside finds lowest makes) parted =
    let made = makes_arrived layout old new part page t false result right code lowest.pool lowest.free makes parted in
    (made.0, ok_stays layout (image_of layout old.flash.words) part old.flash.words new.flash.words result made.1)
arrives_parted layout old new part t result right code ring (Full inside finds none recycles) parted =
    recycles_arrived layout old new part (layout.pool_first + ring_of old.sram) t result right code (record { from = omega arith; to = omega arith }) recycles parted

-- a stub that is resolved
pub resolved_parted : (layout : Layout) (image : List ℕ) (old : Memory) (part : ℕ → ℕ) (s t place : ℕ) → IsRight layout → IsFaithful layout image old.words → IsUnresolved layout image old.words s t
    → IsEntry layout old.words t place
    → IsLinkFrom layout image old.words part (part t) s t → IsParted layout image old.words part
    → (let told = perform old (resolving old.words s place) in IsParted layout image (mended told.memory.words told.stop) part)
resolved_parted layout image old part s t place right code stub entry from parted =
    let words = old.words in
    let page = s / page_words in
    let placed = link_placed layout image words s t jump_word place right code.whole stub.link in
    let is = is_resolved layout image words s t place right code stub in
    let own : part stub.link.first ≡ part t = ap part (same_origin layout image words s t t stub.link from.link) ∙ from.own in
    mended_by (λ w. IsParted layout image w part) old page (page_of (with_two_words words s jump_word place) page) (omega (arith, code.whole, placed.low)) parted
    (rw is (relinked_parted layout image words part s t place right code stub (jump_links layout words t place entry) own parted))
