-- Entries outside the page that an arrival makes: they stay, and none is new.
use Rattle.std.proofs.Common.{◌≡◌, ℕ, ◌/◌, Bool, true, List, Result, arith, refl, sym, ◌∙◌, subst, inl, inr}
use Rattle.std.specs.Prelude.{◌≢◌, IfOk}
use Rattle.std.proofs.lemmas.Bool.{cases_eq}
use Rattle.flash_words.specs.Pages.{page_words}
use Rattle.flash_words.specs.Layouts.{IsRight, image_of}
use Rattle.flash_words.specs.declared.layout.Layout.{Layout}
use Rattle.page_index.specs.Maps.{IsPool, IsFree}
use Rattle.page_index.specs.Entries.{IsEntry}
use Rattle.page_index.proofs.ChangeLaws.{lists_alike, same_back}
use Rattle.page_index.proofs.EntryLaws.{page_of_place}
use Rattle.page_draft.specs.Runs.{address}
use Rattle.page_draft.proofs.RunLaws.{page_size-is, size-templates, template_at-range}
use Rattle.nat_page.specs.Faithful.{IsFaithful}
use Rattle.nat_page.specs.Making.{IsPrepared, MakesPage}
use Rattle.nat_page.proofs.FaithfulLaws.{faithful_mapped}
use Rattle.nat_page.proofs.MadeLaws.{makes_faithful, makes_entries, makes_other}
use Rattle.branch_bridge.specs.declared.arrival.Moved.{Moved}
use Rattle.branch_bridge.specs.declared.arrival.Refused.{Refused}
use Rattle.branch_bridge.specs.Arrivals.{Store, Makes, Made, NotMade, KeepsEntries}
use Rattle.branch_bridge.proofs.MakeLaws.{prepared_makes, done_words}

-- the place of a page's first address is in it
own_place : (layout : Layout) (image old : List ℕ) (page t : ℕ) (words : List ℕ) (place : ℕ) → IsPrepared layout image old page t words place → place / page_words ≡ page
own_place layout image old page t words place prepared =
    let whole = page_size-is image t prepared.last in
    let more = size-templates image t prepared.last in
    let body = template_at-range image (address image t prepared.last) in
    omega (arith, prepared.placed, prepared.fits)

-- a page that is made
made_entries : (layout : Layout) (image old new : List ℕ) (page t place : ℕ) → IsRight layout → IsFaithful layout image old → IsPool layout page → IsFree old page → place / page_words ≡ page
    → MakesPage layout image old new page t place
    → KeepsEntries layout old new true place
made_entries layout image old new page t place right code pool free own makes a v away = (
  λ entry. makes_entries layout image old new page t place right code pool free makes a v entry,
  λ entry. elim (cases_eq entry.page page) [
    | inl same ↦ absurd (
        let mapped = faithful_mapped layout image new right (makes_faithful layout image old new page t place right code pool free makes) in
        away refl (sym (page_of_place layout new a v mapped entry) ∙ same ∙ sym own))
    | inr apart ↦ record {
      page = entry.page;
      index = entry.index;
      pool = entry.pool;
      lists = lists_alike new old entry.page entry.index a v (same_back old new entry.page (makes_other layout image old new page t place entry.page right code pool makes apart)) entry.lists;
    }
  ],
)

-- .. in flash where the entries elsewhere are those that were there before
pub entries_made : (layout : Layout) (before : List ℕ) (old new : Store) (page t : ℕ) (again : Bool) (result : Result Moved Refused) → IsRight layout
    → IsFaithful layout (image_of layout old.flash.words) old.flash.words
    → IsPool layout page → IsFree old.flash.words page
    → ((a v : ℕ) → v / page_words ≢ page → IsEntry layout before a v → IsEntry layout old.flash.words a v) → ((a v : ℕ) → IsEntry layout old.flash.words a v → IsEntry layout before a v)
    → Makes layout old new page t again result → IfOk result (λ moved. KeepsEntries layout before new.flash.words moved.made moved.place)
entries_made layout before old new page t again result right code pool free on back (Made words place prepared performed noted answer) =
    let image = image_of layout old.flash.words in
    let own = own_place layout image old.flash.words page t words place prepared in
    let after = done_words old.flash new.flash page again words performed in
    let makes : MakesPage layout image old.flash.words new.flash.words page t place = rw after (prepared_makes layout image old.flash.words page t place words prepared) in
    let made = made_entries layout image old.flash.words new.flash.words page t place right code pool free own makes in
    subst (λ (r : Result Moved Refused). IfOk r (λ moved. KeepsEntries layout before new.flash.words moved.made moved.place)) (sym answer) (λ a v away.
    (λ entry. (made a v away).0 (on a v (λ same. away refl (same ∙ sym own)) entry), λ entry. back a v ((made a v away).1 entry)))
entries_made layout before old new page t again result right code pool free on back (NotMade words place prepared stop performed same answer) =
    rw answer tt
