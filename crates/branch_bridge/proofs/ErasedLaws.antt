-- The page that RING names, erased: what the next page is made in.
use Rattle.std.proofs.Common.{◌≡◌, ℕ, ◌+◌, ◌*◌, ◌/◌, ◌%◌, ◌<◌, ◌≤◌, ◌⊎◌, Bool, true, false, List, length, Some, Result, Ok, Err, arith, refl, sym, ap, ◌∙◌, subst, inl, inr}
use Rattle.std.specs.Prelude.{◌≢◌, IfOk, slice_index_or}
use Rattle.flash_words.specs.Pages.{page_words, set_page, blank}
use Rattle.flash_words.specs.Memory.{Memory}
use Rattle.flash_words.specs.Operations.{erased_page}
use Rattle.flash_words.specs.Layouts.{IsRight, image_of}
use Rattle.flash_words.specs.declared.layout.Layout.{Layout}
use Rattle.sram_layout.specs.Bytes.{byte_count}
use Rattle.sram_layout.specs.Cells.{ring_cell}
use Rattle.sram_layout.proofs.Laws.{byte_out_of_word, word_same}
use Rattle.page_index.specs.Maps.{IsPool, IsFree}
use Rattle.page_index.specs.Entries.{Lists, IsEntry, IsMapped, AreKnown}
use Rattle.page_index.proofs.MapLaws.{free_lists_nothing}
use Rattle.page_index.proofs.EntryLaws.{one_place, page_of_place}
use Rattle.nat_page.specs.Faithful.{IsFaithful}
use Rattle.nat_page.proofs.FaithfulLaws.{faithful_mapped}
use Rattle.nat_page.specs.Making.{HasNoEntry}
use Rattle.addr_tables.specs.Tables.{IsTables}
use Rattle.addr_tables.specs.Changes.{StaysOutside}
use Rattle.addr_tables.proofs.TableLaws.{tables_kept}
use Rattle.branch_bridge.specs.declared.arrival.Refused.{Refused}
use Rattle.branch_bridge.specs.declared.arrival.Moved.{Moved}
use Rattle.branch_bridge.specs.Unresolving.{IsApart}
use Rattle.branch_bridge.specs.Arrivals.{Store, Kept, ring_of, turned}
use Rattle.nat_page.specs.Links.{IsUnresolved}
use Rattle.std.proofs.lemmas.Nat.{mod_below}
use Rattle.branch_bridge.proofs.RecycleLaws.{erased_unresolved, IsAlone, erased_faithful, erased_image, victim_free, entry_left, entry_before}

pub record IsEmptied (layout : Layout) (old unlinked erased : Memory) (victim t : ℕ) : Type 0 where
  pub code : IsFaithful layout (image_of layout erased.words) erased.words
  pub same_image : image_of layout erased.words ≡ image_of layout old.words
  pub free : IsFree erased.words victim
  pub before : (a v : ℕ) → IsEntry layout erased.words a v → IsEntry layout old.words a v
  pub unknown : HasNoEntry layout erased.words t
  pub stays : StaysOutside layout unlinked.words erased.words victim
  pub stubs : (s to : ℕ) → s / page_words ≢ victim → IsUnresolved layout (image_of layout old.words) unlinked.words s to → IsUnresolved layout (image_of layout erased.words) erased.words s to

pub emptied : (layout : Layout) (old unlinked erased : Memory) (victim t : ℕ) → IsRight layout → IsFaithful layout (image_of layout old.words) unlinked.words
    → image_of layout unlinked.words ≡ image_of layout old.words → IsPool layout victim
    → ((page : ℕ) → IsPool layout page → page ≢ victim → IsFree unlinked.words page ⊎ IsApart layout (image_of layout old.words) unlinked.words victim page)
    → ((a v : ℕ) → IsEntry layout unlinked.words a v → IsEntry layout old.words a v) → HasNoEntry layout old.words t → erased ≡ erased_page unlinked victim
    → IsEmptied layout old unlinked erased victim t
emptied layout old unlinked erased victim t right code same pool apart back unknown is =
    let image = image_of layout old.words in
    let there : (set_page unlinked.words victim blank) ≡ erased.words = sym (ap (λ (m : Memory). m.words) is) in
    let alone : IsAlone layout image unlinked.words victim = record { pool = pool; apart = apart } in
    let image_there : image_of layout erased.words ≡ image = sym (ap (image_of layout) there) ∙ erased_image layout image unlinked.words victim right code pool ∙ same in
    let held : IsFaithful layout image erased.words = subst (IsFaithful layout image) there (erased_faithful layout image unlinked.words victim right code alone) in
    let before : (a v : ℕ) → IsEntry layout erased.words a v → IsEntry layout old.words a v = λ a v entry.
    back a v (entry_before layout image unlinked.words victim a v right code pool (rw there entry)) in
    record {
      code = rw image_there held;
      same_image = image_there;
      free = rw there at (victim_free layout image unlinked.words victim right code pool);
      before = before;
      unknown = λ v entry. unknown v (before t v entry);
      stubs = λ s to away stub. rw image_there (rw there at (erased_unresolved layout image unlinked.words victim s to right code alone away stub));
      stays = λ a v entry away. rw there at (entry_left layout image unlinked.words victim a v right code pool entry away);
    }

-- what was known of an original page's addresses, once it forgot those of the page that is erased
pub known_left : (layout : Layout) (old unlinked erased : Memory) (victim t original : ℕ) (known left : List Bool) → IsRight layout → IsMapped layout unlinked.words → IsPool layout victim
    → IsEmptied layout old unlinked erased victim t
    → ((a v : ℕ) → IsEntry layout old.words a v → IsEntry layout unlinked.words a v) → AreKnown layout old.words original known → length left ≡ length known
    → ((k : ℕ) → slice_index_or left k false ≡ true → slice_index_or known k false ≡ true)
    → ((k i v : ℕ) → k < page_words → Lists unlinked.words victim i (page_words * original + k) v → slice_index_or left k false ≡ false)
    → ((k : ℕ) → k < page_words → slice_index_or known k false ≡ true → (slice_index_or left k false ≡ true) ⊎ ((i : ℕ) × (v : ℕ) × Lists unlinked.words victim i (page_words * original + k) v))
    → AreKnown layout erased.words original left
known_left layout old unlinked erased victim t original known left right mapped pool is on are size only unmarked kept = record {
  size = size ∙ are.size;
  found = λ k below has.
      let a = page_words * original + k in
      let was = are.found k below (only k has) in
      let entry = on a was.0 was.1 in (
        was.0,
        is.stays a was.0 entry (λ own.
            let none = unmarked k entry.index was.0 below (rw (page_of_place layout unlinked.words a was.0 mapped entry ∙ own) at entry.lists) in
            let never : false ≡ true = sym none ∙ has in
            absurd (cc)),
      );
  only = λ k v below entry.
      let a = page_words * original + k in
      let was = is.before a v entry in
      elim (kept k below (are.only k v below was)) [
        | inl still ↦ still
        | inr listed ↦ (
            let there : IsEntry layout unlinked.words a listed.1 = record { page = victim; index = listed.0; pool = pool; lists = listed.2 } in
            let same : listed.1 ≡ v = one_place layout unlinked.words a listed.1 v mapped there (on a v was) in
            let emptied_map = faithful_mapped layout (image_of layout erased.words) erased.words right is.code in
            let own : entry.page ≡ victim = page_of_place _ _ _ _ emptied_map entry ∙ ap (λ p. p / page_words) (sym same) ∙ sym (page_of_place _ _ _ _ mapped there) in
            absurd (free_lists_nothing erased.words entry.page entry.index a v (rw own is.free) entry.lists))
      ];
}

turned_stays : (layout : Layout) (sram words : List ℕ) → IsTables layout sram words → IsTables layout (turned layout sram) words
turned_stays layout sram words tables =
    tables_kept _ _ _ _ _ (λ a from to. byte_out_of_word sram ring_cell a ((ring_of sram + 1) % layout.pool_pages) (omega arith) (omega arith) (λ is. omega arith) (λ is. omega arith))
    (λ t v entry. entry) tables

-- what holds of each answer that goes on
ok_more : (P Q : Moved → Type 0) (result : Result Moved Refused) → ((moved : Moved) → P moved → Q moved) → IfOk result P → IfOk result Q
ok_more P Q (Ok moved) more holds = more moved holds
ok_more P Q (Err refused) more holds = tt

ok_both : (P Q : Moved → Type 0) (result : Result Moved Refused) → IfOk result P → IfOk result Q → IfOk result (λ moved. P moved × Q moved)
ok_both P Q (Ok moved) one other = (one, other)
ok_both P Q (Err refused) one other = tt

turned_ring : (layout : Layout) (sram : List ℕ) → IsRight layout → length sram ≡ byte_count → ring_of (turned layout sram) < layout.pool_pages
turned_ring layout sram right long =
    let is = word_same sram ring_cell ((ring_of sram + 1) % layout.pool_pages) (omega arith) (omega (arith, long)) in
    omega (arith, is, mod_below (ring_of sram + 1) layout.pool_pages right.pool_pages)

-- what is made in it leaves the whole as it should be
pub emptied_kept : (layout : Layout) (old unlinked erased : Memory) (victim t : ℕ) (sram forgot turned_sram : List ℕ) (new : Store) (result : Result Moved Refused)
    → IsEmptied layout old unlinked erased victim t
    → ((a v : ℕ) → IsEntry layout old.words a v → IsEntry layout unlinked.words a v)
    → (StaysOutside layout unlinked.words erased.words victim → IsTables layout sram unlinked.words → IsTables layout forgot erased.words) → turned_sram ≡ turned layout forgot
    → IsRight layout → length forgot ≡ byte_count → ((s to : ℕ) → IsUnresolved layout (image_of layout old.words) old.words s to → IsUnresolved layout (image_of layout old.words) unlinked.words s to)
    → IfOk result (λ moved. moved.recycled ≡ Some victim) → new.flash.ops ≤ old.ops + (2 * layout.pool_pages + 2)
    → Kept layout (record { flash = erased; sram = turned_sram }) new t result → Kept layout (record { flash = old; sram = sram }) new t result
emptied_kept layout old unlinked erased victim t sram forgot turned_sram new result is on forgets turns right_layout long stubs told tried kept =
    let tables : IsTables layout sram old.words → IsTables layout turned_sram erased.words = λ right.
    rw turns (turned_stays layout forgot erased.words (forgets is.stays (tables_kept layout sram sram old.words unlinked.words (λ a from to. refl) on right))) in
    record {
      code = rw is.same_image at kept.code;
      same_image = kept.same_image ∙ is.same_image;
      tables = λ right. kept.tables (tables right);
      entered = λ right. kept.entered (tables right);
      ops = tried;
      ring = λ below. kept.ring (let there = ap ring_of turns in omega (arith, there, turned_ring layout forgot right_layout long));
      stubs = (
          let Told : Moved → Type 0 = λ moved. moved.recycled ≡ Some victim in
          let Stay : List ℕ → List ℕ → Moved → Type 0 = λ image words moved. (s to : ℕ) → moved.recycled ≢ Some (s / page_words) → IsUnresolved layout image words s to
          → IsUnresolved layout image new.flash.words s to in
          let Here = Stay (image_of layout erased.words) erased.words in
          ok_more (λ moved. Told moved × Here moved) (Stay (image_of layout old.words) old.words) result (λ moved both s to apart stub.
          rw is.same_image at (both.1 s to apart (is.stubs s to (λ own. apart (both.0 ∙ ap Some (sym own))) (stubs s to stub)))) (ok_both Told Here result told kept.stubs));
    }
