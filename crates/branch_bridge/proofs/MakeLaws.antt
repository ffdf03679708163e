-- A page made by one operation, done or refused.
use Rattle.std.proofs.Common.{◌≡◌, ℕ, ◌+◌, ◌*◌, ◌≤◌, Bool, true, false, List, [], ◌∷◌, length, Option, Some, None, Result, Ok, Err, arith, refl, sym, ap, ap₂, ◌∙◌, inl, subst}
use Rattle.flash_words.specs.Pages.{set_page}
use Rattle.flash_words.specs.Layouts.{IsRight, image_of}
use Rattle.flash_words.specs.declared.layout.Layout.{Layout}
use Rattle.flash_words.specs.Memory.{Memory}
use Rattle.flash_words.specs.Operations.{fails, left_by_refusal, programmed_page, next_op}
use Rattle.sram_layout.specs.Bytes.{byte_count, data_word_at}
use Rattle.sram_layout.specs.Cells.{ring_cell}
use Rattle.page_index.specs.Maps.{IsPool, IsFree}
use Rattle.nat_page.specs.Faithful.{IsFaithful}
use Rattle.nat_page.specs.Making.{IsPrepared, MakesPage}
use Rattle.nat_page.proofs.MadeLaws.{makes_faithful, makes_entry, makes_entries, makes_image, makes_unresolved}
use Rattle.addr_tables.specs.Tables.{IsTables}
use Rattle.addr_tables.specs.Changes.{noted, KeepsRest}
use Rattle.addr_tables.proofs.TableLaws.{tables_kept}
use Rattle.addr_tables.proofs.NoteLaws.{noted_tables, rest_noted}
use Rattle.branch_bridge.specs.declared.rewriting.ResolveStop.{ResolveStop}
use Rattle.branch_bridge.specs.declared.arrival.Refused.{Refused}
use Rattle.branch_bridge.specs.declared.arrival.Moved.{Moved}
use Rattle.branch_bridge.specs.Operating.{Program, Performed, perform, lacking, with_torn, stop_at}
use Rattle.branch_bridge.specs.Arrivals.{Store, Makes, Made, NotMade, recycled_page, refused_by, torn_in, made_in, one_if, ring_of, Kept}
use Rattle.std.specs.Prelude.{if◌then◌else◌, IfOk, ◌||◌}
use Rattle.nat_page.specs.Used.{used_pages}
use Rattle.nat_page.proofs.UsedLaws.{used_made}
use Rattle.branch_bridge.proofs.PerformLaws.{perform_refused, perform_done}

-- a page that is programmed as it was prepared
pub prepared_makes : (layout : Layout) (image old : List ℕ) (page t place : ℕ) (words : List ℕ) → IsPrepared layout image old page t words place
    → MakesPage layout image old (set_page old page words) page t place
prepared_makes layout image old page t place words prepared = record { words = words; prepared = prepared; changed = refl }

pub makes_made : (layout : Layout) (flash flash' : Memory) (sram sram' : List ℕ) (page t : ℕ) (again : Bool) (words : List ℕ) (place : ℕ)
    → IsPrepared layout (image_of layout flash.words) flash.words page t words place
    → fails flash ≡ false → flash' ≡ programmed_page flash page words → sram' ≡ noted sram t place
    → Makes layout (record { flash = flash; sram = sram }) (record { flash = flash'; sram = sram' }) page t again (Ok (record { place = place; made = true; recycled = recycled_page again page }))
makes_made layout flash flash' sram sram' page t again words place prepared free after noted_there =
    let told : Memory → Performed = λ m. record { memory = m; stop = None } in
    Made words place prepared (perform_done flash (Program again page words) [] free ∙ ap told (sym after)) noted_there refl

pub makes_refused : (layout : Layout) (flash flash' : Memory) (sram : List ℕ) (page t op : ℕ) (again : Bool) (words : List ℕ) (place : ℕ)
    → IsPrepared layout (image_of layout flash.words) flash.words page t words place
    → fails flash ≡ true → flash' ≡ left_by_refusal flash page → op ≡ next_op flash
    → Makes layout (record { flash = flash; sram = sram }) (record { flash = flash'; sram = sram }) page t again (Err (refused_by (record { op = op; torn = lacking (Program again page words) })))
makes_refused layout flash flash' sram page t op again words place prepared listed after is =
    let told : Memory → ResolveStop → Performed = λ m stop. record { memory = m; stop = Some stop } in
    let stop : ℕ → ResolveStop = λ n. record { op = n; torn = lacking (Program again page words) } in
    NotMade words place prepared (stop op) (perform_refused flash (Program again page words) [] listed ∙ ap (λ m. told m (stop (next_op flash))) (sym after)
    ∙ ap (λ n. told flash' (stop n)) (sym is)) refl refl

-- what holds of the words with the page put in that is told to lack them, holds of the new ones with a torn page put in
torn_is : (P : List ℕ → Type 0) (flash flash' : Memory) (page : ℕ) (again : Bool) (words : List ℕ) (stop : ResolveStop) → P (with_torn flash.words (lacking (Program again page words)))
    → perform flash (Program again page words ∷ []) ≡ record { memory = flash'; stop = Some stop } → P (with_torn flash'.words stop.torn)
torn_is P flash flash' page again words stop there performed =
    let refused : Performed = record { memory = left_by_refusal flash page; stop = Some (stop_at flash (Program again page words)) } in
    let done : Performed = record { memory = programmed_page flash page words; stop = None } in
    let Told : Performed → Type 0 = λ r. r ≡ record { memory = flash'; stop = Some stop } → P (with_torn flash'.words stop.torn) in
    let Test : Bool → Type 0 = λ b. Told (if b then refused else done) in
    (elim (fails flash) as Test [
      | true ↦ λ is. (
          let memory : left_by_refusal flash page ≡ flash' = ap (λ (r : Performed). r.memory) is in
          let told : Some (stop_at flash (Program again page words)) ≡ Some stop = ap (λ (r : Performed). r.stop) is in
          let which : stop_at flash (Program again page words) ≡ stop = cc in
          let W : Memory → Type 0 = λ m. P (with_torn m.words (lacking (Program again page words))) in
          let S : ResolveStop → Type 0 = λ s. P (with_torn flash'.words s.torn) in
          subst S which (subst W memory there))
      | false ↦ λ is. absurd (let told : None ≡ Some stop = ap (λ (r : Performed). r.stop) is in cc)
    ]) performed

-- .. as what holds both of the words before and of those with the page in them does
pub by_program : (P : List ℕ → Type 0) (flash flash' : Memory) (page : ℕ) (again : Bool) (words : List ℕ) (stop : ResolveStop) → P flash.words → P (set_page flash.words page words)
    → perform flash (Program again page words ∷ []) ≡ record { memory = flash'; stop = Some stop } → P (with_torn flash'.words stop.torn)
by_program P flash flash' page again words stop before after performed =
    let Again : Bool → Type 0 = λ b. P (with_torn flash.words (lacking (Program b page words))) in
    let torn : Again again = elim again as Again [
      | true ↦ after
      | false ↦ before
    ] in
    torn_is P flash flash' page again words stop torn performed

pub done_words : (flash flash' : Memory) (page : ℕ) (again : Bool) (words : List ℕ) → perform flash (Program again page words ∷ []) ≡ record { memory = flash'; stop = None }
    → flash'.words ≡ set_page flash.words page words
done_words flash flash' page again words performed =
    let refused : Performed = record { memory = left_by_refusal flash page; stop = Some (stop_at flash (Program again page words)) } in
    let done : Performed = record { memory = programmed_page flash page words; stop = None } in
    let Test : Bool → Type 0 = λ b. (if b then refused else done) ≡ record { memory = flash'; stop = None } → flash'.words ≡ set_page flash.words page words in
    (elim (fails flash) as Test [
      | true ↦ λ is. absurd (let told : Some (stop_at flash (Program again page words)) ≡ None = ap (λ (r : Performed). r.stop) is in cc)
      | false ↦ λ is. sym (ap (λ (r : Performed). r.memory.words) is)
    ]) performed

-- one operation was tried
tried_one : (flash flash' : Memory) (page : ℕ) (again : Bool) (words : List ℕ) (stop : Option ResolveStop) → perform flash (Program again page words ∷ []) ≡ record { memory = flash'; stop = stop }
    → flash'.ops ≤ flash.ops + 1
tried_one flash flash' page again words stop performed =
    let refused : Performed = record { memory = left_by_refusal flash page; stop = Some (stop_at flash (Program again page words)) } in
    let done : Performed = record { memory = programmed_page flash page words; stop = None } in
    let Test : Bool → Type 0 = λ b. (if b then refused else done) ≡ record { memory = flash'; stop = stop } → flash'.ops ≤ flash.ops + 1 in
    (elim (fails flash) as Test [
      | true ↦ λ is. omega (arith, ap (λ (r : Performed). r.memory.ops) is)
      | false ↦ λ is. omega (arith, ap (λ (r : Performed). r.memory.ops) is)
    ]) performed

-- RING is no byte of the tables
pub ring_kept : (old new : List ℕ) → KeepsRest old new → ring_of new ≡ ring_of old
unfolding data_word_at
ring_kept old new keeps =
    let word : ℕ → ℕ → ℕ = λ low high. low + 256 * high in
    ap₂ word (keeps.rest ring_cell (omega arith) (inl (omega arith))) (keeps.rest (ring_cell + 1) (omega arith) (inl (omega arith)))

module _ (layout : Layout) (old new : Store) (page t : ℕ) (again : Bool) (result : Result Moved Refused) where
  pub makes_ops : Makes layout old new page t again result → new.flash.ops ≤ old.flash.ops + 1
  makes_ops (Made words place prepared performed noted_there answer) = tried_one old.flash new.flash page again words None performed
  makes_ops (NotMade words place prepared stop performed same answer) = tried_one old.flash new.flash page again words (Some stop) performed

  -- the page that was erased is told
  pub makes_told : Makes layout old new page t again result → IfOk result (λ moved. moved.recycled ≡ recycled_page again page)
  makes_told (Made words place prepared performed noted_there answer) = rw answer refl
  makes_told (NotMade words place prepared stop performed same answer) = rw answer tt

  pub make_kept : IsRight layout → IsFaithful layout (image_of layout old.flash.words) old.flash.words → IsPool layout page → IsFree old.flash.words page → length old.sram ≡ byte_count
      → Makes layout old new page t again result → Kept layout old new t result
  make_kept right code pool free long (Made words place prepared performed noted_there answer) =
      let image = image_of layout old.flash.words in
      let after = done_words old.flash new.flash page again words performed in
      let made = prepared_makes layout image old.flash.words page t place words prepared in
      let there : MakesPage layout image old.flash.words new.flash.words page t place = rw after made in
      let entry = makes_entry layout image old.flash.words new.flash.words page t place right code pool there in
      let Stays : Result Moved Refused → Type 0 = λ r. Kept layout old new t r in
      subst Stays (sym answer) (record {
        code = makes_faithful layout image old.flash.words new.flash.words page t place right code pool free there;
        same_image = makes_image layout image old.flash.words new.flash.words page t place right code pool there;
        tables = λ tables.
            let here = tables_kept layout old.sram old.sram old.flash.words new.flash.words (λ a from to. refl)
            (makes_entries layout image old.flash.words new.flash.words page t place right code pool free there) tables in
            rw noted_there (noted_tables layout old.sram new.flash.words t place long entry here);
        entered = λ tables. entry;
        ops = (let one = tried_one old.flash new.flash page again words None performed in omega arith);
        ring = λ below. (let kept = ring_kept old.sram (noted old.sram t place) (rest_noted old.sram t place) in let same = ap ring_of noted_there in omega (arith, kept, same));
        stubs = λ s to apart stub. makes_unresolved _ _ _ _ _ _ _ right code pool free there s to stub;
      })
  make_kept right code pool free long (NotMade words place prepared stop performed same answer) =
      let image = image_of layout old.flash.words in
      let new_words = set_page old.flash.words page words in
      let made = prepared_makes layout image old.flash.words page t place words prepared in
      let Stays : Result Moved Refused → Type 0 = λ r. Kept layout old new t r in
      subst Stays (sym answer) (record {
        code = by_program (IsFaithful layout image) old.flash new.flash page again words stop code
            (makes_faithful layout image old.flash.words new_words page t place right code pool free made) performed;
        same_image = by_program (λ w. image_of layout w ≡ image) old.flash new.flash page again words stop refl
            (makes_image layout image old.flash.words new_words page t place right code pool made) performed;
        tables = λ tables. rw same (by_program (IsTables layout old.sram) old.flash new.flash page again words stop tables
            (tables_kept layout old.sram old.sram old.flash.words new_words (λ a from to. refl)
            (makes_entries layout image old.flash.words new_words page t place right code pool free made) tables) performed);
        entered = λ tables. tt;
        ops = (let one = tried_one old.flash new.flash page again words (Some stop) performed in omega arith);
        ring = λ below. (let there = ap ring_of same in omega (arith, there));
        stubs = tt;
      })

-- one page more is used where it was made, or was to be made again
or_true : (again : Bool) → one_if (again || true) ≡ 1
or_true true = refl
or_true false = refl

pub makes_used : (layout : Layout) (old new : Store) (page t : ℕ) (again : Bool) (result : Result Moved Refused) → IsRight layout → IsFaithful layout (image_of layout old.flash.words) old.flash.words
    → IsPool layout page → IsFree old.flash.words page
    → Makes layout old new page t again result → used_pages layout (with_torn new.flash.words (torn_in result)) ≡ used_pages layout old.flash.words + one_if (again || made_in result)
makes_used layout old new page t again result right code pool free (Made words place prepared performed noted_there answer) =
    let image = image_of layout old.flash.words in
    let made = prepared_makes layout image old.flash.words page t place words prepared in
    let more = used_made layout image old.flash.words (set_page old.flash.words page words) page t place right code pool free made in
    rw answer (ap (used_pages layout) (done_words old.flash new.flash page again words performed) ∙ more ∙ ap (λ n. used_pages layout old.flash.words + n) (sym (or_true again)))
makes_used layout old new page t again result right code pool free (NotMade words place prepared stop performed same answer) =
    let image = image_of layout old.flash.words in
    let made = prepared_makes layout image old.flash.words page t place words prepared in
    let more = used_made layout image old.flash.words (set_page old.flash.words page words) page t place right code pool free made in
    let Again : Bool → Type 0 = λ b. used_pages layout (with_torn old.flash.words (lacking (Program b page words))) ≡ used_pages layout old.flash.words + one_if (b || false) in
    let there : Again again = elim again as Again [
      | true ↦ more
      | false ↦ omega arith
    ] in
    rw answer (torn_is (λ w. used_pages layout w ≡ used_pages layout old.flash.words + one_if (again || false)) old.flash new.flash page again words stop there performed)
