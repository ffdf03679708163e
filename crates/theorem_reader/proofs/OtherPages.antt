-- Pages of the pool that an arrival doesn't make: each that is free stays free, and each that holds a run holds it still. So
-- of their words only those of exit stubs change.
use Rattle.std.proofs.Common.{◌≡◌, ◌≢◌, ℕ, zero, suc, ◌+◌, ◌-◌, ◌*◌, ◌/◌, ◌<◌, ◌≤◌, Bool, true, false, List, [], ◌∷◌, length, Option, Some, None, Ok, Err, arith, refl, sym, ap, ◌∙◌, inl, inr, subst}
use Rattle.std.specs.Prelude.{◌==◌, if◌then◌else◌, IfSome, Result}
use Rattle.std.proofs.lemmas.Bool.{cases_eq, cases_lt}
use Rattle.flash_words.specs.Pages.{page_words, word_count, word_at, page_of, set_page}
use Rattle.flash_words.specs.Layouts.{IsRight, image_of}
use Rattle.flash_words.specs.declared.layout.Layout.{Layout}
use Rattle.flash_words.specs.Memory.{Memory}
use Rattle.flash_words.specs.Operations.{erased_page}
use Rattle.nat_template.specs.declared.piece.Piece.{Piece}
use Rattle.nat_template.specs.declared.piece.Piece.TheVariants.{Fixed, Link}
use Rattle.page_index.specs.Maps.{IsPool, IsFree, address_of, entry_count}
use Rattle.page_index.specs.Entries.{IsEntry}
use Rattle.page_index.proofs.ChangeLaws.{SamePage, free_alike}
use Rattle.page_index.proofs.EntryLaws.{page_of_place}
use Rattle.page_draft.specs.Standing.{IsLink, jump_word, Stands, size}
use Rattle.page_draft.specs.CodePages.{page_pieces, page_size, HoldsRun, Anywhere}
use Rattle.page_draft.proofs.PieceLaws.{size-cons}
use Rattle.nat_page.specs.Faithful.{IsFaithful, IsRewritten}
use Rattle.nat_page.specs.Links.{IsLinkIn, with_two_words}
use Rattle.nat_page.specs.Making.{MakesPage}
use Rattle.nat_page.specs.Parts.{IsLinkFrom}
use Rattle.nat_page.specs.Used.{is_used}
use Rattle.nat_page.specs.Unlinking.{leads_into, with_calls, stubs_into, are_some}
use Rattle.nat_page.proofs.StayLaws.{held_used, same_run, holds_alike, holds_more}
use Rattle.nat_page.proofs.KeptLaws.{KeepsRun}
use Rattle.nat_page.proofs.MadeLaws.{makes_other, makes_faithful, makes_first}
use Rattle.nat_page.proofs.FaithfulLaws.{faithful_mapped}
use Rattle.nat_page.proofs.RelinkLaws.{link_placed}
use Rattle.nat_page.proofs.UnlinkLaws.{page_of_two, unlinked_page, unlinks}
use Rattle.nat_page.proofs.WalkLaws.{own_run}
use Rattle.branch_bridge.specs.declared.arrival.Refused.{Refused}
use Rattle.branch_bridge.specs.declared.arrival.Moved.{Moved}
use Rattle.branch_bridge.specs.declared.rewriting.ResolveStop.{ResolveStop}
use Rattle.branch_bridge.specs.Operating.{Performed, perform, rewriting, unless_stopped, mended, with_torn}
use Rattle.branch_bridge.specs.Unresolving.{has_stubs_into, unlinking, unresolved, unresolved_in}
use Rattle.branch_bridge.specs.Arrivals.{Store, ring_of, Makes, Made, NotMade, Recycles, NotUnlinked, NotErased, Erased, Arrives, Beyond, Found, Free, Full, torn_in, turned, CameThrough, to_resolve}
use Rattle.addr_tables.specs.Changes.{forgotten}
use Rattle.branch_bridge.proofs.PerformLaws.{mended_by}
use Rattle.branch_bridge.proofs.ThroughLaws.{is_to_resolve}
use Rattle.branch_bridge.proofs.UnresolveLaws.{used_rewritten}
use Rattle.branch_bridge.proofs.UpToLaws.{UpTo, up_to_none, up_to_next}
use Rattle.branch_bridge.proofs.RecycleLaws.{IsAlone, other_left, victim_free, erased_faithful, erased_image}
use Rattle.branch_bridge.proofs.MakeLaws.{prepared_makes, by_program, done_words}
use Rattle.branch_bridge.proofs.PartLaws.{arrives_parted, stubs_used}
use Rattle.theorem_reader.proofs.StubWords.{one_of_two}
use Rattle.theorem_reader.specs.Pools.{IsExit, KeepsWord, Kept, Exits, KeepsCode}

-- a page, in words before and in other ones
pub record Stays (image before words : List ℕ) (page : ℕ) : Type 0 where
  pub free : IsFree before page → IsFree words page
  pub runs : (b n : ℕ) → HoldsRun Anywhere image before page b n → HoldsRun Anywhere image words page b n

pub stays_itself : (image words : List ℕ) (page : ℕ) → Stays image words words page
stays_itself image words page = record { free = λ free. free; runs = λ b n holds. holds }

-- the page has the same words
same_stays : (layout : Layout) (image before words words' : List ℕ) (page : ℕ) → IsRight layout → IsPool layout page → length words ≡ word_count → length words' ≡ word_count
    → SamePage words words' page → Stays image before words page → Stays image before words' page
same_stays layout image before words words' page right pool whole whole' same is = record {
  free = λ free. free_alike words words' page same (omega (arith, whole, pool.to, right.pool_below_kernel)) (omega (arith, whole', pool.to, right.pool_below_kernel)) (is.free free);
  runs = λ b n holds. holds_alike Anywhere Anywhere image words words' page b n (λ a v leads. leads) same (is.runs b n holds);
}

-- it holds a run in both
run_stays : (leads : ℕ → ℕ → Type 0) (image before words words' : List ℕ) (page first last : ℕ) → length image ≤ 24576 → HoldsRun leads image words page first last
    → HoldsRun Anywhere image words' page first last → Stays image before words page → Stays image before words' page
run_stays leads image before words words' page first last short old new is = record {
  free = λ free. absurd (held_used leads image words page first last short old (is.free free));
  runs = λ b n holds.
      let run = same_run leads Anywhere image words page first last b n old (is.runs b n holds) in
      subst (HoldsRun Anywhere image words' page b) run.1 (subst (λ (t : ℕ). HoldsRun Anywhere image words' page t last) run.0 new);
}

-- a page loses its stubs into the victim
unlinked_stays : (layout : Layout) (image before words : List ℕ) (victim from page : ℕ) → IsRight layout → IsFaithful layout image words → IsPool layout from → IsPool layout page
    → IsRewritten layout image words from → Stays image before words page → Stays image before (with_calls words (stubs_into image words victim from)) page
unlinked_stays layout image before words victim from page right code pool pool' run is =
    let own = own_run (IsEntry layout words) image words from run.first run.last run.holds in
    let first = address_of words from 0 in
    let last = entry_count words from - 1 in
    let words' = with_calls words (stubs_into image words victim from) in
    let low : from < 480 = omega (arith, pool.to, right.pool_below_kernel) in
    let short : length image ≤ 24576 = omega (arith, code.image_length, right.image_fits) in
    let keeps : KeepsRun layout image words words' from first last = unlinks layout image words (leads_into victim) from first last short code.whole low own.holds in
    elim (cases_eq page from) [
      | inl here ↦ rw here (run_stays (IsEntry layout words) image before words words' from first last short keeps.old
          (holds_more (IsEntry layout words) Anywhere image words' from first last (λ a v leads. tt) keeps.new) (rw here at is))
      | inr away ↦ same_stays layout image before words words' page right pool' keeps.whole keeps.whole' (keeps.others page away) is
    ]

one_stays : (layout : Layout) (image before : List ℕ) (now : Memory) (victim from page : ℕ) → IsRight layout → IsFaithful layout image now.words → IsPool layout from → IsPool layout page
    → Stays image before now.words page → (let told = perform now (unlinking image now.words victim from) in Stays image before (mended told.memory.words told.stop) page)
one_stays layout image before now victim from page right code pool pool' is =
    let words = now.words in
    let new = page_of (with_calls words (stubs_into image words victim from)) from in
    let more = rewriting from new in
    let Told : Bool → Type 0 = λ b. has_stubs_into image words victim from ≡ b → (let told = perform now (if b then more else []) in Stays image before (mended told.memory.words told.stop) page) in
    (elim (has_stubs_into image words victim from) as Told [
      | true ↦ λ some. (
          let run = used_rewritten layout image words from code pool (stubs_used (from == victim) (is_used words from) (are_some (stubs_into image words victim from)) some) in
          let own = own_run (IsEntry layout words) image words from run.first run.last run.holds in
          let inside : page_words * from + page_words ≤ length words = omega (arith, code.whole, pool.to, right.pool_below_kernel) in
          let there = unlinked_page (IsEntry layout words) image words (leads_into victim) from (address_of words from 0) (entry_count words from - 1) inside own.holds in
          mended_by (λ w. Stays image before w page) now from new inside is
          (subst (λ w. Stays image before w page) (sym there) (unlinked_stays layout image before words victim from page right code pool pool' run is)))
      | false ↦ λ none. is
    ]) refl

-- all pages, one after another
abbrev pub Told : Layout → (old : Memory) → (victim page k : ℕ) → Performed → Type 0
Told layout old victim page k p = (p.stop ≡ None → UpTo layout old p.memory victim k) × Stays (image_of layout old.words) old.words (mended p.memory.words p.stop) page

-- What is so before the stubs of pages into the victim, one page after another, call the bridge, and is so behind each of them, is so behind all, up to one that is refused.
pub unresolved_by : (So : ℕ → Performed → Type 0) (image : List ℕ) (victim first n : ℕ) (old : Memory) → So 0 (record { memory = old; stop = None })
    → ((k : ℕ) → k < n → (now : Memory) → So k (record { memory = now; stop = None }) → So (suc k) (perform now (unlinking image now.words victim (first + k))))
    → ((k : ℕ) (now : Memory) (stop : ResolveStop) → So k (record { memory = now; stop = Some stop }) → So (suc k) (record { memory = now; stop = Some stop }))
    → So n (unresolved image victim first n old)
unresolved_by So image victim first zero old begins next refused = begins
unresolved_by So image victim first (suc n) old begins next refused =
    let p = unresolved image victim first n old in
    let On : Option ResolveStop → Type 0 = λ o. So n (record { memory = p.memory; stop = o }) → So (suc n) (unless_stopped o p.memory (λ m. perform m (unlinking image m.words victim (first + n)))) in
    (elim p.stop as On [ None ↦ next n (omega arith) p.memory | Some stop ↦ refused n p.memory stop ])
    (unresolved_by So image victim first n old begins (λ k less. next k (omega (arith, less))) refused)

pub told_none : (layout : Layout) (old : Memory) (victim page : ℕ) → IsFaithful layout (image_of layout old.words) old.words → Told layout old victim page 0 (record { memory = old; stop = None })
told_none layout old victim page code = (λ none. up_to_none layout old victim code, stays_itself (image_of layout old.words) old.words page)

pub told_next : (layout : Layout) (old now : Memory) (victim page k : ℕ) → IsRight layout → IsPool layout page → k < layout.pool_pages
    → Told layout old victim page k (record { memory = now; stop = None })
    → Told layout old victim page (suc k) (perform now (unlinking (image_of layout old.words) now.words victim (layout.pool_first + k)))
told_next layout old now victim page k right pool' below told =
    let image = image_of layout old.words in
    let from = layout.pool_first + k in
    let up = told.0 refl in
    let q = perform now (unlinking image now.words victim from) in (
      λ done. up_to_next layout old now q.memory victim k right up below
          (ap (λ i. perform now (unlinking i now.words victim from)) up.same_image ∙ ap (λ stop. record { memory = q.memory; stop = stop }) done),
      one_stays layout image old.words now victim from page right up.code (record { from = omega arith; to = omega (arith, below) }) pool' told.1,
    )

pub told_refused : (layout : Layout) (old now : Memory) (victim page k : ℕ) (stop : ResolveStop) → Told layout old victim page k (record { memory = now; stop = Some stop })
    → Told layout old victim page (suc k) (record { memory = now; stop = Some stop })
told_refused layout old now victim page k stop told = (λ none. absurd (let never : Some stop ≡ None = none in cc), told.1)

told_all : (layout : Layout) (old : Memory) (victim page : ℕ) → IsRight layout → IsFaithful layout (image_of layout old.words) old.words → IsPool layout page
    → Told layout old victim page layout.pool_pages (unresolved (image_of layout old.words) victim layout.pool_first layout.pool_pages old)
told_all layout old victim page right code pool =
    unresolved_by (Told layout old victim page) (image_of layout old.words) victim layout.pool_first layout.pool_pages old (told_none layout old victim page code)
    (λ k less now told. told_next layout old now victim page k right pool less told) (λ k now stop told. told_refused layout old now victim page k stop told)

pub unlinking_stays : (layout : Layout) (old new : Memory) (victim page : ℕ) (stop : Option ResolveStop) → IsRight layout → IsFaithful layout (image_of layout old.words) old.words → IsPool layout page
    → unresolved_in layout victim old ≡ record { memory = new; stop = stop } → Stays (image_of layout old.words) old.words (mended new.words stop) page
unlinking_stays layout old new victim page stop right code pool performed =
    rw performed at (told_all layout old victim page right code pool).1

-- .. where none was refused
pub unlinked_all : (layout : Layout) (old unlinked : Memory) (victim : ℕ) → IsRight layout → IsFaithful layout (image_of layout old.words) old.words → IsPool layout victim
    → unresolved_in layout victim old ≡ record { memory = unlinked; stop = None } → UpTo layout old unlinked victim layout.pool_pages
unlinked_all layout old unlinked victim right code pool performed =
    let Up : Performed → Type 0 = λ p. p.stop ≡ None → UpTo layout old p.memory victim layout.pool_pages in
    (subst Up performed (told_all layout old victim victim right code pool).0) refl

abbrev pub place_in : Result Moved Refused → Option ℕ
place_in (Ok moved) = Some moved.place
place_in (Err refused) = None

-- what a page that is made leaves, where another one stays up to there
pub record MakesStay (layout : Layout) (image before : List ℕ) (words : List ℕ) (page : ℕ) (place : Option ℕ) : Type 0 where
  pub here : IfSome place (λ v. page ≡ v / page_words)
  pub whole : IfSome place (λ v. length words ≡ word_count)
  pub others : (other : ℕ) → IsPool layout other → other ≢ page → Stays image before words other

-- An arrival may be made over this flash, and with this RING.
abbrev pub IsReady : Layout → Store → Type 0
IsReady layout old = IsRight layout × IsFaithful layout (image_of layout old.flash.words) old.flash.words × (ring_of old.sram < layout.pool_pages)

-- What an arrival at an address leaves of flash: all pages but one, which is the one where control goes on; where nothing was
-- refused flash is as long as before.
pub record OthersStay (layout : Layout) (old : Memory) (words : List ℕ) (place : Option ℕ) : Type 0 where
  pub again : ℕ
  pub stay : MakesStay layout (image_of layout old.words) old.words words again place

same_words : (layout : Layout) (old new : Store) (page : ℕ) → new.flash.words ≡ old.flash.words → Stays (image_of layout old.flash.words) old.flash.words new.flash.words page
same_words layout old new page same =
    subst (λ w. Stays (image_of layout old.flash.words) old.flash.words w page) (sym same) (stays_itself (image_of layout old.flash.words) old.flash.words page)

pub made_stays : (layout : Layout) (old new : Store) (image before : List ℕ) (page t : ℕ) (again : Bool) (result : Result Moved Refused) → IsRight layout → image_of layout old.flash.words ≡ image
    → IsFaithful layout image old.flash.words → IsPool layout page → IsFree old.flash.words page → Makes layout old new page t again result
    → ((other : ℕ) → IsPool layout other → other ≢ page → Stays image before old.flash.words other) → MakesStay layout image before (with_torn new.flash.words (torn_in result)) page (place_in result)
made_stays layout old new image before page t again result right held code pool free (Made words place prepared performed noted_there answer) stay =
    let own = subst (λ i. IsFaithful layout i old.flash.words) (sym held) code in
    let makes : MakesPage layout (image_of layout old.flash.words) old.flash.words new.flash.words page t place =
    rw (done_words old.flash new.flash page again words performed) (prepared_makes layout (image_of layout old.flash.words) old.flash.words page t place words prepared) in
    let faithful = makes_faithful layout (image_of layout old.flash.words) old.flash.words new.flash.words page t place right own pool free makes in
    let entry : IsEntry layout new.flash.words t place =
    record { page = page; index = 0; pool = pool; lists = makes_first layout (image_of layout old.flash.words) old.flash.words new.flash.words page t place right own pool makes } in
    rw answer (record {
      here = page_of_place layout new.flash.words t place (faithful_mapped layout (image_of layout old.flash.words) new.flash.words right faithful) entry;
      whole = faithful.whole;
      others = λ other pool' away. same_stays layout image before old.flash.words new.flash.words other right pool' code.whole faithful.whole
          (makes_other layout (image_of layout old.flash.words) old.flash.words new.flash.words page t place other right own pool makes away) (stay other pool' away);
    })
made_stays layout old new image before page t again result right held code pool free (NotMade words place prepared stop performed same answer) stay =
    let own = subst (λ i. IsFaithful layout i old.flash.words) (sym held) code in
    let new_words = set_page old.flash.words page words in
    let makes = prepared_makes layout (image_of layout old.flash.words) old.flash.words page t place words prepared in
    let faithful = makes_faithful layout (image_of layout old.flash.words) old.flash.words new_words page t place right own pool free makes in
    rw answer (record {
      here = tt;
      whole = tt;
      others = λ other pool' away. by_program (λ w. Stays image before w other) old.flash new.flash page again words stop (stay other pool' away)
          (same_stays layout image before old.flash.words new_words other right pool' code.whole faithful.whole
          (makes_other layout (image_of layout old.flash.words) old.flash.words new_words page t place other right own pool makes away) (stay other pool' away)) performed;
    })

-- the page itself
pub made_here : (layout : Layout) (old new : Store) (own t : ℕ) (again : Bool) (moved : Moved) → IsRight layout → IsFaithful layout (image_of layout old.flash.words) old.flash.words
    → IsPool layout own → IsFree old.flash.words own → Makes layout old new own t again (Ok moved) → own ≡ moved.place / page_words
made_here layout old new own t again moved right code pool free makes =
    (made_stays layout old new (image_of layout old.flash.words) old.flash.words own t again (Ok moved) right refl code pool free makes
    (λ other pool' away. stays_itself (image_of layout old.flash.words) old.flash.words other)).here

-- The victim was erased, once no stub led into it.
pub record IsCleared (layout : Layout) (old unlinked : Memory) (victim : ℕ) : Type 0 where
  pub up : UpTo layout old unlinked victim layout.pool_pages
  pub code : IsFaithful layout (image_of layout old.words) (erased_page unlinked victim).words
  pub same_image : image_of layout (erased_page unlinked victim).words ≡ image_of layout old.words
  pub free : IsFree (erased_page unlinked victim).words victim

pub is_cleared : (layout : Layout) (old unlinked : Memory) (victim : ℕ) → IsRight layout → IsFaithful layout (image_of layout old.words) old.words → IsPool layout victim
    → unresolved_in layout victim old ≡ record { memory = unlinked; stop = None } → IsCleared layout old unlinked victim
is_cleared layout old unlinked victim right code pool performed =
    let image = image_of layout old.words in
    let up = unlinked_all layout old unlinked victim right code pool performed in
    let alone : IsAlone layout image unlinked.words victim = record { pool = pool; apart = λ page pool' away. up.apart page pool' (omega (arith, pool'.to)) away } in
    record {
      up = up;
      code = erased_faithful layout image unlinked.words victim right up.code alone;
      same_image = erased_image layout image unlinked.words victim right up.code pool ∙ up.same_image;
      free = victim_free layout image unlinked.words victim right up.code pool;
    }

abbrev pub forgets : Layout → Store → (unlinked : Memory) → (victim : ℕ) → Store
forgets layout old unlinked victim = record { flash = erased_page unlinked victim; sram = turned layout (forgotten old.sram victim) }

pub recycled_stays : (layout : Layout) (old new : Store) (victim t : ℕ) (result : Result Moved Refused) → IsRight layout → IsFaithful layout (image_of layout old.flash.words) old.flash.words
    → IsPool layout victim
    → Recycles layout old new victim t result → MakesStay layout (image_of layout old.flash.words) old.flash.words (with_torn new.flash.words (torn_in result)) victim (place_in result)
recycled_stays layout old new victim t result right code pool (NotUnlinked stop performed same answer) =
    rw answer (record { here = tt; whole = tt; others = λ other pool' away. unlinking_stays layout old.flash new.flash victim other (Some stop) right code pool' performed })
recycled_stays layout old new victim t result right code pool (NotErased unlinked performed listed left same answer) =
    rw answer (record {
      here = tt;
      whole = tt;
      others = λ other pool' away. rw (ap (λ (m : Memory). m.words) left) (unlinking_stays layout old.flash unlinked victim other None right code pool' performed);
    })
recycled_stays layout old new victim t result right code pool (Erased unlinked performed free makes) =
    let image = image_of layout old.flash.words in
    let clear = is_cleared layout old.flash unlinked victim right code pool performed in
    made_stays layout (forgets layout old unlinked victim) new image old.flash.words victim t true result right clear.same_image clear.code pool clear.free makes (λ other pool' away.
    same_stays layout image old.flash.words unlinked.words (erased_page unlinked victim).words other right pool' clear.up.code.whole clear.code.whole
    (other_left layout image unlinked.words victim other right clear.up.code pool away) (unlinking_stays layout old.flash unlinked victim other None right code pool' performed))

pub arrives_others : (layout : Layout) (old new : Store) (t : ℕ) (result : Result Moved Refused) → IsReady layout old
    → Arrives layout old new t result → OthersStay layout old.flash (with_torn new.flash.words (torn_in result)) (place_in result)
arrives_others layout old new t result (right, code, ring) (Beyond out same answer) =
    rw answer (record { again = 0; stay = record { here = tt; whole = tt; others = λ page pool away. same_words layout old new page (ap (λ (s : Store). s.flash.words) same) } })
arrives_others layout old new t result (right, code, ring) (Found place inside finds same answer) =
    let words = ap (λ (m : Memory). m.words) same in
    rw answer (record { again = place / page_words; stay = record { here = refl; whole = ap length words ∙ code.whole; others = λ page pool away. same_words layout old new page words } })
arrives_others layout old new t result (right, code, ring) (Free page inside finds lowest makes) =
    record {
      again = page;
      stay = made_stays layout old new (image_of layout old.flash.words) old.flash.words page t false result right refl code lowest.pool lowest.free makes
          (λ other pool away. stays_itself (image_of layout old.flash.words) old.flash.words other);
    }
arrives_others layout old new t result (right, code, ring) (Full inside finds none recycles) =
    let victim = layout.pool_first + ring_of old.sram in
    record { again = victim; stay = recycled_stays layout old new victim t result right code (record { from = omega arith; to = omega arith }) recycles }

-- the page with the jump in it
pub page_resolved : (layout : Layout) (image words : List ℕ) (s t place : ℕ) → IsRight layout → length words ≡ word_count → IsLinkIn layout image words s t
    → set_page words (s / page_words) (page_of (with_two_words words s jump_word place) (s / page_words)) ≡ with_two_words words s jump_word place
page_resolved layout image words s t place right whole link =
    let placed = link_placed layout image words s t jump_word place right whole link in
    ap (set_page words (s / page_words)) (page_of_two words (s / page_words) s jump_word place (omega (arith, whole, placed.low)) refl placed.room) ∙ placed.is

-- one that is to be resolved is still where it was
pub still_linked : (layout : Layout) (old mid : Store) (t s : ℕ) (stub : Option ℕ) (moved : Moved) → IsReady layout old
    → CameThrough layout old.flash.words stub t → Arrives layout old mid t (Ok moved) → to_resolve moved.recycled stub ≡ Some s → IsLinkIn layout (image_of layout old.flash.words) mid.flash.words s t
still_linked layout old mid t s stub moved (right, code, ring) came arrives some =
    let to = is_to_resolve moved.recycled stub s some in
    let link : IsLinkIn layout (image_of layout old.flash.words) old.flash.words s t = (subst (λ x. CameThrough layout old.flash.words x t) to.same came).link in
    let from : IsLinkFrom layout (image_of layout old.flash.words) old.flash.words (λ a. 0) 0 s t = record { link = link; own = refl } in
    ((arrives_parted layout old mid (λ a. 0) t (Ok moved) right code ring arrives (λ b a l jump. refl)).1 0 s t to.apart from).link

-- Word by word. -------------------------------------------------------------------------------------

exit_of : (words : List ℕ) (a t : ℕ) → IsLink Anywhere (word_at words a) (word_at words (a + 1)) t → IsExit words a
exit_of words a t (inl call) = inl call
exit_of words a t (inr jump) = inr jump.0

pieces_keep : (words words' : List ℕ) (a : ℕ) (pieces : List Piece) → Stands Anywhere words a pieces → Stands Anywhere words' a pieces → (b : ℕ) → a ≤ b → b < a + size pieces
    → KeepsWord words words' b
pieces_keep words words' a [] old new b from to = absurd (omega (arith, from, to))
pieces_keep words words' a (Fixed word ∷ pieces) old new b from to = elim (cases_eq b a) [
  | inl same ↦ subst (KeepsWord words words') (sym same) (Kept (new.0 ∙ sym old.0))
  | inr apart ↦ pieces_keep words words' (a + 1) pieces old.1 new.1 b (omega (arith, from)) (omega (arith, to, size-cons (Fixed word) pieces))
]
pieces_keep words words' a (Link t ∷ pieces) old new b from to =
    let exit = exit_of words a t old.0.0 in
    let exit' = exit_of words' a t new.0.0 in
    elim (one_of_two b a) [
      | inl which ↦ Exits a which exit exit'
      | inr apart ↦ elim (cases_eq b (a + 2)) [
        | inl same ↦ subst (KeepsWord words words') (sym same) (Kept (new.0.1 ∙ sym old.0.1))
        | inr apart' ↦ pieces_keep words words' (a + 3) pieces old.1 new.1 b (omega (arith, from, apart.0, apart.1, apart')) (omega (arith, to, size-cons (Link t) pieces))
      ]
    ]

pub run_keeps : (image words words' : List ℕ) (page first last : ℕ) → HoldsRun Anywhere image words page first last → HoldsRun Anywhere image words' page first last → KeepsCode words words' page
run_keeps image words words' page first last old new k below = elim (cases_lt k (page_size image first last)) [
  | inl front ↦ pieces_keep words words' (page_words * page) (page_pieces image first last) old.stands new.stands (128 * page + k) (omega arith) (omega (arith, front))
  | inr behind ↦ Kept (new.rest k behind below ∙ sym (old.rest k behind below))
]
