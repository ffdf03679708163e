-- What an arrival leaves of a page, and how often it erases that, also where an operation is refused.
use Rattle.std.proofs.Common.{◌≡◌, ◌≢◌, ℕ, ◌+◌, ◌*◌, ◌/◌, ◌%◌, ◌<◌, ◌≤◌, ◌⊎◌, Bool, true, false, List, [], ◌∷◌, length, Option, Some, None, Ok, Err, refl, sym, ap, ◌∙◌, subst, arith}
use Rattle.std.proofs.Common.{inl, inr}
use Rattle.std.specs.Prelude.{IfSome, Result, slice_index}
use Rattle.std.proofs.lemmas.Bool.{cases_eq}
use Rattle.std.proofs.lemmas.List.{get_or-set_other}
use Rattle.flash_words.specs.Pages.{page_of, page_words, raised, word_at, blank}
use Rattle.flash_words.specs.Memory.{Memory}
use Rattle.flash_words.specs.Layouts.{IsRight, image_of}
use Rattle.flash_words.specs.declared.layout.Layout.{Layout}
use Rattle.flash_words.proofs.PageLaws.{page_same, length-page_of}
use Rattle.flash_words.proofs.ProgramLaws.{length-blank}
use Rattle.page_index.specs.Maps.{IsPool, IsFree}
use Rattle.page_index.specs.Entries.{IsEntry}
use Rattle.page_index.proofs.ChangeLaws.{lists_alike}
use Rattle.nat_template.specs.Stubs.{call_word, bridge_entry}
use Rattle.page_draft.specs.Standing.{jump_word}
use Rattle.nat_page.specs.Faithful.{IsFaithful}
use Rattle.nat_page.specs.Links.{IsUnresolved, IsLinkIn, with_two_words}
use Rattle.nat_page.specs.Making.{HasNoFree, MakesPage}
use Rattle.nat_page.specs.Used.{is_used}
use Rattle.nat_page.proofs.MadeLaws.{makes_first, makes_other}
use Rattle.nat_page.proofs.PartLaws.{link_stands}
use Rattle.nat_page.proofs.RelinkLaws.{link_placed}
use Rattle.nat_page.proofs.TwoWords.{first_of_two, length-with_two_words}
use Rattle.branch_bridge.specs.declared.arrival.Moved.{Moved}
use Rattle.branch_bridge.specs.declared.arrival.Refused.{Refused}
use Rattle.branch_bridge.specs.declared.through.Arrival.{Arrival}
use Rattle.branch_bridge.specs.declared.rewriting.ResolveStop.{ResolveStop}
use Rattle.branch_bridge.specs.declared.rewriting.Torn.{Torn}
use Rattle.branch_bridge.specs.Operating.{Program, Performed, perform, lacking}
use Rattle.branch_bridge.specs.Tried.{torn_at}
use Rattle.branch_bridge.specs.Unresolving.{unresolved_in}
use Rattle.branch_bridge.specs.Arrivals.{Store, CameThrough, ring_of, refused_by, torn_by, torn_in, made_in, Makes, Made, NotMade, Recycles, NotUnlinked, NotErased, Erased, Arrives, Beyond}
use Rattle.branch_bridge.specs.Arrivals.{Found, Free, Full, ArrivesFrom, Stopped, Went, Resolved}
use Rattle.branch_bridge.proofs.RecycleLaws.{other_left, full_used}
use Rattle.branch_bridge.proofs.ThroughLaws.{is_to_resolve}
use Rattle.program_steps.proofs.Arriving.{is_made}
use Rattle.theorem_reader.specs.Wear.{IsSamePage}
use Rattle.theorem_reader.proofs.NextPage.{missed}
use Rattle.theorem_reader.proofs.OtherPages.{arrives_others, is_cleared, forgets, still_linked, page_resolved, place_in, made_here, IsReady}
use Rattle.theorem_reader.proofs.PagesUnlinked.{IsUntouched, untouched_self, other_untouched, Unlinks, Stayed, Unlinked, unlinks_on, calls_of, once_of, IsTornPage, used_differs, IsAhead, ahead_all}
use Rattle.theorem_reader.proofs.Rewriting.{one_performed, Rewrites, Unerased, Unprogrammed, Whole, rewrites_by, erased_more}
use Rattle.theorem_reader.proofs.RefusedPages.{stub_apart, torn_told}
use Rattle.theorem_reader.proofs.StubWords.{KeepsCalls, Same, Called, KeepsJumps, jumps_resolved}
use Rattle.theorem_reader.proofs.Wearing.{programmed_is}
use Rattle.theorem_reader.proofs.Working.{link_page}

-- The page that is recycled for an address: the one that RING names, where the pool has no free page, and no entry of the address.
pub record IsVictim (layout : Layout) (old : Store) (t page : ℕ) : Type 0 where
  pub none : HasNoFree layout old.flash.words
  pub unknown : (place : ℕ) → ¬ IsEntry layout old.flash.words t place
  pub is : page ≡ layout.pool_first + ring_of old.sram

-- What becomes of a page where a place is found or made. It stays, or its stubs into the victim call the bridge; or it is torn; or it is
-- the one that was made, which was erased twice at most, and never where its words are the same.
data Fares (layout : Layout) (old : Store) (t : ℕ) (new : Memory) (result : Result Moved Refused) (page : ℕ) : Type 0 where
  Unmade : Unlinks (IsVictim layout old t) old.flash new page → Fares layout old t new result page
  Lost : IsTornPage old.flash new (torn_in result) page → Fares layout old t new result page
  Remade : made_in result ≡ true → IfSome (place_in result) (λ place. page ≡ place / page_words) → slice_index new.erases page ≤ slice_index old.flash.erases page + 2
      → (IsSamePage old.flash.words new.words page → slice_index new.erases page ≡ slice_index old.flash.erases page) → Fares layout old t new result page

-- A page that is made. ------------------------------------------------------------------------------------

-- a program that is refused changes nothing, and tells what its page lacks
record IsMissed (old new : Memory) (torn : Option Torn) (page : ℕ) (again : Bool) : Type 0 where
  words : List ℕ
  same : new.words ≡ old.words
  erases : new.erases ≡ old.erases
  lacks : torn ≡ lacking (Program again page words)

missed_program : (old new : Memory) (page : ℕ) (again : Bool) (words : List ℕ) (stop : ResolveStop) → perform old (Program again page words ∷ []) ≡ record { memory = new; stop = Some stop }
    → IsMissed old new stop.torn page again
missed_program old new page again words stop performed =
    one_performed (λ r. r ≡ record { memory = new; stop = Some stop } → IsMissed old new stop.torn page again) old (Program again page words) [] (λ is. record {
      words = words;
      same = sym (ap (λ (r : Performed). r.memory.words) is);
      erases = sym (ap (λ (r : Performed). r.memory.erases) is);
      lacks = sym (ap (λ (r : Performed). torn_at r.stop) is);
    }) (λ is. absurd (let told : None ≡ Some stop = ap (λ (r : Performed). r.stop) is in cc)) performed

missed_page : (layout : Layout) (old new : Store) (page t : ℕ) (again : Bool) (refused : Refused) → Makes layout old new page t again (Err refused)
    → IsMissed old.flash new.flash refused.torn page again
missed_page layout old new page t again refused (Made words place prepared performed noted_there answer) = absurd (cc)
missed_page layout old new page t again refused (NotMade words place prepared stop performed same answer) =
    let e : refused ≡ refused_by stop = cc in
    subst (λ torn. IsMissed old.flash new.flash torn page again) (sym (ap (λ (r : Refused). r.torn) e)) (missed_program old.flash new.flash page again words stop performed)

-- every other page
others_untouched : (layout : Layout) (old new : Store) (page own t : ℕ) (again : Bool) (result : Result Moved Refused) → IsRight layout
    → IsFaithful layout (image_of layout old.flash.words) old.flash.words → IsPool layout own → page ≢ own → Makes layout old new own t again result → IsUntouched old.flash new.flash page
others_untouched layout old new page own t again result right code pool apart (Made words place prepared performed noted_there answer) =
    let is = programmed_is old.flash new.flash again own words performed in
    let makes : MakesPage layout (image_of layout old.flash.words) old.flash.words new.flash.words own t place =
    record { words = words; prepared = prepared; changed = ap (λ (m : Memory). m.words) is } in
    let other = makes_other layout (image_of layout old.flash.words) old.flash.words new.flash.words own t place page right code pool makes apart in
    (λ k below. sym (other.word k below), ap (λ (m : Memory). slice_index m.erases page) is)
others_untouched layout old new page own t again result right code pool apart (NotMade words place prepared stop performed same answer) =
    let one = missed_program old.flash new.flash own again words stop performed in
    untouched_self old.flash new.flash page one.same one.erases

-- the page itself has an entry then, which it hadn't before
made_differs : (layout : Layout) (first : List ℕ) (old new : Store) (own t : ℕ) (again : Bool) (moved : Moved) → IsRight layout → IsFaithful layout (image_of layout old.flash.words) old.flash.words
    → IsPool layout own
    → ((place : ℕ) → ¬ IsEntry layout first t place) → Makes layout old new own t again (Ok moved) → (IsSamePage first new.flash.words own → ⊥) × (new.flash.erases ≡ old.flash.erases)
made_differs layout first old new own t again moved right code pool unknown (NotMade words place prepared stop performed same answer) = absurd (cc)
made_differs layout first old new own t again moved right code pool unknown (Made words place prepared performed noted_there answer) =
    let is = programmed_is old.flash new.flash again own words performed in
    let makes : MakesPage layout (image_of layout old.flash.words) old.flash.words new.flash.words own t place =
    record { words = words; prepared = prepared; changed = ap (λ (m : Memory). m.words) is } in
    let lists = makes_first layout (image_of layout old.flash.words) old.flash.words new.flash.words own t place right code pool makes in (
      λ same. unknown place (record { page = own; index = 0; pool = pool; lists = lists_alike new.flash.words first own 0 t place (record { word = same }) lists }),
      ap (λ (m : Memory). m.erases) is,
    )

free_fares : (layout : Layout) (old new : Store) (page own t : ℕ) (result : Result Moved Refused) → IsRight layout → IsFaithful layout (image_of layout old.flash.words) old.flash.words
    → IsPool layout own → IsFree old.flash.words own → ((place : ℕ) → ¬ IsEntry layout old.flash.words t place) → Makes layout old new own t false result → Fares layout old t new.flash result page
free_fares layout old new page own t (Ok moved) right code pool free unknown makes = elim (cases_eq page own) [
  | inr apart ↦ Unmade (Stayed (others_untouched layout old new page own t false (Ok moved) right code pool apart makes))
  | inl here ↦
      let made = made_differs layout old.flash.words old new own t false moved right code pool unknown makes in
      let still = ap (λ es. slice_index es page) made.1 in
      Remade (is_made makes) (here ∙ made_here layout old new own t false moved right code pool free makes) (omega (arith, still)) (λ same. still)
]
free_fares layout old new page own t (Err refused) right code pool free unknown makes =
    let one = missed_page layout old new own t false refused makes in
    Unmade (Stayed (untouched_self old.flash new.flash page one.same one.erases))

-- A page that is recycled. --------------------------------------------------------------------------------

-- behind the unlinking of others
unlinking_fares : (layout : Layout) (IsGone : ℕ → Type 0) (old new : Memory) (victim page : ℕ) (stop : Option ResolveStop) → IsRight layout → IsFaithful layout (image_of layout old.words) old.words
    → IsPool layout victim → IsGone victim → unresolved_in layout victim old ≡ record { memory = new; stop = stop } → Unlinks IsGone old new page ⊎ IsTornPage old new (torn_at stop) page
unlinking_fares layout IsGone old new victim page stop right code pool gone performed =
    (subst (IsAhead layout IsGone old page layout.pool_pages) performed (ahead_all layout IsGone old victim page right code pool gone)).1

untorn : {A : Type 0} → (old new : Memory) (page : ℕ) → IsTornPage old new None page → A
untorn old new page torn = absurd (let e : None ≡ Some _ = torn.lacks in cc)

unlinked_fares : (layout : Layout) (IsGone : ℕ → Type 0) (old new : Memory) (victim page : ℕ) → IsRight layout → IsFaithful layout (image_of layout old.words) old.words → IsPool layout victim
    → IsGone victim → unresolved_in layout victim old ≡ record { memory = new; stop = None } → Unlinks IsGone old new page
unlinked_fares layout IsGone old new victim page right code pool gone performed = elim (unlinking_fares layout IsGone old new victim page None right code pool gone performed) [
  | inl unlinks ↦ unlinks
  | inr torn ↦ untorn old new page torn
]

-- the victim itself, which was erased
victim_fares : (layout : Layout) (old mid new : Store) (victim t : ℕ) (result : Result Moved Refused) → IsRight layout → IsFaithful layout (image_of layout mid.flash.words) mid.flash.words
    → IsPool layout victim → IsFree mid.flash.words victim → is_used old.flash.words victim ≡ true → ((place : ℕ) → ¬ IsEntry layout old.flash.words t place)
    → slice_index mid.flash.erases victim ≤ slice_index old.flash.erases victim + 2 → Makes layout mid new victim t true result → Fares layout old t new.flash result victim
victim_fares layout old mid new victim t (Ok moved) right code pool free used unknown twice makes =
    let made = made_differs layout old.flash.words mid new victim t true moved right code pool unknown makes in
    Remade (is_made makes) (made_here layout mid new victim t true moved right code pool free makes)
    (omega (arith, ap (λ es. slice_index es victim) made.1, twice)) (λ same. absurd (made.0 same))
victim_fares layout old mid new victim t (Err refused) right code pool free used unknown twice makes =
    let one = missed_page layout mid new victim t true refused makes in
    let blank : IsFree new.flash.words victim = subst (λ w. IsFree w victim) (sym one.same) free in
    Lost (record {
      twice = omega (arith, ap (λ es. slice_index es victim) one.erases, twice);
      differs = used_differs old.flash.words new.flash.words victim used blank;
      words = one.words;
      lacks = one.lacks;
      free = blank;
    })

recycled_fares : (layout : Layout) (old new : Store) (page victim t : ℕ) (result : Result Moved Refused) → IsRight layout → IsFaithful layout (image_of layout old.flash.words) old.flash.words
    → IsPool layout victim → IsVictim layout old t victim → Recycles layout old new victim t result → Fares layout old t new.flash result page
recycled_fares layout old new page victim t (Ok moved) right code pool gone (NotUnlinked stop performed same answer) = absurd (cc)
recycled_fares layout old new page victim t (Err refused) right code pool gone (NotUnlinked stop performed same answer) =
    let e : refused ≡ refused_by stop = cc in
    elim (unlinking_fares layout (IsVictim layout old t) old.flash new.flash victim page (Some stop) right code pool gone performed) [
      | inl unlinks ↦ Unmade unlinks
      | inr torn ↦ Lost (subst (λ o. IsTornPage old.flash new.flash o page) (sym (ap (λ (r : Refused). r.torn) e)) torn)
    ]
recycled_fares layout old new page victim t result right code pool gone (NotErased unlinked performed listed left same answer) =
    Unmade (unlinks_on (IsVictim layout old t) old.flash unlinked new.flash page (unlinked_fares layout (IsVictim layout old t) old.flash unlinked victim page right code pool gone performed)
    (untouched_self unlinked new.flash page (ap (λ (m : Memory). m.words) left) (ap (λ (m : Memory). m.erases) left)))
recycled_fares layout old new page victim t result right code pool gone (Erased unlinked performed unlisted makes) =
    let image = image_of layout old.flash.words in
    let clear = is_cleared layout old.flash unlinked victim right code pool performed in
    let mid = forgets layout old unlinked victim in
    let e = mid.flash in
    let own : IsFaithful layout (image_of layout e.words) e.words = subst (λ i. IsFaithful layout i e.words) (sym clear.same_image) clear.code in
    elim (cases_eq page victim) [
      | inr apart ↦
          let before = unlinked_fares layout (IsVictim layout old t) old.flash unlinked victim page right code pool gone performed in
          let left = other_left layout image unlinked.words victim page right clear.up.code pool apart in
          let still : IsUntouched unlinked e page = (λ k below. sym (left.word k below), get_or-set_other unlinked.erases victim page (raised (slice_index unlinked.erases victim)) 0 apart) in
          Unmade (unlinks_on (IsVictim layout old t) old.flash e new.flash page (unlinks_on (IsVictim layout old t) old.flash unlinked e page before still)
          (others_untouched layout mid new page victim t true result right own pool apart makes))
      | inl here ↦
          let before = once_of (IsVictim layout old t) old.flash unlinked victim (unlinked_fares layout (IsVictim layout old t) old.flash unlinked victim victim right code pool gone performed) in
          subst (Fares layout old t new.flash result) (sym here) (victim_fares layout old mid new victim t result right own pool clear.free
          (full_used layout image old.flash.words victim right code gone.none pool) gone.unknown (omega (arith, before, erased_more unlinked e victim refl)) makes)
    ]

-- An arrival. ---------------------------------------------------------------------------------------------

fares_by : (layout : Layout) (old new : Store) (page t : ℕ) (result : Result Moved Refused) → IsReady layout old → Arrives layout old new t result → Fares layout old t new.flash result page
fares_by layout old new page t result (right, code, ring) (Beyond out same answer) =
    Unmade (Stayed (untouched_self old.flash new.flash page (ap (λ (s : Store). s.flash.words) same) (ap (λ (s : Store). s.flash.erases) same)))
fares_by layout old new page t result (right, code, ring) (Found place inside finds same answer) =
    Unmade (Stayed (untouched_self old.flash new.flash page (ap (λ (m : Memory). m.words) same) (ap (λ (m : Memory). m.erases) same)))
fares_by layout old new page t result (right, code, ring) (Free own inside finds lowest makes) =
    free_fares layout old new page own t result right code lowest.pool lowest.free (missed layout old.flash.words old.sram old.sram t finds) makes
fares_by layout old new page t result (right, code, ring) (Full inside finds none recycles) =
    recycled_fares layout old new page (layout.pool_first + ring_of old.sram) t result right code (record { from = omega arith; to = omega arith })
    (record { none = none; unknown = missed layout old.flash.words old.sram old.sram t finds; is = refl }) recycles

-- how often a page was erased
pub record WasErased (old new : Memory) (page : ℕ) : Type 0 where
  pub twice : slice_index new.erases page ≤ slice_index old.erases page + 2
  pub never : IsSamePage old.words new.words page → slice_index new.erases page ≡ slice_index old.erases page

-- Of its words only some of stubs into the victim have changed, or beside them those of the one that is resolved; or it is torn; or it is
-- the one that was made.
pub data Leaves (layout : Layout) (old : Store) (t : ℕ) (new : Memory) (arrival : Arrival) (page : ℕ) : Type 0 where
  Calls : WasErased old.flash new page → KeepsCalls (IsVictim layout old t) old.flash.words new.words page → Leaves layout old t new arrival page
  Jumps : WasErased old.flash new page → (place : ℕ) → arrival.place ≡ Some place → KeepsJumps (IsVictim layout old t) place old.flash.words new.words page → Leaves layout old t new arrival page
  Lost : IsTornPage old.flash new (torn_by arrival.refused) page → Leaves layout old t new arrival page
  Remade : WasErased old.flash new page → arrival.made ≡ true → IfSome arrival.place (λ place. page ≡ place / page_words) → Leaves layout old t new arrival page

unlinks_erased : (IsGone : ℕ → Type 0) (old new : Memory) (page : ℕ) → Unlinks IsGone old new page → WasErased old new page
unlinks_erased IsGone old new page (Stayed still) = record { twice = omega (arith, still.1); never = λ same. still.1 }
unlinks_erased IsGone old new page (Unlinked once differs calls) = record { twice = omega (arith, once); never = λ same. absurd (differs same) }

-- where no stub is resolved in the page
unresolved_leaves : (layout : Layout) (old : Store) (t : ℕ) (mid new : Memory) (moved : Moved) (arrival : Arrival) (page : ℕ) → arrival.place ≡ Some moved.place → arrival.made ≡ moved.made
    → IsUntouched mid new page → Fares layout old t mid (Ok moved) page → Leaves layout old t new arrival page
unresolved_leaves layout old t mid new moved arrival page there made still (Fares.Unmade unlinks) =
    let behind = unlinks_on (IsVictim layout old t) old.flash mid new page unlinks still in
    Calls (unlinks_erased (IsVictim layout old t) old.flash new page behind) (calls_of (IsVictim layout old t) old.flash new page behind)
unresolved_leaves layout old t mid new moved arrival page there made still (Fares.Lost torn) = untorn old.flash mid page torn
unresolved_leaves layout old t mid new moved arrival page there made still (Fares.Remade is here twice never) =
    Leaves.Remade (record { twice = omega (arith, still.1, twice); never = λ same. still.1 ∙ never (λ k below. sym (still.0 k below) ∙ same k below) }) (made ∙ is)
    (subst (λ p. IfSome p (λ place. page ≡ place / page_words)) (sym there) here)

-- a stub that called the bridge does so until it is resolved
called_still : (layout : Layout) (image old mid : List ℕ) (IsGone : ℕ → Type 0) (s t : ℕ) → IsUnresolved layout image old s t → IsLinkIn layout image mid s t → KeepsCalls IsGone old mid (s / 128)
    → s % 128 + 1 < 128 → (word_at mid s ≡ call_word) × (word_at mid (s + 1) ≡ bridge_entry)
called_still layout image old mid IsGone s t link there calls room =
    let j = s % 128 in
    let at : s ≡ 128 * (s / 128) + j = omega arith in
    let none : word_at mid s ≢ jump_word = λ jump. elim (calls j (omega (arith, room))) [
      | Same is ↦ omega (arith, jump, is, ap (word_at mid) at, ap (word_at old) at, link.call)
      | Called i which room' jump' gone call bridge ↦ elim which [
        | inl first ↦ omega (arith, jump, ap (word_at mid) at, ap (λ x. word_at mid (128 * (s / 128) + x)) first, call)
        | inr second ↦ omega (arith, jump, ap (word_at mid) at, ap (λ x. word_at mid (128 * (s / 128) + x)) second, bridge)
      ]
    ] in
    elim (link_stands (IsEntry layout mid) image mid there.page there.first there.last s t there.holds there.link).0 [ inl call ↦ call | inr jump ↦ absurd (none jump.0) ]

-- and where one is, or was to be
resolved_leaves : (layout : Layout) (old mid new : Store) (t s : ℕ) (stub : Option ℕ) (moved : Moved) (stop : Option ResolveStop) (arrival : Arrival) → IsRight layout
    → IsFaithful layout (image_of layout old.flash.words) old.flash.words → length mid.flash.words ≡ 65536 → IsUnresolved layout (image_of layout old.flash.words) old.flash.words s t
    → IsLinkIn layout (image_of layout old.flash.words) mid.flash.words s t → arrival.place ≡ Some moved.place → torn_by arrival.refused ≡ torn_at stop
    → Rewrites mid.flash new.flash (s / 128) (page_of (with_two_words mid.flash.words s jump_word moved.place) (s / 128)) stop
    → Unlinks (IsVictim layout old t) old.flash mid.flash (s / 128) → Leaves layout old t new.flash arrival (s / 128)
resolved_leaves layout old mid new t s stub moved stop arrival right code whole link there placed refused (Unerased refusal stopped same erases) unlinks =
    let behind = unlinks_on (IsVictim layout old t) old.flash mid.flash new.flash (s / 128) unlinks (untouched_self mid.flash new.flash (s / 128) same erases) in
    Calls (unlinks_erased (IsVictim layout old t) old.flash new.flash (s / 128) behind) (calls_of (IsVictim layout old t) old.flash new.flash (s / 128) behind)
resolved_leaves layout old mid new t s stub moved stop arrival right code whole link there placed refused (Unprogrammed lacks is erases) unlinks =
    let at = link_placed layout (image_of layout old.flash.words) mid.flash.words s t jump_word moved.place right whole there in
    let inside : 128 * (s / 128) + 128 ≤ length mid.flash.words = omega (arith, whole, at.low) in
    let free : IsFree new.flash.words (s / 128) = ap (λ ws. page_of ws (s / 128)) is ∙ page_same mid.flash.words blank (s / 128) length-blank inside in
    let used = (link_page layout (image_of layout old.flash.words) old.flash.words s t (omega (arith, code.image_length, right.image_fits)) link.link).1 in
    Leaves.Lost (record {
      twice = omega (arith, once_of (IsVictim layout old t) old.flash mid.flash (s / 128) unlinks, erased_more mid.flash new.flash (s / 128) erases);
      differs = used_differs old.flash.words new.flash.words (s / 128) used free;
      words = page_of (with_two_words mid.flash.words s jump_word moved.place) (s / 128);
      lacks = refused ∙ lacks;
      free = free;
    })
resolved_leaves layout old mid new t s stub moved stop arrival right code whole link there placed refused (Whole is erases) unlinks =
    let image = image_of layout old.flash.words in
    let page = s / 128 in
    let words = mid.flash.words in
    let IsGone = IsVictim layout old t in
    let at = link_placed layout image words s t jump_word moved.place right whole there in
    let inside : 128 * page + 128 ≤ length words = omega (arith, whole, at.low) in
    let now : new.flash.words ≡ with_two_words words s jump_word moved.place = is ∙ page_resolved layout image words s t moved.place right whole there in
    let calls = calls_of IsGone old.flash mid.flash page unlinks in
    let two = called_still layout image old.flash.words words IsGone s t link there calls at.room in
    let jumps = jumps_resolved IsGone old.flash.words words s moved.place page calls inside refl at.room link.call link.bridge two.0 two.1 in
    let here : word_at new.flash.words s ≡ jump_word = ap (λ ws. word_at ws s) now ∙ first_of_two words s jump_word moved.place (omega (arith, inside, at.room)) in
    Jumps (record {
      twice = omega (arith, once_of IsGone old.flash mid.flash page unlinks, erased_more mid.flash new.flash page erases);
      never = λ same. absurd (
          let place : 128 * page + s % 128 ≡ s = omega arith in
          let still : word_at new.flash.words s ≡ word_at old.flash.words s = subst (λ a. word_at new.flash.words a ≡ word_at old.flash.words a) place (same (s % 128) (omega arith)) in
          omega (arith, here, still, link.call));
    }) moved.place placed (subst (λ w. KeepsJumps IsGone moved.place old.flash.words w page) (sym now) jumps)

pub leaves_from : (layout : Layout) (old new : Store) (page t : ℕ) (stub : Option ℕ) (arrival : Arrival) → IsReady layout old
    → CameThrough layout old.flash.words stub t → ArrivesFrom layout old new t stub arrival → Leaves layout old t new.flash arrival page
leaves_from layout old new page t stub arrival (right, code, ring) came (Stopped refused arrives is) = elim (fares_by layout old new page t (Err refused) (right, code, ring) arrives) [
  | Fares.Unmade unlinks ↦ Calls (unlinks_erased (IsVictim layout old t) old.flash new.flash page unlinks) (calls_of (IsVictim layout old t) old.flash new.flash page unlinks)
  | Fares.Lost torn ↦ Leaves.Lost (subst (λ o. IsTornPage old.flash new.flash o page) (sym (ap (λ (a : Arrival). torn_by a.refused) is)) torn)
  | Fares.Remade made here twice never ↦ absurd (let e : ◌≡◌ {A = Bool} false true = made in cc)
]
leaves_from layout old new page t stub arrival (right, code, ring) came (Went moved arrives nothing is) =
    unresolved_leaves layout old t new.flash new.flash moved arrival page (ap (λ (a : Arrival). a.place) is) (ap (λ (a : Arrival). a.made) is) (untouched_self new.flash new.flash page refl refl)
    (fares_by layout old new page t (Ok moved) (right, code, ring) arrives)
leaves_from layout old new page t stub arrival (right, code, ring) came (Resolved mid moved s arrives some stop done same is) =
    let image = image_of layout old.flash.words in
    let own = s / 128 in
    let to = is_to_resolve moved.recycled stub s some in
    let link : IsUnresolved layout image old.flash.words s t = subst (λ x. CameThrough layout old.flash.words x t) to.same came in
    let there = still_linked layout old mid t s stub moved (right, code, ring) came arrives some in
    let whole = (arrives_others layout old mid t (Ok moved) (right, code, ring) arrives).stay.whole in
    let at = link_placed layout image mid.flash.words s t jump_word moved.place right whole there in
    let inside : 128 * own + 128 ≤ length mid.flash.words = omega (arith, whole, at.low) in
    let new_page = page_of (with_two_words mid.flash.words s jump_word moved.place) own in
    let long : length new_page ≡ 128 =
    length-page_of (with_two_words mid.flash.words s jump_word moved.place) own (omega (arith, inside, length-with_two_words mid.flash.words s jump_word moved.place)) in
    let rewrites = rewrites_by mid.flash new.flash own new_page stop inside done in
    let placed = ap (λ (a : Arrival). a.place) is in
    let made = ap (λ (a : Arrival). a.made) is in
    let fares = fares_by layout old mid page t (Ok moved) (right, code, ring) arrives in
    elim (cases_eq page own) [
      | inr apart ↦ unresolved_leaves layout old t mid.flash new.flash moved arrival page placed made (other_untouched mid.flash new.flash page own new_page stop long inside apart rewrites) fares
      | inl here ↦ subst (Leaves layout old t new.flash arrival) (sym here) (elim (subst (Fares layout old t mid.flash (Ok moved)) here fares) [
        | Fares.Unmade unlinks ↦
            resolved_leaves layout old mid new t s stub moved stop arrival right code whole link there placed (ap (λ (a : Arrival). torn_by a.refused) is ∙ torn_told stop) rewrites unlinks
        | Fares.Lost torn ↦ untorn old.flash mid.flash own torn
        | Fares.Remade made_so at_place twice never ↦
            let used = (link_page layout image old.flash.words s t (omega (arith, code.image_length, right.image_fits)) link.link).1 in
            absurd (stub_apart layout old mid t s moved (right, code, ring) used to.apart arrives made_so at_place)
      ])
    ]

pub erases_from : (layout : Layout) (old : Store) (t : ℕ) (new : Memory) (arrival : Arrival) (page : ℕ) → Leaves layout old t new arrival page
    → (slice_index new.erases page ≤ slice_index old.flash.erases page + 2) × (IsSamePage old.flash.words new.words page → slice_index new.erases page ≡ slice_index old.flash.erases page)
erases_from layout old t new arrival page (Calls erased calls) = (erased.twice, erased.never)
erases_from layout old t new arrival page (Jumps erased place there jumps) = (erased.twice, erased.never)
erases_from layout old t new arrival page (Leaves.Lost torn) = (torn.twice, λ same. absurd (torn.differs same))
erases_from layout old t new arrival page (Leaves.Remade erased made here) = (erased.twice, erased.never)
