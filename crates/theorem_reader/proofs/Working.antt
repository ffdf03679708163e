-- Which operations on flash an arrival makes, one behind the other.
use Rattle.std.proofs.Common.{◌≡◌, ℕ, ◌+◌, ◌<◌, ◌≤◌, Bool, true, false, if◌then◌else◌, List, [], ◌∷◌, ◌++◌, length, length-append, map, Option, Some, None, Ok, Err, refl, sym, ap, ◌∙◌, subst}
use Rattle.std.proofs.Common.{arith}
use Rattle.std.specs.Prelude.{◌*◌, ◌/◌, ◌==◌, not, ⊤, Result}
use Rattle.flash_words.specs.Memory.{Memory}
use Rattle.flash_words.specs.Layouts.{IsRight, layout_of, image_of}
use Rattle.flash_words.specs.declared.layout.Layout.{Layout}
use Rattle.flash_words.specs.Operations.{fails, next_op, left_by_refusal, erased_page, Refusal, Operation as PageOperation, operated_page as page_tried, operated as page_operated}
use Rattle.flash_words.specs.Operations.{Performed as PagesPerformed, perform as perform_pages}
use Rattle.flash_words.specs.Operations as pages
use Rattle.branch_bridge.specs.declared.rewriting.ResolveStop.{ResolveStop}
use Rattle.branch_bridge.specs.declared.arrival.Moved.{Moved}
use Rattle.branch_bridge.specs.declared.arrival.Refused.{Refused}
use Rattle.branch_bridge.specs.declared.through.Arrival.{Arrival}
use Rattle.flash_words.specs.Pages.{word_count, page_words, page_of, blank}
use Rattle.flash_words.proofs.PageLaws.{length-set_page, length-page_of}
use Rattle.flash_words.proofs.ProgramLaws.{length-blank}
use Rattle.page_index.specs.Maps.{IsPool, IsFree}
use Rattle.page_index.specs.Entries.{IsEntry}
use Rattle.page_draft.specs.Standing.{jump_word}
use Rattle.nat_page.specs.Faithful.{IsFaithful}
use Rattle.nat_page.specs.Links.{IsLinkIn, with_two_words}
use Rattle.nat_page.specs.Unlinking.{with_calls, stubs_into, are_some}
use Rattle.nat_page.specs.Used.{is_used}
use Rattle.nat_page.proofs.LinkLaws.{link_room}
use Rattle.nat_page.proofs.TwoWords.{length-with_two_words}
use Rattle.nat_page.proofs.UnlinkLaws.{length-with_calls}
use Rattle.nat_page.proofs.UsedLaws.{holds_run_used}
use Rattle.branch_bridge.proofs.ArrivalLaws.{prepared_size}
use Rattle.branch_bridge.proofs.MakeLaws.{makes_ops}
use Rattle.branch_bridge.proofs.PerformLaws.{erased_blank, rewriting_ops}
use Rattle.branch_bridge.proofs.RecycleLaws.{full_used}
use Rattle.branch_bridge.proofs.PartLaws.{stubs_used}
use Rattle.branch_bridge.specs.Operating.{Operation, Erase, Program, operated, operated_page, stop_at, Performed, perform, rewriting}
use Rattle.branch_bridge.specs.Resolving.{resolving}
use Rattle.branch_bridge.specs.Unresolving.{has_stubs_into, unlinking, unresolved, unresolved_in}
use Rattle.branch_bridge.specs.Arrivals.{Store, ring_of, CameThrough, one_if, made_in, Makes, Made, NotMade, Recycles, NotUnlinked, NotErased, Erased, Arrives, Beyond, Found, Free, Full}
use Rattle.branch_bridge.specs.Arrivals.{ArrivesFrom, Stopped, Went, Resolved}
use Rattle.theorem_reader.specs.Acts.{IsAllowed}
use Rattle.theorem_reader.specs.Pools.{IsErased}
use Rattle.theorem_reader.proofs.Pooling.{from_pool, blank_word}
use Rattle.theorem_reader.proofs.Rewriting.{one_performed}
use Rattle.theorem_reader.proofs.OtherPages.{IsReady, unresolved_by, unlinked_all, still_linked}

-- an operation on a page of the pool: an erase, where the page is used; or a program of 128 words, where it is free
abbrev pub Suits : Layout → List ℕ → PageOperation → Type 0
Suits layout words (pages.Erase page) = IsPool layout page × (is_used words page ≡ true)
Suits layout words (pages.Program page new) = IsPool layout page × (length new ≡ page_words) × IsFree words page

-- .. each of some, where those in front are done
abbrev pub Suit : Layout → Memory → List PageOperation → Type 0
Suit layout m [] = ⊤
Suit layout m (operation ∷ operations) = Suits layout m.words operation × Suit layout (page_operated m operation) operations

-- These operations lead from one flash to the other, up to one that was refused, if any was; each is counted, and suits.
pub record Does (layout : Layout) (old new : Memory) (stop : Option ResolveStop) : Type 0 where
  pub operations : List PageOperation
  pub refusal : Option Refusal
  pub is : perform_pages old operations ≡ record { memory = new; refusal = refusal }
  pub counted : new.ops ≡ old.ops + length operations
  pub none : stop ≡ None → refusal ≡ None
  pub suit : Suit layout old operations
  pub size : length new.words ≡ length old.words

does_nothing : (layout : Layout) (m : Memory) (stop : Option ResolveStop) → Does layout m m stop
does_nothing layout m stop = record { operations = []; refusal = None; is = refl; counted = omega arith; none = λ e. refl; suit = tt; size = refl }

inside_of : (layout : Layout) (words : List ℕ) (page : ℕ) → IsRight layout → length words ≡ word_count → IsPool layout page → page_words * page + page_words ≤ length words
inside_of layout words page right whole pool = omega (arith, whole, pool.to, right.pool_below_kernel)

-- One behind the other. -----------------------------------------------------------------------------------

-- what is told of a refused one
abbrev refused_at : Memory → PageOperation → PagesPerformed
refused_at m operation = record { memory = left_by_refusal m (page_tried operation); refusal = Some (record { op = next_op m; operation = operation }) }

-- where the first are done, the others follow
done_on : (layout : Layout) (first second : List PageOperation) (a b : Memory) → perform_pages a first ≡ record { memory = b; refusal = None } → Suit layout a first → Suit layout b second
    → (perform_pages a (first ++ second) ≡ perform_pages b second) × Suit layout a (first ++ second)
done_on layout [] second a b is here there =
    let P : Memory → Type 0 = λ m. (perform_pages m second ≡ perform_pages b second) × Suit layout m second in
    subst P (sym (ap (λ (p : PagesPerformed). p.memory) is)) (refl, there)
done_on layout (operation ∷ first) second a b is here there =
    let Ways : Bool → Type 0 = λ t. (if t then refused_at a operation else perform_pages (page_operated a operation) first) ≡ record { memory = b; refusal = None }
    → ((if t then refused_at a operation else perform_pages (page_operated a operation) (first ++ second)) ≡ perform_pages b second) × Suit layout a (operation ∷ (first ++ second)) in
    (elim (fails a) as Ways [
      | true ↦ λ done. absurd (let e : ◌≡◌ {A = Option Refusal} (Some (record { op = next_op a; operation = operation })) None = ap (λ (p : PagesPerformed). p.refusal) done in cc)
      | false ↦ λ done. (let on = done_on layout first second (page_operated a operation) b done here.1 there in (on.0, (here.0, on.1)))
    ]) is

then_does : (layout : Layout) (a b c : Memory) (stop stop' : Option ResolveStop) → Does layout a b stop → stop ≡ None → Does layout b c stop' → Does layout a c stop'
then_does layout a b c stop stop' first going second =
    let done = subst (λ (r : Option Refusal). perform_pages a first.operations ≡ record { memory = b; refusal = r }) (first.none going) first.is in
    let on = done_on layout first.operations second.operations a b done first.suit second.suit in
    record {
      operations = first.operations ++ second.operations;
      refusal = second.refusal;
      is = on.0 ∙ second.is;
      counted = omega (arith, first.counted, second.counted, length-append first.operations second.operations);
      none = second.none;
      suit = on.1;
      size = second.size ∙ first.size;
    }

-- As the arrival makes them. ------------------------------------------------------------------------------

abbrev plain : Operation → PageOperation
plain (Erase page) = pages.Erase page
plain (Program again page words) = pages.Program page words

plainly_operated : (m : Memory) (operation : Operation) → page_operated m (plain operation) ≡ operated m operation
plainly_operated m (Erase page) = refl
plainly_operated m (Program again page words) = refl

plainly_tried : (operation : Operation) → page_tried (plain operation) ≡ operated_page operation
plainly_tried (Erase page) = refl
plainly_tried (Program again page words) = refl

counted_one : (m : Memory) (operation : PageOperation) → (page_operated m operation).ops ≡ m.ops + 1
counted_one m (pages.Erase page) = refl
counted_one m (pages.Program page words) = refl

operated_size : (layout : Layout) (m : Memory) (operation : Operation) → IsRight layout → length m.words ≡ word_count → Suits layout m.words (plain operation)
    → length (operated m operation).words ≡ length m.words
operated_size layout m (Erase page) right whole suits = length-set_page m.words blank page length-blank (inside_of layout m.words page right whole suits.0)
operated_size layout m (Program again page words) right whole suits = length-set_page m.words words page suits.1 (inside_of layout m.words page right whole suits.0)

done_one : (layout : Layout) (m : Memory) (operation : Operation) → IsRight layout → length m.words ≡ word_count → fails m ≡ false → Suits layout m.words (plain operation)
    → Does layout m (operated m operation) None
done_one layout m operation right whole free suits = record {
  operations = plain operation ∷ [];
  refusal = None;
  is = ap (λ t. if t then refused_at m (plain operation) else record { memory = page_operated m (plain operation); refusal = None }) free
      ∙ ap (λ (w : Memory). record { memory = w; refusal = None }) (plainly_operated m operation);
  counted = ap (λ (w : Memory). w.ops) (sym (plainly_operated m operation)) ∙ counted_one m (plain operation);
  none = λ e. refl;
  suit = (suits, tt);
  size = operated_size layout m operation right whole suits;
}

refused_one : (layout : Layout) (m : Memory) (operation : Operation) → fails m ≡ true → Suits layout m.words (plain operation)
    → Does layout m (left_by_refusal m (operated_page operation)) (Some (stop_at m operation))
refused_one layout m operation listed suits = record {
  operations = plain operation ∷ [];
  refusal = Some (record { op = next_op m; operation = plain operation });
  is = ap (λ t. if t then refused_at m (plain operation) else record { memory = page_operated m (plain operation); refusal = None }) listed
      ∙ ap (λ page. record { memory = left_by_refusal m page; refusal = Some (record { op = next_op m; operation = plain operation }) }) (plainly_tried operation);
  counted = omega arith;
  none = λ e. absurd (cc);
  suit = (suits, tt);
  size = refl;
}

does_perform : (layout : Layout) (operations : List Operation) (m : Memory) → IsRight layout → length m.words ≡ word_count → Suit layout m (map plain operations)
    → (let p = perform m operations in Does layout m p.memory p.stop)
does_perform layout [] m right whole all = does_nothing layout m None
does_perform layout (operation ∷ operations) m right whole all =
    let m' = operated m operation in
    let refused : Performed = record { memory = left_by_refusal m (operated_page operation); stop = Some (stop_at m operation) } in
    let Ways : Bool → Type 0 = λ t. fails m ≡ t → (let p = if t then refused else perform m' operations in Does layout m p.memory p.stop) in
    (elim (fails m) as Ways [
      | true ↦ λ listed. refused_one layout m operation listed all.0
      | false ↦ λ free. then_does layout m m' (perform m' operations).memory None (perform m' operations).stop (done_one layout m operation right whole free all.0) refl
          (does_perform layout operations m' right (operated_size layout m operation right whole all.0 ∙ whole)
          (subst (λ w. Suit layout w (map plain operations)) (plainly_operated m operation) all.1))
    ]) refl

performs : (layout : Layout) (m new : Memory) (operations : List Operation) (stop : Option ResolveStop) → IsRight layout → length m.words ≡ word_count → Suit layout m (map plain operations)
    → perform m operations ≡ record { memory = new; stop = stop } → Does layout m new stop
performs layout m new operations stop right whole all is = subst (λ (p : Performed). Does layout m p.memory p.stop) is (does_perform layout operations m right whole all)

-- a page that is used is rewritten
rewrites : (layout : Layout) (m : Memory) (page : ℕ) (words : List ℕ) → IsRight layout → length m.words ≡ word_count → IsPool layout page → is_used m.words page ≡ true → length words ≡ page_words
    → Suit layout m (map plain (rewriting page words))
rewrites layout m page words right whole pool used long = ((pool, used), ((pool, long, erased_blank m page (inside_of layout m.words page right whole pool)), tt))

unlinks_page : (layout : Layout) (image : List ℕ) (m : Memory) (victim page : ℕ) → IsRight layout → length m.words ≡ word_count → IsPool layout page
    → Suit layout m (map plain (unlinking image m.words victim page))
unlinks_page layout image m victim page right whole pool =
    let words = with_calls m.words (stubs_into image m.words victim page) in
    let long = length-page_of words page (inside_of layout words page right (length-with_calls m.words (stubs_into image m.words victim page) ∙ whole) pool) in
    let Ways : Bool → Type 0 = λ b. has_stubs_into image m.words victim page ≡ b → Suit layout m (map plain (if b then rewriting page (page_of words page) else [])) in
    (elim (has_stubs_into image m.words victim page) as Ways [
      | true ↦ λ some. rewrites layout m page (page_of words page) right whole pool (stubs_used (page == victim) (is_used m.words page) (are_some (stubs_into image m.words victim page)) some) long
      | false ↦ λ none. tt
    ]) refl

does_unresolved : (layout : Layout) (image : List ℕ) (victim first n : ℕ) (m : Memory) → IsRight layout → length m.words ≡ word_count → ((k : ℕ) → k < n → IsPool layout (first + k))
    → (let p = unresolved image victim first n m in Does layout m p.memory p.stop)
does_unresolved layout image victim first n m right whole all =
    unresolved_by (λ k p. Does layout m p.memory p.stop) image victim first n m (does_nothing layout m None) (λ k less now done.
    let there : length now.words ≡ word_count = done.size ∙ whole in
    then_does layout m now _ None _ done refl
    (does_perform layout (unlinking image now.words victim (first + k)) now right there (unlinks_page layout image now victim (first + k) right there (all k less)))) (λ k now stop done. done)

unresolves : (layout : Layout) (victim : ℕ) (m new : Memory) (stop : Option ResolveStop) → IsRight layout → length m.words ≡ word_count
    → unresolved_in layout victim m ≡ record { memory = new; stop = stop } → Does layout m new stop
unresolves layout victim m new stop right whole is =
    subst (λ (p : Performed). Does layout m p.memory p.stop) is
    (does_unresolved layout (image_of layout m.words) victim layout.pool_first layout.pool_pages m right whole (λ k below. record { from = omega arith; to = omega (arith, below) }))

-- An arrival. ---------------------------------------------------------------------------------------------

-- a stub's page is used
pub link_page : (layout : Layout) (image words : List ℕ) (s t : ℕ) → length image ≤ 24576 → IsLinkIn layout image words s t → IsPool layout (s / page_words) × (is_used words (s / page_words) ≡ true)
link_page layout image words s t short link =
    let room = link_room image link.page link.first link.last s t link.holds.fits link.link in
    let at : link.page ≡ s / page_words = omega (arith, room) in
    (subst (IsPool layout) at link.pool, ap (is_used words) (sym at) ∙ holds_run_used (IsEntry layout words) image words link.page link.first link.last short link.holds)

-- one operation at least where a page is made, and none refused where it is answered
record Works (layout : Layout) (old new : Store) (result : Result Moved Refused) : Type 0 where
  stop : Option ResolveStop
  does : Does layout old.flash new.flash stop
  some : one_if (made_in result) ≤ length does.operations
  going : (moved : Moved) → result ≡ Ok moved → stop ≡ None

-- where it is refused
works_refused : (layout : Layout) (old new : Store) (result : Result Moved Refused) (refused : Refused) (stop : Option ResolveStop) → result ≡ Err refused → Does layout old.flash new.flash stop
    → Works layout old new result
works_refused layout old new result refused stop is does = record { stop = stop; does = does; some = omega (arith, ap (λ r. one_if (made_in r)) is); going = λ moved e. absurd (cc) }

-- .. or neither an operation is made nor a page
works_still : (layout : Layout) (old new : Store) (result : Result Moved Refused) → new.flash ≡ old.flash → one_if (made_in result) ≡ 0 → Works layout old new result
works_still layout old new result same none = record {
  stop = None;
  does = subst (λ m. Does layout old.flash m None) (sym same) (does_nothing layout old.flash None);
  some = omega (arith, none);
  going = λ moved e. refl;
}

works_made : (layout : Layout) (old new : Store) (page t : ℕ) (again : Bool) (result : Result Moved Refused) → IsRight layout → length old.flash.words ≡ word_count → IsPool layout page
    → IsFree old.flash.words page → Makes layout old new page t again result → Works layout old new result
works_made layout old new page t again result right whole pool free (Made words place prepared done there is) =
    let long = prepared_size layout (image_of layout old.flash.words) old.flash.words page t words place prepared in
    let does = performs layout old.flash new.flash (Program again page words ∷ []) None right whole ((pool, long, free), tt) done in
    let more : old.flash.ops < new.flash.ops = subst (λ (p : Performed). old.flash.ops < p.memory.ops) done
    (one_performed (λ p. old.flash.ops < p.memory.ops) old.flash (Program again page words) [] (omega arith) (omega arith)) in
    record { stop = None; does = does; some = omega (arith, ap (λ r. one_if (made_in r)) is, does.counted, more); going = λ moved e. refl }
works_made layout old new page t again result right whole pool free (NotMade words place prepared stop done same is) =
    let long = prepared_size layout (image_of layout old.flash.words) old.flash.words page t words place prepared in
    works_refused layout old new result _ (Some stop) is (performs layout old.flash new.flash (Program again page words ∷ []) (Some stop) right whole ((pool, long, free), tt) done)

works_recycled : (layout : Layout) (old new : Store) (victim t : ℕ) (result : Result Moved Refused) → IsRight layout → IsFaithful layout (image_of layout old.flash.words) old.flash.words
    → IsPool layout victim → is_used old.flash.words victim ≡ true → Recycles layout old new victim t result → Works layout old new result
works_recycled layout old new victim t result right code pool used (NotUnlinked stop done same is) =
    works_refused layout old new result _ (Some stop) is (unresolves layout victim old.flash new.flash (Some stop) right code.whole done)
works_recycled layout old new victim t result right code pool used (NotErased unlinked done listed left forgot is) =
    let still = (unlinked_all layout old.flash unlinked victim right code pool done).uses victim ∙ used in
    let stop : ResolveStop = stop_at unlinked (Erase victim) in
    let refused = subst (λ m. Does layout unlinked m (Some stop)) (sym left) (refused_one layout unlinked (Erase victim) listed (pool, still)) in
    works_refused layout old new result _ (Some stop) is
    (then_does layout old.flash unlinked new.flash None (Some stop) (unresolves layout victim old.flash unlinked None right code.whole done) refl refused)
works_recycled layout old new victim t result right code pool used (Erased unlinked done free makes) =
    let still = (unlinked_all layout old.flash unlinked victim right code pool done).uses victim ∙ used in
    let erased = erased_page unlinked victim in
    let before = unresolves layout victim old.flash unlinked None right code.whole done in
    let there : length unlinked.words ≡ word_count = before.size ∙ code.whole in
    let erases = done_one layout unlinked (Erase victim) right there free (pool, still) in
    let made = works_made layout _ new victim t true result right (erases.size ∙ there) pool (erased_blank unlinked victim (inside_of layout unlinked.words victim right there pool)) makes in
    let first = then_does layout old.flash unlinked erased None None before refl erases in
    let does = then_does layout old.flash erased new.flash None made.stop first refl made.does in
    record { stop = made.stop; does = does; some = omega (arith, made.some, length-append first.operations made.does.operations); going = made.going }

works_by : (layout : Layout) (old new : Store) (t : ℕ) (result : Result Moved Refused) → IsReady layout old → Arrives layout old new t result → Works layout old new result
works_by layout old new t result (right, code, ring) (Beyond out same is) = works_still layout old new result (ap (λ (s : Store). s.flash) same) (ap (λ r. one_if (made_in r)) is)
works_by layout old new t result (right, code, ring) (Found place inside finds same is) = works_still layout old new result same (ap (λ r. one_if (made_in r)) is)
works_by layout old new t result (right, code, ring) (Free page inside finds lowest makes) = works_made layout old new page t false result right code.whole lowest.pool lowest.free makes
works_by layout old new t result (right, code, ring) (Full inside finds none recycles) =
    let victim = layout.pool_first + ring_of old.sram in
    let pool : IsPool layout victim = record { from = omega arith; to = omega (arith, ring) } in
    works_recycled layout old new victim t result right code pool (full_used layout (image_of layout old.flash.words) old.flash.words victim right code none pool) recycles

-- the operations of an arrival
pub record Worked (layout : Layout) (old new : Memory) (made : Bool) : Type 0 where
  pub stop : Option ResolveStop
  pub does : Does layout old new stop
  pub some : one_if made ≤ length does.operations

pub works_from : (layout : Layout) (old new : Store) (t : ℕ) (stub : Option ℕ) (arrival : Arrival) → IsReady layout old → CameThrough layout old.flash.words stub t
    → ArrivesFrom layout old new t stub arrival → Worked layout old.flash new.flash arrival.made
works_from layout old new t stub arrival (right, code, ring) came (Stopped refused arrives is) =
    let works = works_by layout old new t (Err refused) (right, code, ring) arrives in
    record { stop = works.stop; does = works.does; some = omega (arith, ap (λ (a : Arrival). one_if a.made) is) }
works_from layout old new t stub arrival (right, code, ring) came (Went moved arrives nothing is) =
    let works = works_by layout old new t (Ok moved) (right, code, ring) arrives in
    record { stop = works.stop; does = works.does; some = omega (arith, ap (λ (a : Arrival). one_if a.made) is, works.some) }
works_from layout old new t stub arrival (right, code, ring) came (Resolved mid moved s arrives some stop done kept is) =
    let works = works_by layout old mid t (Ok moved) (right, code, ring) arrives in
    let there : length mid.flash.words ≡ word_count = works.does.size ∙ code.whole in
    let link = link_page layout (image_of layout old.flash.words) mid.flash.words s t (omega (arith, code.image_length, right.image_fits))
    (still_linked layout old mid t s stub moved (right, code, ring) came arrives some) in
    let words = with_two_words mid.flash.words s jump_word moved.place in
    let long = length-page_of words (s / page_words) (inside_of layout words (s / page_words) right (length-with_two_words mid.flash.words s jump_word moved.place ∙ there) link.0) in
    let behind = performs layout mid.flash new.flash (resolving mid.flash.words s moved.place) stop right there
    (rewrites layout mid.flash (s / page_words) (page_of words (s / page_words)) right there link.0 link.1 long) done in
    let all = then_does layout old.flash mid.flash new.flash works.stop stop works.does (works.going moved refl) behind in
    record { stop = stop; does = all; some = omega (arith, ap (λ (a : Arrival). one_if a.made) is, works.some, length-append works.does.operations behind.operations) }

-- How many there are where a page is free. ---------------------------------------------------------------

abbrev one_at_most : Result Moved Refused → ℕ
one_at_most (Ok moved) = one_if moved.made
one_at_most (Err refused) = 1

makes_one : (layout : Layout) (old new : Store) (page t : ℕ) (again : Bool) (result : Result Moved Refused) → Makes layout old new page t again result → one_at_most result ≡ 1
makes_one layout old new page t again result (Made words place prepared done there is) = ap one_at_most is
makes_one layout old new page t again result (NotMade words place prepared stop done same is) = ap one_at_most is

few_by : (layout : Layout) (old new : Store) (t page : ℕ) (result : Result Moved Refused) → IsPool layout page → IsFree old.flash.words page → Arrives layout old new t result
    → new.flash.ops ≤ old.flash.ops + one_at_most result
few_by layout old new t page result pool free (Beyond out same is) = omega (arith, ap (λ (s : Store). s.flash.ops) same)
few_by layout old new t page result pool free (Found place inside finds same is) = omega (arith, ap (λ (m : Memory). m.ops) same)
few_by layout old new t page result pool free (Free lowest inside finds first makes) =
    omega (arith, makes_ops layout old new lowest t false result makes, makes_one layout old new lowest t false result makes)
few_by layout old new t page result pool free (Full inside finds none recycles) = absurd (none page pool free)

pub few_from : (layout : Layout) (old new : Store) (t page : ℕ) (stub : Option ℕ) (arrival : Arrival) → IsPool layout page → IsFree old.flash.words page → ArrivesFrom layout old new t stub arrival
    → new.flash.ops ≤ old.flash.ops + (one_if arrival.made + 2)
few_from layout old new t page stub arrival pool free (Stopped refused arrives is) = omega (arith, few_by layout old new t page (Err refused) pool free arrives)
few_from layout old new t page stub arrival pool free (Went moved arrives nothing is) = omega (arith, few_by layout old new t page (Ok moved) pool free arrives, ap (λ (a : Arrival). one_if a.made) is)
few_from layout old new t page stub arrival pool free (Resolved mid moved s arrives some stop done kept is) =
    let two = rw done at (rewriting_ops mid.flash (s / page_words) (page_of (with_two_words mid.flash.words s jump_word moved.place) (s / page_words))) in
    omega (arith, few_by layout old mid t page (Ok moved) pool free arrives, two, ap (λ (a : Arrival). one_if a.made) is)

-- Each of them, where those in front are performed. -------------------------------------------------------

-- a page that is used isn't erased
used_unerased : (words : List ℕ) (page : ℕ) → is_used words page ≡ true → ¬ IsErased words page
used_unerased words page used erased =
    let unused : is_used words page ≡ false = ap (λ w. not (w == 0xFFFF)) (erased 0 (omega arith)) in
    absurd (cc)

is_allowed : (image words : List ℕ) (operation : PageOperation) → Suits (layout_of (length image)) words operation → IsAllowed image words operation
is_allowed image words (pages.Erase page) suits = (from_pool image page suits.0, used_unerased words page suits.1)
is_allowed image words (pages.Program page new) suits = (from_pool image page suits.0, suits.1, λ k below. blank_word words page k suits.2 below)

allowed_behind : (image : List ℕ) (m : Memory) (done behind : List PageOperation) (operation : PageOperation) → Suit (layout_of (length image)) m (done ++ (operation ∷ behind))
    → (perform_pages m (done ++ (operation ∷ behind))).memory.ops ≡ m.ops + length (done ++ (operation ∷ behind)) → IsAllowed image (perform_pages m done).memory.words operation
allowed_behind image m [] behind operation suit counted = is_allowed image m.words operation suit.0
allowed_behind image m (first ∷ done) behind operation suit counted =
    let all = done ++ (operation ∷ behind) in
    let m' = page_operated m first in
    let Ways : Bool → Type 0 = λ t. (if t then refused_at m first else perform_pages m' all).memory.ops ≡ m.ops + length (first ∷ all)
    → IsAllowed image (if t then refused_at m first else perform_pages m' done).memory.words operation in
    (elim (fails m) as Ways [
      | true ↦ λ counted. absurd (omega (arith, counted, length-append done (operation ∷ behind)))
      | false ↦ λ counted. allowed_behind image m' done behind operation suit.1 (omega (arith, counted, counted_one m first))
    ]) counted

pub allowed_each : (image : List ℕ) (m : Memory) (operations done behind : List PageOperation) (operation : PageOperation) → Suit (layout_of (length image)) m operations
    → (perform_pages m operations).memory.ops ≡ m.ops + length operations → operations ≡ done ++ (operation ∷ behind) → IsAllowed image (perform_pages m done).memory.words operation
allowed_each image m operations done behind operation suit counted split =
    allowed_behind image m done behind operation (subst (Suit (layout_of (length image)) m) split suit) (subst (λ o. (perform_pages m o).memory.ops ≡ m.ops + length o) split counted)
