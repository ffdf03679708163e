-- Operations on pages of the pool: what stands after them.
use Rattle.std.proofs.Common.{◌≡◌, ℕ, ◌+◌, ◌*◌, ◌/◌, ◌<◌, ◌≤◌, ◌⊎◌, Bool, true, false, List, [], ◌∷◌, length, take, length-take, Option, Some, None, arith, refl, sym, ap, ◌∙◌, inl, inr, ⊎_elim}
use Rattle.std.specs.Prelude.{if◌then◌else◌, IfSome, MatchOption, ◌==◌, ⊤}
use Rattle.std.specs.List.{list_any}
use Rattle.std.proofs.lemmas.Bool.{cases_eq, cases_lt}
use Rattle.std.proofs.lemmas.Grind.{same_number_lists}
use Rattle.std.proofs.lemmas.List.{get_or-take}
use Rattle.base.proofs.ManyLaws.{length-many}
use Rattle.flash_words.specs.Pages.{word_count, page_words, word_at, page_of, set_page, blank}
use Rattle.flash_words.specs.Memory.{Memory}
use Rattle.flash_words.specs.Operations.{next_op, fails, left_by_refusal, erased_page, programmed_page}
use Rattle.flash_words.specs.Layouts.{IsRight, image_of}
use Rattle.flash_words.specs.declared.layout.Layout.{Layout}
use Rattle.flash_words.proofs.PageLaws.{length-set_page, word_out_of_page}
use Rattle.page_index.specs.Maps.{IsPool, IsFree}
use Rattle.branch_bridge.specs.declared.rewriting.ResolveStop.{ResolveStop}
use Rattle.branch_bridge.specs.declared.rewriting.Torn.{Torn}
use Rattle.branch_bridge.specs.Operating.{Operation, Erase, Program, operated_page, operated, lacking, stop_at, Performed, perform, rewriting}
use Rattle.branch_bridge.specs.Tried.{is_listed, torn_at, IsTorn, IsRefusal, Tried}
use Rattle.branch_bridge.proofs.PerformLaws.{erased_blank}

-- none is tried
pub tried_none : (layout : Layout) (m : Memory) → Tried layout m m None
tried_none layout m = record {
  failing = refl;
  counted = omega arith;
  only = λ op above below listed. absurd (omega arith);
  unrefused = λ none. refl;
  refused = tt;
  size = refl;
  outside = λ a away. refl;
}

-- more are tried
listed_on : (old mid : Memory) (op : ℕ) → mid.failing ≡ old.failing → is_listed mid op ≡ is_listed old op
listed_on old mid op same = ap (list_any (λ n. n == op)) same

refusal_on : (layout : Layout) (old mid new : Memory) (stop : ResolveStop) → Tried layout old mid None → IsRefusal layout mid new stop → IsRefusal layout old new stop
refusal_on layout old mid new stop before refusal = record {
  later = omega (arith, before.counted, refusal.later);
  last = refusal.last;
  listed = sym (listed_on old mid stop.op before.failing) ∙ refusal.listed;
  page = refusal.page;
  pool = refusal.pool;
  told = refusal.told;
  torn = refusal.torn;
}

some_refusal : (layout : Layout) (old mid new : Memory) (stop : Option ResolveStop) → Tried layout old mid None → IfSome stop (IsRefusal layout mid new) → IfSome stop (IsRefusal layout old new)
some_refusal layout old mid new None before refusal = tt
some_refusal layout old mid new (Some stop) before refusal = refusal_on layout old mid new stop before refusal

pub tried_on : (layout : Layout) (old mid new : Memory) (stop : Option ResolveStop) → Tried layout old mid None → Tried layout mid new stop → Tried layout old new stop
tried_on layout old mid new stop before tried = record {
  failing = tried.failing ∙ before.failing;
  counted = omega (arith, before.counted, tried.counted);
  only = λ op above below listed. elim (cases_lt mid.ops op) [
    | inl behind ↦ tried.only op behind below (listed_on old mid op before.failing ∙ listed)
    | inr within ↦ absurd (let never : None ≡ Some op = before.only op above within listed in cc)
  ];
  unrefused = λ none. tried.unrefused none ∙ before.unrefused refl;
  refused = some_refusal layout old mid new stop before tried.refused;
  size = tried.size ∙ before.size;
  outside = λ a away. tried.outside a away ∙ before.outside a away;
}

-- the operation is on a page of the pool; one that is programmed again is blank
abbrev pub IsOnPool : Layout → Memory → Operation → Type 0
IsOnPool layout m (Erase page) = IsPool layout page
IsOnPool layout m (Program again page words) = IsPool layout page × (length words ≡ page_words) × (again ≡ true → IsFree m.words page)

-- .. each of some, where those in front are done
abbrev pub AreOnPool : Layout → Memory → List Operation → Type 0
AreOnPool layout m [] = ⊤
AreOnPool layout m (operation ∷ operations) = IsOnPool layout m operation × AreOnPool layout (operated m operation) operations

page_on_pool : (layout : Layout) (m : Memory) (operation : Operation) → IsOnPool layout m operation → IsPool layout (operated_page operation)
page_on_pool layout m (Erase page) on = on
page_on_pool layout m (Program again page words) on = on.0

torn_there : (layout : Layout) (m : Memory) (operation : Operation) → IsOnPool layout m operation → IfSome (lacking operation) (IsTorn layout m.words)
torn_there layout m (Erase page) on = tt
torn_there layout m (Program true page words) on = record { pool = on.0; blank = on.2 refl; size = on.1 }
torn_there layout m (Program false page words) on = tt

-- one that is refused
tried_refused : (layout : Layout) (m : Memory) (operation : Operation) → fails m ≡ true → IsOnPool layout m operation
    → Tried layout m (left_by_refusal m (operated_page operation)) (Some (stop_at m operation))
tried_refused layout m operation listed on = record {
  failing = refl;
  counted = omega arith;
  only = λ op above below there. ap Some (let same : m.ops + 1 ≡ op = omega arith in same);
  unrefused = λ none. absurd (cc);
  refused = record {
    later = omega arith;
    last = refl;
    listed = listed;
    page = operated_page operation;
    pool = page_on_pool layout m operation on;
    told = refl;
    torn = torn_there layout m operation on;
  };
  size = refl;
  outside = λ a away. refl;
}

-- one that is done
beside_page : (layout : Layout) (page a : ℕ) → IsPool layout page → ¬ IsPool layout (a / page_words) → (a < page_words * page) ⊎ (page_words * page + page_words ≤ a)
beside_page layout page a pool away = elim (cases_eq (a / page_words) page) [
  | inl is ↦ absurd (away (rw is pool))
  | inr apart ↦ ⊎_elim (λ below. inl (omega arith)) (λ above. inr (omega arith)) (cases_lt (a / page_words) page)
]

tried_set : (layout : Layout) (m m' : Memory) (page : ℕ) (words : List ℕ) → IsRight layout → length m.words ≡ word_count → IsPool layout page → length words ≡ page_words → fails m ≡ false
    → m'.words ≡ set_page m.words page words → m'.failing ≡ m.failing → m'.ops ≡ next_op m → m'.refused ≡ m.refused → Tried layout m m' None
tried_set layout m m' page words right whole pool long unlisted set same one unrefused =
    let inside : page_words * page + page_words ≤ length m.words = omega (arith, whole, pool.to, right.pool_below_kernel) in
    record {
      failing = same;
      counted = omega (arith, one);
      only = λ op above below listed.
          (let is : op ≡ next_op m = omega (arith, one) in
          absurd (let never : true ≡ false = sym listed ∙ ap (is_listed m) is ∙ unlisted in cc));
      unrefused = λ none. unrefused;
      refused = tt;
      size = ap length set ∙ length-set_page m.words words page long inside;
      outside = λ a away. ap (λ w. word_at w a) set ∙ word_out_of_page m.words words page a long inside (beside_page layout page a pool away);
    }

length-blank : length blank ≡ page_words
unfolding blank
length-blank = length-many page_words 0xFFFF

tried_done : (layout : Layout) (m : Memory) (operation : Operation) → IsRight layout → length m.words ≡ word_count → fails m ≡ false → IsOnPool layout m operation
    → Tried layout m (operated m operation) None
tried_done layout m (Erase page) right whole unlisted on = tried_set layout m (erased_page m page) page blank right whole on length-blank unlisted refl refl refl refl
tried_done layout m (Program again page words) right whole unlisted on = tried_set layout m (programmed_page m page words) page words right whole on.0 on.1 unlisted refl refl refl refl

-- operations in a row
pub tried_performed : (layout : Layout) (m : Memory) (operations : List Operation) → IsRight layout → length m.words ≡ word_count → AreOnPool layout m operations
    → Tried layout m (perform m operations).memory (perform m operations).stop
tried_performed layout m [] right whole on = tried_none layout m
tried_performed layout m (operation ∷ operations) right whole on =
    let m' = operated m operation in
    let refused : Performed = record { memory = left_by_refusal m (operated_page operation); stop = Some (stop_at m operation) } in
    let P : Bool → Type 0 = λ b. fails m ≡ b → Tried layout m (if b then refused else perform m' operations).memory (if b then refused else perform m' operations).stop in
    (elim (fails m) as P [
      | true ↦ λ listed. tried_refused layout m operation listed on.0
      | false ↦ λ unlisted. (
          let done = tried_done layout m operation right whole unlisted on.0 in
          tried_on layout m m' (perform m' operations).memory (perform m' operations).stop done (tried_performed layout m' operations right (done.size ∙ whole) on.1))
    ]) refl

-- .. that end so
pub tried_as : (layout : Layout) (m m' : Memory) (stop : Option ResolveStop) (operations : List Operation) → IsRight layout → length m.words ≡ word_count → AreOnPool layout m operations
    → perform m operations ≡ record { memory = m'; stop = stop } → Tried layout m m' stop
tried_as layout m m' stop operations right whole on is = rw is at (tried_performed layout m operations right whole on)

-- a page that is erased and programmed
pub rewriting_on_pool : (layout : Layout) (m : Memory) (page : ℕ) (words : List ℕ) → IsRight layout → length m.words ≡ word_count → IsPool layout page → length words ≡ page_words
    → AreOnPool layout m (rewriting page words)
rewriting_on_pool layout m page words right whole pool long =
    (pool, ((pool, long, λ again. erased_blank m page (omega (arith, whole, pool.to, right.pool_below_kernel))), tt))

-- the image stays
pub tried_image : (layout : Layout) (old new : Memory) (stop : Option ResolveStop) → IsRight layout → length old.words ≡ word_count → Tried layout old new stop
    → image_of layout new.words ≡ image_of layout old.words
tried_image layout old new stop right whole tried =
    let n = layout.image_words in
    let fits : n ≤ 65536 = omega (arith, right.image_fits) in
    let cut : length (take n old.words) ≡ n = omega (arith, length-take n old.words, whole) in
    let cut' : length (take n new.words) ≡ n = omega (arith, length-take n new.words, tried.size, whole) in
    same_number_lists (take n new.words) (take n old.words) (cut' ∙ sym cut) (λ k within.
    let below : k < n = omega arith in
    get_or-take n new.words k 0 below ∙ tried.outside k (λ pool. omega (arith, pool.from, right.image_below_pool)) ∙ sym (get_or-take n old.words k 0 below))

-- the torn page is blank
pub tried_torn : (layout : Layout) (old new : Memory) (stop : Option ResolveStop) → Tried layout old new stop → MatchOption (torn_at stop) ⊤ (λ torn. page_of new.words torn.page ≡ blank)
tried_torn layout old new None tried = tt
tried_torn layout old new (Some stop) tried =
    let Told : Option Torn → Type 0 = λ torn. IfSome torn (IsTorn layout new.words) → MatchOption torn ⊤ (λ torn. page_of new.words torn.page ≡ blank) in
    (elim (stop.torn) as Told [
      | None ↦ λ none. tt
      | Some torn ↦ λ is. is.blank
    ]) tried.refused.torn
