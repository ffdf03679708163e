-- The pages of the pool one after another, up to some of them.
use Rattle.std.proofs.Common.{◌≡◌, ℕ, zero, suc, ◌+◌, ◌-◌, ◌*◌, ◌<◌, ◌≤◌, ◌⊎◌, List, Some, None, arith, refl, sym, ap, ◌∙◌, inl, inr, subst}
use Rattle.std.specs.Prelude.{◌≢◌}
use Rattle.std.proofs.lemmas.Bool.{cases_eq}
use Rattle.flash_words.specs.Layouts.{IsRight, image_of}
use Rattle.flash_words.specs.declared.layout.Layout.{Layout}
use Rattle.flash_words.specs.Memory.{Memory}
use Rattle.flash_words.specs.Jumps.{HasNoJumpInto}
use Rattle.page_index.specs.Maps.{IsPool, IsFree}
use Rattle.page_index.specs.Entries.{IsEntry}
use Rattle.page_index.proofs.ChangeLaws.{free_alike}
use Rattle.nat_page.specs.Faithful.{IsFaithful}
use Rattle.nat_page.specs.Used.{is_used}
use Rattle.nat_page.specs.Links.{IsUnresolved}
use Rattle.nat_page.proofs.StayLaws.{holds_alike}
use Rattle.nat_page.proofs.WalkLaws.{no_stubs_into}
use Rattle.branch_bridge.specs.declared.rewriting.ResolveStop.{ResolveStop}
use Rattle.branch_bridge.specs.Operating.{Performed, perform, then_on, mended}
use Rattle.branch_bridge.specs.Unresolving.{unlinking, unresolved, IsApart}
use Rattle.branch_bridge.proofs.UnresolveLaws.{PageDone, OneTold, one_told, nothing_to_unlink}

-- the first k pages are done
pub record UpTo (layout : Layout) (old now : Memory) (victim k : ℕ) : Type 0 where
  pub performed : unresolved (image_of layout old.words) victim layout.pool_first k old ≡ record { memory = now; stop = None }
  pub code : IsFaithful layout (image_of layout old.words) now.words
  pub same_image : image_of layout now.words ≡ image_of layout old.words
  pub apart : (page : ℕ) → IsPool layout page → page < layout.pool_first + k → page ≢ victim → IsFree now.words page ⊎ IsApart layout (image_of layout old.words) now.words victim page
  pub entries : (a v : ℕ) → IsEntry layout old.words a v → IsEntry layout now.words a v
  pub entries_back : (a v : ℕ) → IsEntry layout now.words a v → IsEntry layout old.words a v
  pub stubs : (s t : ℕ) → IsUnresolved layout (image_of layout old.words) old.words s t → IsUnresolved layout (image_of layout old.words) now.words s t
  pub ops : now.ops ≤ old.ops + 2 * k
  pub uses : (page : ℕ) → is_used now.words page ≡ is_used old.words page

pub up_to_none : (layout : Layout) (old : Memory) (victim : ℕ) → IsFaithful layout (image_of layout old.words) old.words → UpTo layout old old victim 0
up_to_none layout old victim code = record {
  performed = refl;
  code = code;
  same_image = refl;
  apart = λ page pool below away. absurd (omega (arith, pool.from));
  entries = λ a v entry. entry;
  entries_back = λ a v entry. entry;
  stubs = λ s t stub. stub;
  ops = omega arith;
  uses = λ page. refl;
}

-- a page that is apart stays so where another one is done
apart_stays : (layout : Layout) (image words words' : List ℕ) (victim page other : ℕ) → IsRight layout → IsFaithful layout image words → PageDone layout image words words' victim page
    → IsPool layout other → other ≢ page
    → IsFree words other ⊎ IsApart layout image words victim other → IsFree words' other ⊎ IsApart layout image words' victim other
apart_stays layout image words words' victim page other right code done pool away before = elim before [
  | inl free ↦ inl (free_alike _ _ _ (done.others other away) (omega (arith, pool.to, right.pool_below_kernel, code.whole)) (omega (arith, pool.to, right.pool_below_kernel, done.code.whole)) free)
  | inr apart ↦ inr (record {
    first = apart.first;
    last = apart.last;
    holds = holds_alike _ _ _ _ _ _ _ _ (λ a v leads. (done.entries a v leads.0, leads.1)) (done.others other away) apart.holds;
  })
]

-- the next page, done
pub up_to_next : (layout : Layout) (old now next : Memory) (victim k : ℕ) → IsRight layout → UpTo layout old now victim k → k < layout.pool_pages
    → perform now (unlinking (image_of layout now.words) now.words victim (layout.pool_first + k)) ≡ record { memory = next; stop = None } → UpTo layout old next victim (suc k)
up_to_next layout old now next victim k right up below performed =
    let image = image_of layout old.words in
    let page = layout.pool_first + k in
    let pool : IsPool layout page = record { from = omega arith; to = omega arith } in
    let same = ap (λ i. perform now (unlinking i now.words victim page)) (sym up.same_image) ∙ performed in
    let here : OneTold layout image now victim page (record { memory = next; stop = None }) = rw same at (one_told layout image now victim page right up.code pool) in
    let done : PageDone layout image now.words next.words victim page = here.done refl in
    let more : Performed → Performed = λ p. then_on p (λ m. perform m (unlinking image m.words victim page)) in
    let ops = here.ops in
    record {
      performed = ap more up.performed ∙ same;
      code = done.code;
      same_image = done.same_image ∙ up.same_image;
      apart = λ other pool' below' away. elim (cases_eq other page) [
        | inl is ↦ rw is (done.apart (rw is at away))
        | inr apart ↦ apart_stays layout image now.words next.words victim page other right up.code done pool' apart (up.apart other pool' (omega arith) away)
      ];
      entries = λ a v entry. done.entries a v (up.entries a v entry);
      entries_back = λ a v entry. up.entries_back a v (done.entries_back a v entry);
      stubs = λ s t stub. done.stubs s t (up.stubs s t stub);
      uses = λ p. done.uses p ∙ up.uses p;
      ops = omega arith;
    }

-- the next pages, none of which has a jump into the victim
up_to_passed : (layout : Layout) (old now : Memory) (victim k n : ℕ) → IsRight layout → UpTo layout old now victim k → k + n ≤ layout.pool_pages
    → ((page : ℕ) → layout.pool_first + k ≤ page → page < layout.pool_first + (k + n) → HasNoJumpInto now.words page victim) → UpTo layout old now victim (k + n)
up_to_passed layout old now victim k zero right up fits none = let same : k ≡ k + 0 = omega arith in rw same at up
up_to_passed layout old now victim k (suc n) right up fits none =
    let before = up_to_passed layout old now victim k n right up (omega arith) (λ page from to. none page from (omega arith)) in
    let image = image_of layout now.words in
    let page = layout.pool_first + (k + n) in
    let code : IsFaithful layout image now.words = rw before.same_image before.code in
    let pool : IsPool layout page = record { from = omega arith; to = omega arith } in
    let stubless = nothing_to_unlink _ _ _ _ _ code pool (λ run. no_stubs_into _ _ _ _ run (λ j below. none page (omega arith) (omega arith) j (omega arith))) in
    let done = up_to_next layout old now now victim (k + n) right before (omega arith) (ap (perform now) stubless) in
    subst (UpTo layout old now victim) (omega arith) done

-- the pages below one are done, where those from another on have no jump into the victim
pub up_to_page : (layout : Layout) (old now : Memory) (victim from page : ℕ) → IsRight layout → layout.pool_first ≤ from → from ≤ page → page ≤ layout.pool_first + layout.pool_pages
    → UpTo layout old now victim (from - layout.pool_first)
    → ((lower : ℕ) → from ≤ lower → lower < page → HasNoJumpInto now.words lower victim) → UpTo layout old now victim (page - layout.pool_first)
up_to_page layout old now victim from page right start order end up none =
    let k = from - layout.pool_first in
    let n = page - from in
    subst (UpTo layout old now victim) (omega arith) (up_to_passed layout old now victim k n right up (omega arith) (λ lower above below. none lower (omega arith) (omega arith)))

-- .. and that one too
pub up_to_done : (layout : Layout) (old now next : Memory) (victim page : ℕ) → IsRight layout → layout.pool_first ≤ page → page < layout.pool_first + layout.pool_pages
    → UpTo layout old now victim (page - layout.pool_first)
    → perform now (unlinking (image_of layout now.words) now.words victim page) ≡ record { memory = next; stop = None } → UpTo layout old next victim (page + 1 - layout.pool_first)
up_to_done layout old now next victim page right from to up performed =
    let k = page - layout.pool_first in
    let here : page ≡ layout.pool_first + k = omega arith in
    let same : suc k ≡ page + 1 - layout.pool_first = omega arith in
    rw same at (up_to_next layout old now next victim k right up (omega arith) (ap (λ p. perform now (unlinking (image_of layout now.words) now.words victim p)) (sym here) ∙ performed))

-- the next page, refused: no further page is done
stopped_stays : (image : List ℕ) (victim first k n : ℕ) (old new : Memory) (stop : ResolveStop) → unresolved image victim first k old ≡ record { memory = new; stop = Some stop } → k ≤ n
    → unresolved image victim first n old ≡ record { memory = new; stop = Some stop }
stopped_stays image victim first k zero old new stop is near = let same : 0 ≡ k = omega arith in ap (λ j. unresolved image victim first j old) same ∙ is
stopped_stays image victim first k (suc n) old new stop is near = elim (cases_eq k (suc n)) [
  | inl same ↦ ap (λ j. unresolved image victim first j old) (sym same) ∙ is
  | inr apart ↦ (
      let more : Performed → Performed = λ p. then_on p (λ m. perform m (unlinking image m.words victim (first + n))) in
      ap more (stopped_stays image victim first k n old new stop is (omega arith)))
]

pub record IsStopped (layout : Layout) (old new : Memory) (victim : ℕ) (stop : ResolveStop) : Type 0 where
  pub performed : unresolved (image_of layout old.words) victim layout.pool_first layout.pool_pages old ≡ record { memory = new; stop = Some stop }
  pub code : IsFaithful layout (image_of layout old.words) (mended new.words (Some stop))
  pub same_image : image_of layout (mended new.words (Some stop)) ≡ image_of layout old.words
  pub entries : (a v : ℕ) → IsEntry layout old.words a v → IsEntry layout (mended new.words (Some stop)) a v
  pub ops : new.ops ≤ old.ops + 2 * layout.pool_pages
  pub uses : (page : ℕ) → is_used (mended new.words (Some stop)) page ≡ is_used old.words page

pub up_to_stop : (layout : Layout) (old now new : Memory) (victim k : ℕ) (stop : ResolveStop) → IsRight layout → UpTo layout old now victim k → k < layout.pool_pages
    → perform now (unlinking (image_of layout now.words) now.words victim (layout.pool_first + k)) ≡ record { memory = new; stop = Some stop } → IsStopped layout old new victim stop
up_to_stop layout old now new victim k stop right up below performed =
    let image = image_of layout old.words in
    let page = layout.pool_first + k in
    let pool : IsPool layout page = record { from = omega arith; to = omega arith } in
    let same = ap (λ i. perform now (unlinking i now.words victim page)) (sym up.same_image) ∙ performed in
    let here : OneTold layout image now victim page (record { memory = new; stop = Some stop }) = rw same at (one_told layout image now victim page right up.code pool) in
    let more : Performed → Performed = λ p. then_on p (λ m. perform m (unlinking image m.words victim page)) in
    record {
      performed = stopped_stays image victim layout.pool_first (suc k) layout.pool_pages old new stop (ap more up.performed ∙ same) (omega arith);
      code = here.code;
      same_image = here.same_image ∙ up.same_image;
      entries = λ a v entry. here.entries a v (up.entries a v entry);
      uses = λ p. here.uses p ∙ up.uses p;
      ops = (let more_ops = here.ops in let before = up.ops in omega arith);
    }

-- .. in the page's own number
pub up_to_stopped : (layout : Layout) (old now new : Memory) (victim page : ℕ) (stop : ResolveStop) → IsRight layout → layout.pool_first ≤ page → page < layout.pool_first + layout.pool_pages
    → UpTo layout old now victim (page - layout.pool_first)
    → perform now (unlinking (image_of layout now.words) now.words victim page) ≡ record { memory = new; stop = Some stop } → IsStopped layout old new victim stop
up_to_stopped layout old now new victim page stop right from to up performed =
    let k = page - layout.pool_first in
    up_to_stop layout old now new victim k stop right up (omega arith) (ap (λ p. perform now (unlinking (image_of layout now.words) now.words victim p)) (sym (omega arith)) ∙ performed)
