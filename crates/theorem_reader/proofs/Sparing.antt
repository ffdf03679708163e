-- A whole run that recycles no page: each page was erased at most once for each JMP that it has more.
use Rattle.std.proofs.Common.{◌≡◌, ℕ, ◌+◌, ◌≤◌, ◌==◌, min, Bool, true, false, List, [], ◌∷◌, length, Option, Some, refl, sym, ap, ◌∙◌, subst, arith}
use Rattle.std.specs.Prelude.{if◌then◌else◌}
use Rattle.std.specs.List.{list_any}
use Rattle.std.proofs.Math.Nat.{min-le_left}
use Rattle.flash_words.specs.declared.layout.Layout.{Layout}
use Rattle.flash_words.specs.Layouts.{layout_of, image_of, IsRight}
use Rattle.flash_words.specs.Memory.{Memory, new_flash}
use Rattle.flash_words.proofs.LoadedLaws.{loaded_page}
use Rattle.nat_page.specs.Faithful.{IsFaithful}
use Rattle.nat_page.specs.Used.{used_pages}
use Rattle.nat_page.proofs.UsedLaws.{none_used}
use Rattle.branch_bridge.specs.declared.through.Arrival.{Arrival as BridgeArrival}
use Rattle.branch_bridge.specs.Operating.{with_torn}
use Rattle.branch_bridge.specs.Tried.{Tried}
use Rattle.branch_bridge.specs.Arrivals.{Store, ArrivesFrom, CameThrough, KeptThrough, torn_by, stopped_by}
use Rattle.program_steps.proofs.Arriving.{Answered, answered}
use Rattle.program_steps.proofs.Arrived.{after_arrived}
use Rattle.step_laws.specs.Moves.{Plain, Move, Within, Arrive}
use Rattle.step_laws.specs.States.{State, mote_of, store_of}
use Rattle.step_laws.specs.Walks.{Walk, MakesArrive}
use Rattle.theorem_reader.specs.Acts.{made_in}
use Rattle.theorem_reader.specs.Wear.{IsSpared}
use Rattle.theorem_reader.proofs.Acting.{acts_of, Holds, beyond_is, comes_by, follow, StaysBy, stays_by, holds_still}
use Rattle.theorem_reader.proofs.NextPage.{own_code}
use Rattle.theorem_reader.proofs.Wearing.{spares_self, spares_on, arrival_spares}

-- the operation of this number is listed
abbrev listed_in : Memory → ℕ → Bool
listed_in m op = list_any (λ n. n == op) m.failing

abbrev NoneListed : Memory → (last : ℕ) → Type 0
NoneListed m last = (op : ℕ) → 1 ≤ op → op ≤ last → listed_in m op ≡ false

-- An arrival, behind which so many operations were tried. -------------------------------------------------

record Sparing (layout : Layout) (old new : Memory) (made : Bool) : Type 0 where
  spares : IsSpared old new
  used : used_pages layout new.words ≤ used_pages layout old.words + (if made then 1 else 0)

spared_by : (layout : Layout) (old new : Store) (t last : ℕ) (stub : Option ℕ) (arrival : BridgeArrival) → IsRight layout → IsFaithful layout (image_of layout old.flash.words) old.flash.words
    → CameThrough layout old.flash.words stub t → KeptThrough layout old new t arrival → NoneListed old.flash last → new.flash.ops ≤ last
    → used_pages layout old.flash.words + (if arrival.made then 1 else 0) ≤ layout.pool_pages → ArrivesFrom layout old new t stub arrival → Answered layout old new t arrival
    → Sparing layout old.flash new.flash arrival.made
spared_by layout old new t last stub arrival right code came kept unlisted tried fits from (Answered.Wild is outside) =
    rw (ap (λ (s : Store). s.flash) (beyond_is layout old new t stub arrival outside from).0) (record { spares = spares_self old.flash; used = omega arith })
spared_by layout old new t last stub arrival right code came kept unlisted tried fits from (Answered.Failed stop is inside) =
    let operations : Tried layout old.flash new.flash (Some stop) = subst (λ r. Tried layout old.flash new.flash (stopped_by r)) is kept.tried in
    let refusal = operations.refused in
    let both : true ≡ false = sym refusal.listed ∙ unlisted stop.op (omega (arith, refusal.later)) (omega (arith, refusal.last, tried)) in
    absurd (cc)
spared_by layout old new t last stub arrival right code came kept unlisted tried fits from (Answered.In place there none inside) =
    let used : used_pages layout new.flash.words ≡ min (used_pages layout old.flash.words + (if arrival.made then 1 else 0)) layout.pool_pages =
    subst (λ r. used_pages layout (with_torn new.flash.words (torn_by r)) ≡ min (used_pages layout old.flash.words + (if arrival.made then 1 else 0)) layout.pool_pages) none kept.used in
    record {
      spares = arrival_spares layout old new t stub arrival right code came none fits from;
      used = omega (arith, used, min-le_left (used_pages layout old.flash.words + (if arrival.made then 1 else 0)) layout.pool_pages);
    }

listed_stay : (x y : State) (target : ℕ) (made : Bool) (ops : ℕ) → MakesArrive x target made ops y → (mote_of y).flash.failing ≡ (mote_of x).flash.failing
listed_stay x y target made ops makes = ap (λ (s : Store). s.flash.failing) (after_arrived x y makes.store makes.arrival makes.after).store_is ∙ makes.kept.tried.failing

-- Walks. --------------------------------------------------------------------------------------------------

-- how many operations were tried never falls, nor does it change which are to fail
pub record GoesOn (x z : State) : Type 0 where
  pub rises : (mote_of x).flash.ops ≤ (mote_of z).flash.ops
  pub failing : (mote_of z).flash.failing ≡ (mote_of x).flash.failing

pub goes_on : (x : State) (moves : List Move) (z : State) → Walk x moves z → GoesOn x z
goes_on x [] z walk = record { rises = omega (arith, ap (λ (s : State). (mote_of s).flash.ops) walk); failing = ap (λ (s : State). (mote_of s).flash.failing) (sym walk) }
goes_on x (Arrive target made ops ∷ moves) z walk =
    let later = goes_on walk.0 moves z walk.2 in
    let counted : (mote_of walk.0).flash.ops ≡ (mote_of x).flash.ops + ops = ap (λ (s : Store). s.flash.ops) (after_arrived x walk.0 walk.1.store walk.1.arrival walk.1.after).store_is
    ∙ walk.1.tried in
    record { rises = omega (arith, counted, later.rises); failing = later.failing ∙ listed_stay x walk.0 target made ops walk.1 }
goes_on x (move ∷ moves) z walk =
    let later = goes_on walk.0 moves z walk.2 in
    let flash = (stays_by x move walk.0 walk.1 tt).flash in
    record { rises = omega (arith, ap (λ (m : Memory). m.ops) flash, later.rises); failing = later.failing ∙ ap (λ (m : Memory). m.failing) flash }

-- the arrival of a walk
arrival_spared : (image : List ℕ) (quantum : ℕ) (x y : State) (target last : ℕ) (made : Bool) (ops : ℕ) → Holds image quantum x → MakesArrive x target made ops y → NoneListed (mote_of x).flash last
    → (mote_of y).flash.ops ≤ last → used_pages (layout_of (length image)) (mote_of x).flash.words + (if made then 1 else 0) ≤ (layout_of (length image)).pool_pages
    → Sparing (layout_of (length image)) (mote_of x).flash (mote_of y).flash made
arrival_spared image quantum x y target last made ops holds makes unlisted tried fits =
    let l = layout_of (length image) in
    let both = comes_by image quantum x y target made ops holds makes in
    let comes = both.0 in
    subst (Sparing l (mote_of x).flash (mote_of y).flash) makes.makes
    (spared_by l (store_of x) (store_of y) target last makes.owed.stub makes.arrival comes.begun.right (own_code image (store_of x) comes.begun) comes.came both.1 unlisted tried
    (rw makes.makes fits) comes.from (answered l (store_of x) (store_of y) target makes.owed.stub makes.arrival comes.from))

-- what is asked of a walk, where flash stays
abbrev Asks : List ℕ → Memory → (made last : ℕ) → Type 0
Asks image m made last = (used_pages (layout_of (length image)) m.words + made ≤ (layout_of (length image)).pool_pages) × NoneListed m last

still_spares : (image : List ℕ) (x y : State) (new : Memory) (made last : ℕ) → StaysBy x y → (Asks image (mote_of y).flash made last → IsSpared (mote_of y).flash new)
    → Asks image (mote_of x).flash made last → IsSpared (mote_of x).flash new
still_spares image x y new made last stays rest asks =
    subst (λ (m : Memory). IsSpared m new) stays.flash (rest (subst (λ (m : Memory). Asks image m made last) (sym stays.flash) asks))

pub walk_spares : (image : List ℕ) (quantum : ℕ) (x : State) (moves : List Move) (z : State) (walk : Walk x moves z) → Holds image quantum x
    → Asks image (mote_of x).flash (made_in (acts_of x moves z walk)) (mote_of z).flash.ops → IsSpared (mote_of x).flash (mote_of z).flash
walk_spares image quantum x [] z walk holds asks = subst (λ (s : State). IsSpared (mote_of x).flash (mote_of s).flash) walk (spares_self (mote_of x).flash)
walk_spares image quantum x (Arrive target made ops ∷ moves) z walk holds asks =
    let y = walk.0 in
    let l = layout_of (length image) in
    let later = made_in (acts_of y moves z walk.2) in
    let last = (mote_of z).flash.ops in
    let one = follow image quantum x (Arrive target made ops ∷ []) y (y, walk.1, refl) holds in
    let spared = arrival_spared image quantum x y target last made ops holds walk.1 asks.1 (goes_on y moves z walk.2).rises (omega (arith, asks.0)) in
    let unlisted : NoneListed (mote_of y).flash last = λ op low high. ap (list_any (λ n. n == op)) (listed_stay x y target made ops walk.1) ∙ asks.1 op low high in
    spares_on (mote_of x).flash (mote_of y).flash (mote_of z).flash spared.spares (walk_spares image quantum y moves z walk.2 one.holds (omega (arith, spared.used, asks.0), unlisted))
walk_spares image quantum x (Within (Plain line) ∷ moves) z walk holds asks =
    let stays = stays_by x (Within (Plain line)) walk.0 walk.1 tt in
    still_spares image x walk.0 (mote_of z).flash _ _ stays (walk_spares image quantum walk.0 moves z walk.2 (holds_still image quantum x walk.0 holds stays)) asks
walk_spares image quantum x (move ∷ moves) z walk holds asks =
    let stays = stays_by x move walk.0 walk.1 tt in
    still_spares image x walk.0 (mote_of z).flash _ _ stays (walk_spares image quantum walk.0 moves z walk.2 (holds_still image quantum x walk.0 holds stays)) asks

-- From boot. ----------------------------------------------------------------------------------------------

-- no page of the pool is used
pub new_unused : (image failing : List ℕ) → IsRight (layout_of (length image)) → used_pages (layout_of (length image)) (new_flash image failing).words ≡ 0
new_unused image failing right = none_used (layout_of (length image)) (new_flash image failing).words
    (λ page pool. loaded_page image page (omega (arith, right.image_below_pool, pool.from)) (omega (arith, pool.to, right.pool_below_kernel)))
