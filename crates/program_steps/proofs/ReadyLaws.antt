-- A step keeps the machine ready.
use Rattle.program_steps.proofs.Awaiting.{due_reached}
use Rattle.std.proofs.Common.{suc, ◌≡◌, ℕ, ◌+◌, ◌-◌, ◌*◌, ◌%◌, ◌<◌, ◌≤◌, ◌==◌, Bool, true, false, List, refl, sym, ap, ap₂, ◌∙◌, arith}
use Rattle.std.proofs.Math.Nat.{mod-lt, mod-eq_of_lt, mod_self, suc-mod}
use Rattle.std.proofs.Math.Numerals.{suc-eq-add-one}
use Rattle.std.specs.Prelude.{◌≢◌, ◌&&◌, ◌||◌, Option, Some, None, IfSome, if◌then◌else◌}
use Rattle.std.proofs.lemmas.Bool.{and_parts}
use Rattle.std.proofs.lemmas.Bool.Decides.{nat_tests}
use Rattle.avr_isa.specs.Crossing.{is_crossing}
use Rattle.flash_words.specs.Memory.{Memory}
use Rattle.flash_words.specs.declared.layout.Layout.{Layout}
use Rattle.sram_layout.specs.Bytes.{data_word_at}
use Rattle.sram_layout.specs.Cells.{ring_cell}
use Rattle.sram_layout.specs.Regions.{KeepsRegion, place_cells}
use Rattle.page_index.specs.Maps.{IsPool}
use Rattle.branch_bridge.specs.Arrivals.{ring_of}
use Rattle.kernel_entry.specs.declared.kernel.Owed.{Owed}
use Rattle.kernel_entry.specs.declared.kernel.End.{End}
use Rattle.kernel_entry.specs.declared.kernel.End.TheVariants as ends
use Rattle.addr_tables.proofs.TableLaws.{tables_kept}
use Rattle.preempt_count.specs.Counting.{count_over, is_checkpoint}
use Rattle.kernel_entry.specs.Seen.{count_of}
use Rattle.step_laws.specs.Moves.{Begin}
use Rattle.step_laws.specs.Bounds.{AreBounded}
use Rattle.step_laws.proofs.BoundLaws.{is_one, keep_bounds}
use Rattle.step_laws.specs.Numbers.{Numbers, moved, numbered}
use Rattle.step_laws.specs.States.{State}
use Rattle.flat_machine.specs.declared.part.Part.{Part}
use Rattle.step_laws.specs.Links.{links_of}
use Rattle.step_laws.specs.StepLaws.{moves_of, GoesTo, Reaches, Keeps, crossings_over, links_at}
use Rattle.program_steps.specs.Machines.{Machine, state_of, numbers_of}
use Rattle.program_steps.specs.Ready.{count_in, HasFault, AreTried, IsInOrder, IsGoing, AreArrivals, most_arrivals}
use Rattle.program_steps.specs.Loop.{LawOf, Taken}
use Rattle.program_steps.proofs.Bounds.{arrivals_first}

pub ring_kept : (m n : List ℕ) → KeepsRegion place_cells m n → ring_of n ≡ ring_of m
unfolding data_word_at
ring_kept m n same = ap₂ (λ low high. low + 256 * high) (same ring_cell (omega arith) (omega arith)) (same (ring_cell + 1) (omega arith) (omega arith))

-- where no operation was refused, none was outside the pool
pub no_refusal : (refused : Option ℕ) (layout : Layout) → (refused ≢ None → ⊥) → IfSome refused (IsPool layout)
no_refusal None layout never = tt
no_refusal (Some page) layout never = absurd (never (λ none. let e : Some page ≡ None = none in cc))

-- no operation on flash is tried in a step, however it ends
tried_on : {m : Machine} (end : Option End) → IsGoing m → AreTried m.kernel.layout m.kernel.mote.flash end m.torn
tried_on {m} end ready =
    let before = ready.order.tried in
    let never : HasFault m → ⊥ = λ fault. (let e : Some (ends.Flash fault.0) ≡ None = sym fault.1 ∙ ready.going in absurd (cc)) in
    record {
      listed = λ op from to there. absurd (never (op, before.listed op from to there));
      refused = λ some. absurd (never (before.refused some));
      pool = before.pool;
      torn = rw ready.untorn tt;
    }

-- what is in order stays so
pub order_on : {old : Machine} (new : Machine) → Keeps (state_of old) (state_of new) → new.torn ≡ old.torn → new.pages ≡ old.pages → IsGoing old → IsInOrder new
order_on {old} new keeps torn same ready =
    let order = ready.order in
    let k = old.kernel in
    let n = new.kernel in
    record {
      layout = rw keeps.layout order.layout;
      right = rw keeps.layout order.right;
      faithful = rw (keeps.layout, keeps.flash, torn) order.faithful;
      part = rw (keeps.part, keeps.layout) order.part;
      parted = rw (keeps.layout, keeps.flash, torn, keeps.part) order.parted;
      tables = rw (keeps.layout, keeps.flash, torn) (tables_kept k.layout k.mote.sram n.mote.sram _ _ (λ a from to. keeps.tables a (omega arith) to) (λ t v entry. entry) order.tables);
      paged = keeps.paged;
      whole = rw keeps.flash order.whole;
      registers = omega (arith, keeps.registers, order.registers);
      pointer = keeps.pointer;
      quantum = rw keeps.quantum order.quantum;
      pages = rw (keeps.layout, keeps.flash, torn, same) order.pages;
      ring = rw keeps.layout (omega (arith, ring_kept k.mote.sram n.mote.sram keeps.tables, order.ring));
      tried = rw (keeps.layout, keeps.flash, torn) (tried_on new.end ready);
    }

count_range : (b c : Bool) (q count : ℕ) → 1 ≤ count → count ≤ q → (count == 1) ≡ c
    → (1 ≤ (if b then (if c then q else count - 1) else count)) × ((if b then (if c then q else count - 1) else count) ≤ q)
count_range false c q count some most one = (some, most)
count_range true true q count some most one = (omega arith, omega arith)
count_range true false q count some most more = let apart : count ≢ 1 = grind (arith, nat_tests) in (omega arith, omega arith)

pub counted_same : {n n' : Numbers} {c c' q q' k k' a a' : ℕ} → n ≡ n' → c ≡ c' → q ≡ q' → k ≡ k' → a ≡ a' → AreBounded n' c' q' k' a' → AreBounded n c q k a
counted_same en ec eq ek ea counted = rw (en, ec, eq, ek, ea) counted

-- where control stands, by equal parts of the machine
pub reaches_as : {p p' : Part} {l l' : Layout} {f f' : Memory} {t t' : ℕ} {d d' : Bool} {x x' : State} → p ≡ p' → l ≡ l' → f ≡ f' → t ≡ t' → d ≡ d' → x ≡ x'
    → Reaches (links_of p' l' f'.words) t' d' x' → Reaches (links_of p l f.words) t d x
reaches_as ep el ef et ed ex reached = rw (ep, el, ef, et, ed, ex) reached

-- COUNT follows from the crossings
mod_on : (q c : ℕ) → c % q + 1 < q → (c + 1) % q ≡ c % q + 1
mod_on q c less = (let h : suc (c % q) < q = omega arith in ap (λ k. k % q) (sym (suc-eq-add-one c)) ∙ suc-mod c q ∙ mod-eq_of_lt h ∙ suc-eq-add-one (c % q))

mod_round : (q c : ℕ) → c % q + 1 ≡ q → (c + 1) % q ≡ 0
mod_round q c is = ap (λ k. k % q) (sym (suc-eq-add-one c)) ∙ suc-mod c q ∙ ap (λ k. k % q) (suc-eq-add-one (c % q) ∙ is) ∙ mod_self q

mod_over : (k : Bool) (q c count : ℕ) → 1 ≤ q → count ≡ q - c % q → (count == 1) ≡ k → (c + 1) % q ≡ (if k then 0 else c % q + 1)
mod_over true q c count some is one =
    let less : c % q < q = mod-lt c some in
    let is_one : count ≡ 1 = grind (arith, nat_tests) in
    mod_round q c (omega arith)
mod_over false q c count some is one =
    let less : c % q < q = mod-lt c some in
    let apart : count ≢ 1 = grind (arith, nat_tests) in
    mod_on q c (omega arith)

exact_on : (b k : Bool) (q c count : ℕ) → 1 ≤ q → count ≡ q - c % q → (count == 1) ≡ k → (if b then (if k then q else count - 1) else count) ≡ q - (if b then c + 1 else c) % q
exact_on false k q c count some is one = is
exact_on true true q c count some is one = omega (arith, mod_over true q c count some is one)
exact_on true false q c count some is one = omega (arith, mod_over false q c count some is one)

-- a step is a checkpoint of the original program where COUNT was 1 and it is a crossing
last_by : (b k : Bool) (q c count : ℕ) → 1 ≤ q → count ≡ q - c % q → (count == 1) ≡ k → b && ((if b then c + 1 else c) % q == 0) ≡ b && k
last_by false k q c count some is last = refl
last_by true true q c count some is last = let round = mod_over true q c count some is last in grind (arith, nat_tests)
last_by true false q c count some is last = let on = mod_over false q c count some is last in grind (arith, nat_tests)

pub last_on : (q from to c count : ℕ) → 1 ≤ count → count ≤ q → count ≡ q - c % q → is_crossing from to && (crossings_over from to c % q == 0) ≡ is_checkpoint from to count
last_on q from to c count one most is = last_by (is_crossing from to) (count == 1) q c count (omega arith) is refl

-- a step makes room for one arrival
most_owed : (owed owed' : Option Owed) (n : ℕ) → most_arrivals owed n ≤ most_arrivals owed' (n + 1)
most_owed (Some a) (Some b) n = omega arith
most_owed (Some a) None n = omega arith
most_owed None (Some b) n = omega arith
most_owed None None n = omega arith

arrivals_on : {n : Numbers} (n' : Numbers) (owed owed' : Option Owed) → n'.pages ≡ n.pages → n'.began ≡ n.began → n'.others ≡ n.others → n'.ops ≡ n.ops → n'.steps ≡ n.steps + 1
    → AreArrivals n (most_arrivals owed n.steps) → AreArrivals n' (most_arrivals owed' n'.steps)
arrivals_on {n} n' owed owed' pages began others ops steps before =
    let more : most_arrivals owed n.steps ≤ most_arrivals owed' n'.steps = rw steps (most_owed owed owed' n.steps) in
    record { pages = omega (arith, more, before.pages); ops = omega (arith, more, before.ops); few = omega (arith, before.few) }

-- behind a checkpoint no plain step has been made since the last service
fresh_by : (from to count : ℕ) (wakes : Bool) (since : ℕ) → (wakes ≡ true → since ≡ 0) → (is_crossing from to ≡ true → count ≡ 1 → since ≡ 0) → (wakes || is_checkpoint from to count) ≡ true
    → since ≡ 0
fresh_by from to count true since fresh reset on = fresh refl
fresh_by from to count false since fresh reset on = let both = and_parts (is_crossing from to) (count == 1) on in reset both.0 (is_one count both.1)

-- the step that goes on
pub ready_on : {old new : Machine} {law : LawOf old} (to : ℕ) → IsGoing old → Taken old new law → new.at ≡ to → new.crossings ≡ crossings_over old.at to old.crossings
    → GoesTo (links_at (state_of old)) (state_of old) old.at law.line law.rest to law.end → new.torn ≡ old.torn → IsGoing new
unfolding moved
ready_on {old} {new} {law} to ready taken at crossings goes torn =
    let n = numbers_of old in
    let keeps : Keeps (state_of old) (state_of new) = rw taken.state law.keeps in
    let bounds = keep_bounds (state_of old) old.at to old.crossings law n ready.some ready.most ready.counted goes in
    let ended : count_in new ≡ count_of law.end.kernel = ap (λ (s : State). count_of s.kernel) taken.state in
    let same : count_in new ≡ count_over old.kernel.quantum old.at to (count_in old) = ended ∙ goes.count in
    let range = count_range (is_crossing old.at to) ((count_in old) == 1) old.kernel.quantum (count_in old) ready.some ready.most refl in
    let part = old.kernel.part in
    let polls = ready.polls in
    let polls' = keeps.polls in
    let steps : new.steps ≡ old.steps + 1 = ap (λ (k : Numbers). k.steps) taken.numbers ∙ bounds.0 in
    let arrivals = arrivals_first law.first law.rest n in
    let pages = ap (λ (k : Numbers). k.pages) taken.numbers ∙ arrivals.pages in
    let began = ap (λ (k : Numbers). k.began) taken.numbers ∙ arrivals.began in
    let others = ap (λ (k : Numbers). k.others) taken.numbers ∙ arrivals.others in
    let due = due_reached new taken.state goes.reaches in
    let since = fresh_by old.at to (count_in old) goes.wakes (numbered (moves_of law) n).since (λ w. goes.fresh w (moved (Begin law.first) n))
    (λ crosses one. goes.reset crosses one (moved (Begin law.first) n)) in
    record {
      order = order_on new keeps torn pages ready;
      going = ap (λ (s : State). s.end) taken.state ∙ goes.going;
      untorn = torn ∙ ready.untorn;
      top = keeps.top;
      some = omega (arith, same, range.0);
      most = omega (arith, same, range.1, keeps.quantum);
      stands = reaches_as keeps.part keeps.layout keeps.flash at due taken.state goes.reaches;
      counted = counted_same taken.numbers crossings keeps.quantum ended at bounds.2;
      arrivals = arrivals_on (numbers_of new) old.owed new.owed pages began others (ap (λ (f : Memory). f.ops) keeps.flash) steps ready.arrivals;
      polls = omega arith;
      fresh = λ on. ap (λ (k : Numbers). k.since) taken.numbers ∙ since (sym due ∙ on);
      exact = same ∙ (exact_on (is_crossing old.at to) ((count_in old) == 1) old.kernel.quantum old.crossings (count_in old) (omega (arith, ready.some, ready.most)) ready.exact refl)
          ∙ ap₂ (λ q c. q - c % q) (sym keeps.quantum) (sym crossings);
    }
