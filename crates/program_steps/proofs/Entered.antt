-- What the arrival that is owed leaves of the machine.
use Rattle.avr_flags.specs.Status.{has_bit, interrupts}
use Rattle.mote_devices.specs.Waking.{is_enabled}
use Rattle.flat_machine.specs.FlatMachine.{is_taken, is_own}
use Rattle.program_steps.proofs.Awaiting.{awaits_some, awaits_none, some_same}
use Rattle.std.proofs.Common.{◌≡◌, ℕ, ◌+◌, ◌-◌, ◌%◌, ◌<◌, ◌≤◌, Bool, true, false, [], ◌∷◌, refl, sym, ap, ap₂, ◌∙◌, arith, subst}
use Rattle.std.specs.Prelude.{◌&&◌, is_some, ◌^◌, Option, Some, None}
use Rattle.program_steps.proofs.Owning.{beyond_own, admitted_own, admitted_number, open_admits}
use Rattle.flash_words.specs.Memory.{IsWhole}
use Rattle.branch_bridge.specs.declared.rewriting.ResolveStop.{ResolveStop}
use Rattle.branch_bridge.specs.declared.through.Arrival.{Arrival}
use Rattle.flash_words.specs.Operations.{is_listed}
use Rattle.branch_bridge.specs.Tried.{Tried}
use Rattle.branch_bridge.specs.Arrivals.{KeepsOtherBytes, refused_by, torn_by}
use Rattle.kernel_entry.specs.declared.kernel.Owed.{Owed}
use Rattle.kernel_entry.specs.declared.kernel.End.{End}
use Rattle.kernel_entry.specs.declared.kernel.End.TheVariants as ends
use Rattle.step_laws.specs.Moves.{Arrive, lines_of}
use Rattle.step_laws.specs.Numbers.{moved, one_if}
use Rattle.step_laws.specs.States.{Awaited, is_taken_at, store_of, placed, arrived}
use Rattle.step_laws.specs.Walks.{MakesArrive}
use Rattle.step_laws.specs.StepLaws.{Reaches}
use Rattle.program_steps.specs.Machines.{Machine, awaited, state_of, numbers_of, flat_of}
use Rattle.program_steps.specs.Ready.{count_in, IsGoing, IsQuiet, IsEnded, AreArrivals, IsExact}
use Rattle.program_steps.specs.Stepping.{IsArrival, Goes, IsFault, Entering, HasEntered, HasBound}
use Rattle.kernel_entry.specs.Interrupts.{is_wanted}
use Rattle.program_steps.specs.Interrupts.{IsUntaken}
use Rattle.program_steps.specs.Loop.{HasArrived}
use Rattle.program_steps.proofs.Arriving.{Answered}
use Rattle.program_steps.proofs.Arrived.{place_inside, owed_at, awaited_at, flat_parts, Arrived, arrived_by, order_arrived}
use Rattle.program_steps.proofs.Leading.{stays_self}
use Rattle.program_steps.proofs.OneBehindOther.{let_in}
use Rattle.program_steps.proofs.OutsideTables.{outside_count}
use Rattle.program_steps.proofs.ReadyLaws.{counted_same}
use Rattle.step_laws.specs.Bounds.{AreBounded}
use Rattle.program_steps.proofs.Bounds.{bounded_counted, most_owed}

pub entered_none : {m : Machine} → IsGoing m → IsQuiet m → m.owed ≡ None → HasEntered m m None
unfolding lines_of
entered_none {m} ready quiet placed =
    record {
      moves = [];
      goes = record { walk = refl; told = refl; numbers = refl };
      stays = stays_self m;
      broken = refl;
      steps = refl;
      flat = refl;
      arrives = IsArrival.NoArrival refl;
      way = Entering.In ready placed (place_inside ready placed) (ap (λ d. d && (has_bit m.kernel.mote.cpu.sreg interrupts && is_enabled m.kernel.mote.devices)) (quiet placed));
    }

exact_same : (old new : Machine) → KeepsOtherBytes old.kernel.mote.sram new.kernel.mote.sram → new.kernel.quantum ≡ old.kernel.quantum → new.crossings ≡ old.crossings → IsExact old → IsExact new
exact_same old new rest quantum crossings is = outside_count rest ∙ is ∙ ap₂ (λ q c. q - c % q) (sym quantum) (sym crossings)

-- the numbers
counted_arrived : {old new : Machine} {arrival : Arrival} → Arrived old new arrival → IsGoing old → AreBounded (numbers_of new) new.crossings new.kernel.quantum (count_in new) new.at
counted_arrived {old} {new} told ready =
    let count : count_in new ≡ count_in old = outside_count told.rest in
    counted_same refl told.crossings told.after.quantum count told.at (told.numbers.bounded old.crossings old.kernel.quantum (count_in old) old.at ready.counted)

one_most : (made : Bool) → one_if made ≤ 1
one_most true = omega arith
one_most false = omega arith

-- the arrival was one more
arrivals_arrived : {old new : Machine} {arrival : Arrival} → Arrived old new arrival → IsGoing old → AreArrivals (numbers_of new) (new.steps + 1)
arrivals_arrived {old} {new} {arrival} told ready =
    let before : AreArrivals (numbers_of old) old.steps = rw told.owed at ready.arrivals in
    let right = ready.order.right in
    let now = told.numbers in
    record {
      pages = omega (arith, now.pages, now.began, now.others, now.steps, before.pages, one_most arrival.made);
      ops = omega (arith, now.others, now.steps, before.ops, told.kept.ops, right.pool_first, right.pool_below_kernel);
      few = omega (arith, now.began, now.others, before.few);
    }

polls_arrived : {old new : Machine} {arrival : Arrival} → Arrived old new arrival → IsGoing old → new.kernel.mote.devices.polls ≤ new.steps + 2 ^ 32
polls_arrived told ready =
    let polls = ready.polls in
    rw (told.after.devices, told.numbers.steps) polls

-- the program has ended
ended_arrived : {old new : Machine} {arrival : Arrival} (end : End) → Arrived old new arrival → IsGoing old → new.end ≡ Some end → IsEnded new
ended_arrived {old} {new} end told ready is = record {
  order = order_arrived told ready;
  bounded = bounded_counted (numbers_of new) new.crossings new.kernel.quantum (count_in new) new.at new.kernel.mote.devices.polls None (counted_arrived told ready) (arrivals_arrived told ready)
      (polls_arrived told ready);
  ended = λ going. let f : Some end ≡ None = sym is ∙ going in cc;
  exact = exact_same old new told.rest told.after.quantum told.crossings ready.exact;
}

going_arrived : {old new : Machine} {arrival : Arrival} (place : ℕ) → Arrived old new arrival → IsGoing old → arrival.place ≡ Some place → arrival.refused ≡ None → IsGoing new
going_arrived {old} {new} place told ready there none =
    let same = told.after in
    let on = told.goes_on none in
    let count : count_in new ≡ count_in old = outside_count told.rest in
    let entry = rw (there, none) at told.kept.entered in
    record {
      order = order_arrived told ready;
      going = on.0;
      untorn = told.torn ∙ ap torn_by none;
      top = same.sp ∙ ready.top;
      some = omega (arith, count, ready.some);
      most = omega (arith, count, ready.most, same.quantum);
      stands = Reaches.Placed (ap (λ o. is_some o && new.due) on.1) (awaits_none new on.1) (
        rw (same.layout, told.at, (told.pc place there)) entry,
        rw (same.part, told.at) (admitted_number old.at ready.order.part told.admitted),
      );
      counted = counted_arrived told ready;
      arrivals = rw on.1 (arrivals_arrived told ready);
      polls = polls_arrived told ready;
      fresh = λ due. absurd (let e : false ≡ true = sym (ap (λ o. is_some o && new.due) on.1) ∙ due in cc);
      exact = exact_same old new told.rest same.quantum told.crossings ready.exact;
    }

-- by what the arrival answered
fault_by : {old new : Machine} {arrival : Arrival} (stop : ResolveStop) → Arrived old new arrival → arrival.refused ≡ Some (refused_by stop) → IsFault new stop.op
fault_by {old} {new} stop told is =
    let before = old.kernel.mote.flash in
    let after = new.kernel.mote.flash in
    let tried : Tried old.kernel.layout before after (Some stop) = rw is at told.kept.tried in
    record {
      last = tried.refused.last;
      listed = ap (λ failing. is_listed failing stop.op) tried.failing ∙ tried.refused.listed;
      refused = λ none. let e : Some tried.refused.page ≡ None = sym tried.refused.told ∙ none in cc;
    }

way_by : {old : Machine} (new : Machine) (arrival : Arrival) → (told : Arrived old new arrival) → IsGoing old → (is_own old.kernel.part old.at ≡ true → is_taken (flat_of new) ≡ false)
    → Answered old.kernel.layout (store_of (state_of old)) (store_of (state_of new)) old.at arrival → Entering old new new.end
way_by {old} new arrival told ready untaken (Answered.Wild is outside) =
    let e : new.end ≡ Some (ends.Wild old.at) = told.refused _ is in
    subst (Entering old new) (sym e) (Entering.Out (ended_arrived (ends.Wild old.at) told ready e) e (beyond_own old.at ready.order.part outside))
way_by {old} new arrival told ready untaken (Answered.Failed stop is inside) =
    let e : new.end ≡ Some (ends.Flash stop.op) = told.refused (refused_by stop) is in
    subst (Entering old new) (sym e) (Entering.Failed stop.op (ended_arrived (ends.Flash stop.op) told ready e) e
    (admitted_own old.at ready.order.part told.admitted inside) (fault_by stop told is))
way_by {old} new arrival told ready untaken (Answered.In place there none inside) =
    let on = told.goes_on none in
    let within = admitted_own old.at ready.order.part told.admitted inside in
    subst (Entering old new) (sym on.0) (Entering.In (going_arrived place told ready there none) on.1 within (untaken within))

-- by an arrival that is made, no interrupt is to be taken
and_off : (b : Bool) → b && false ≡ false
and_off true = refl
and_off false = refl

and_inside : (d b c : Bool) → d && (b && c) ≡ false → b ≡ true → d && c ≡ false
and_inside d true c is inside = is
and_inside d false c is inside = absurd (cc)

pub awaited_due : (o : Option Owed) (d : Bool) (w : Awaited) → awaited o d ≡ Some w → w.due ≡ d
awaited_due None d w is = absurd (cc)
awaited_due (Some owed) d w is = sym (ap (λ (v : Awaited). v.due) (some_same is))

-- where none is due, none is taken instead of an arrival
pub undue_none : (m : Machine) → m.due ≡ false → IsUntaken m
undue_none m undue = λ w owes. ap (λ d. d && (is_own m.kernel.part w.target && is_wanted m.kernel)) (awaited_due m.owed m.due w owes ∙ undue)

pub untaken_by : (m : Machine) (w : Awaited) → (state_of m).owed ≡ Some w → IsGoing m → is_taken_at (state_of m) w ≡ false → is_own m.kernel.part m.at ≡ true → is_taken (flat_of m) ≡ false
untaken_by m w owes ready untaken inside =
    and_inside m.due (is_own m.kernel.part m.at) (has_bit m.kernel.mote.cpu.sreg interrupts && is_enabled m.kernel.mote.devices)
    (ap₂ (λ d t. d && (is_own m.kernel.part t && (has_bit m.kernel.mote.cpu.sreg interrupts && is_enabled m.kernel.mote.devices))) (sym (awaited_due m.owed m.due w owes))
    (sym (awaited_at w ready owes)) ∙ untaken) inside

goes_arrived : (old new : Machine) {t ops : ℕ} {made : Bool} → MakesArrive (state_of old) t made ops (state_of new) → numbers_of new ≡ moved (Arrive t made ops) (numbers_of old)
    → Goes old new (Arrive t made ops ∷ []) []
unfolding lines_of
goes_arrived old new makes numbers = record { walk = (state_of new, makes, refl); told = refl; numbers = numbers }

pub entered_some : {old new : Machine} → HasArrived old new → IsWhole new.kernel.mote.flash → IsGoing old → HasEntered old new new.end
entered_some {old} {new} arrived whole ready =
    let makes = arrived.makes in
    let told = arrived_by new arrived whole ready in
    let steps : new.steps ≡ old.steps = told.numbers.steps in
    let flat : flat_of new ≡ flat_of old =
    ap₂ (λ s d. record { now = s; due = d }) (flat_parts old new (store_of (state_of new)) told.after told.rest arrived.at steps arrived.crossings) arrived.due in
    record {
      moves = Arrive arrived.target arrived.made arrived.ops ∷ [];
      goes = goes_arrived old new makes arrived.numbers;
      stays = record {
        program = rw (told.image, told.after.swap, told.after.quantum, told.after.part);
        layout = told.after.layout;
        quantum = told.after.quantum;
        failing = told.kept.tried.failing;
      };
      broken = arrived.broken;
      steps = steps;
      flat = flat;
      arrives = subst (λ a. IsArrival a (Arrive arrived.target arrived.made arrived.ops ∷ [])) (makes.at ∙ awaited_at makes.owed ready makes.owes) (IsArrival.OneArrival arrived.made arrived.ops refl);
      way = way_by new makes.arrival told ready (λ inside. ap is_taken flat ∙ untaken_by old makes.owed makes.owes ready makes.untaken inside) told.answer;
    }

-- at the bound
pub bound_untaken : {m : Machine} (owed : Owed) → IsGoing m → m.owed ≡ Some owed → m.kernel.layout.image_words ≤ owed.target → IsUntaken m
bound_untaken {m} owed ready owes beyond w owes' =
    let same : owed.target ≡ w.target = ap (λ (v : Awaited). v.target) (some_same (sym (awaits_some m owed owes) ∙ owes')) in
    ap (λ b. w.due && (b && (has_bit m.kernel.mote.cpu.sreg interrupts && is_enabled m.kernel.mote.devices))) (beyond_own w.target ready.order.part (omega (arith, same, beyond)))
    ∙ and_off w.due

pub bound_inside : {m : Machine} (owed : Owed) → IsGoing m → m.kernel.part.shut ≡ false → m.owed ≡ Some owed → owed.target < m.kernel.layout.image_words → is_own m.kernel.part m.at ≡ true
bound_inside {m} owed ready unshut owes below = admitted_own m.at ready.order.part (open_admits m.kernel.part m.at unshut) (omega (arith, owed_at owed ready owes, below))

bound_outside : {m : Machine} (owed : Owed) → IsGoing m → m.owed ≡ Some owed → m.kernel.layout.image_words ≤ owed.target → is_own m.kernel.part m.at ≡ false
bound_outside {m} owed ready owes beyond = beyond_own m.at ready.order.part (omega (arith, owed_at owed ready owes, beyond))

bound_by : {m new : Machine} {result : Option End} (end : End) → is_own m.kernel.part m.at ≡ false → HasEntered m new result → Entering m new result → result ≡ Some end → HasBound m new end
bound_by end outside entered (Entering.In ready free inside untaken) is = absurd (cc)
bound_by {m} end outside entered (Entering.Out over kept out) is =
    let e : ends.Wild m.at ≡ end = cc in
    rw e at (HasBound.Leaves entered outside)
bound_by end outside entered (Entering.Failed op over kept inside fault) is = absurd (let e : true ≡ false = sym inside ∙ outside in cc)

pub bound_wild : {m new : Machine} (owed : Owed) {result : Option End} (end : End) → IsGoing m → m.owed ≡ Some owed → m.kernel.layout.image_words ≤ owed.target → HasEntered m new result
    → result ≡ Some end → HasBound m new end
bound_wild owed end ready owes beyond entered is = bound_by end (bound_outside owed ready owes beyond) entered entered.way is

pub bound_none : {m new : Machine} (owed : Owed) {result : Option End} → IsGoing m → m.owed ≡ Some owed → m.kernel.layout.image_words ≤ owed.target → HasEntered m new result → result ≡ None → ⊥
bound_none {m} {new} owed {result} ready owes beyond entered is = absurd (let e : true ≡ false = sym (let_in m new result entered is).inside ∙ bound_outside owed ready owes beyond in cc)

-- room for one page more, and for its operations
pub few_pages : {m : Machine} → IsGoing m → m.steps ≤ 10 ^ 12 → (m.pages < 2 ^ 62) × (m.kernel.mote.flash.ops < 2 ^ 61)
few_pages {m} ready steps =
    let most = most_owed m.owed m.steps in
    let arrivals = ready.arrivals in
    (omega (arith, most, arrivals.pages, arrivals.few), omega (arith, most, arrivals.ops, arrivals.few))
