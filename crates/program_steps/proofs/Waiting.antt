-- A program that waits stands as it did, over what another one has made of flash and the tables.
use Rattle.std.proofs.Common.{◌≡◌, ℕ, true, false, List, length, refl, sym, ap, ◌∙◌, arith, subst}
use Rattle.std.specs.Prelude.{◌≢◌, Option, Some, None, IfSome}
use Rattle.flash_words.specs.Operations.{is_listed}
use Rattle.flash_words.specs.declared.layout.Layout.{Layout}
use Rattle.addr_tables.proofs.TableLaws.{tables_kept}
use Rattle.branch_bridge.specs.declared.rewriting.Torn.{Torn}
use Rattle.branch_bridge.specs.Operating.{with_torn}
use Rattle.branch_bridge.specs.Tried.{IsTorn}
use Rattle.flat_machine.specs.FlatMachine.{is_own}
use Rattle.kernel_entry.specs.Parts.{image_held}
use Rattle.kernel_entry.specs.Seen.{program as program_of}
use Rattle.kernel_entry.specs.declared.kernel.End.{End}
use Rattle.kernel_entry.specs.declared.kernel.End.TheVariants as ends
use Rattle.step_laws.specs.States.{Awaited}
use Rattle.step_laws.specs.StepLaws.{Reaches}
use Rattle.step_laws.specs.Bounds.{AreBounded}
use Rattle.step_laws.proofs.SameProgram.{flat_parts}
use Rattle.mote_devices.specs.declared.line.Line.{Line}
use Rattle.program_steps.specs.Machines.{Machine, state_of, numbers_of, flat_of, awaits}
use Rattle.program_steps.specs.Ready.{HasFault, AreTried, AreArrivals, IsInOrder, IsSound, IsGoing, most_arrivals}
use Rattle.program_steps.specs.Stepping.{links_in, StepWay, Entering}
use Rattle.program_steps.specs.Waiting.{over, IsLeft, HasWaited}
use Rattle.program_steps.proofs.Awaiting.{awaits_some, some_same}
use Rattle.program_steps.proofs.ReadyLaws.{ring_kept}
use Rattle.program_steps.proofs.Bounds.{most_owed}
use Rattle.program_steps.proofs.OutsideTables.{outside_paged, outside_memory, outside_pages, outside_count, outside_pointer, outside_stack}

-- what was refused, and what is torn, would be a fault
never_refused : (refused : Option ℕ) (fault : Type 0) → (refused ≢ None → fault) → ¬ fault → refused ≡ None
never_refused None fault told never = refl
never_refused (Some page) fault told never = absurd (never (told (λ none. let e : Some page ≡ None = none in cc)))

never_torn : (torn : Option Torn) (is : Torn → Type 0) (fault : Type 0) → IfSome torn (λ t. is t × fault) → ¬ fault → torn ≡ None
never_torn None is fault told never = refl
never_torn (Some t) is fault told never = absurd (never told.1)

pub untorn_left : (x : Machine) → IsLeft x → x.torn ≡ None
untorn_left x left = never_torn x.torn (IsTorn x.kernel.layout x.kernel.mote.flash.words) (HasFault x) left.order.tried.torn left.unrefused

tried_waiting : {y x : Machine} {sram : List ℕ} {others : ℕ} → HasWaited y x sram others → y.torn ≡ None → AreTried y.kernel.layout x.kernel.mote.flash y.end y.torn
tried_waiting {y} {x} waited untorn =
    let none : x.kernel.mote.flash.refused ≡ None = never_refused x.kernel.mote.flash.refused (HasFault x) waited.left.order.tried.refused waited.left.unrefused in
    record {
      listed = λ op from to there. absurd (let e : true ≡ false = sym there ∙ waited.unfailing op in cc);
      refused = λ some. absurd (some none);
      pool = rw none tt;
      torn = rw untorn tt;
    }

-- flash, the tables and the heap stay in order
pub order_waiting : {y x : Machine} {sram : List ℕ} {others : ℕ} → HasWaited y x sram others → y.torn ≡ None → IsInOrder y → IsInOrder (over y x sram others)
order_waiting {y} {x} {sram} waited untorn order =
    let there = waited.left.order in
    let words = x.kernel.mote.flash.words in
    let torn : x.torn ≡ y.torn = untorn_left x waited.left ∙ sym untorn in
    let l = y.kernel.layout in
    let paged = outside_paged waited.own order.paged in
    let pointer = outside_pointer waited.own in
    record {
      layout = order.layout;
      right = order.right;
      faithful = rw (torn, waited.layout) at there.faithful;
      part = order.part;
      parted = rw (torn, waited.shut, waited.layout) at there.parted;
      tables = tables_kept l x.kernel.mote.sram sram (with_torn words y.torn) (with_torn words y.torn) (λ b from to. waited.tables b (omega arith) to) (λ t v entry. entry)
          (rw (torn, waited.layout) at there.tables);
      paged = paged;
      whole = there.whole;
      registers = order.registers;
      pointer = omega (arith, pointer, order.pointer);
      quantum = order.quantum;
      pages = rw (torn, waited.layout) at there.pages;
      ring = omega (arith, ring_kept x.kernel.mote.sram sram waited.tables, there.ring, ap (λ (k : Layout). k.pool_pages) waited.layout);
      tried = tried_waiting waited untorn;
    }

-- the arrivals are those of all programs
arrivals_waiting : {y x : Machine} {sram : List ℕ} {others : ℕ} → HasWaited y x sram others → AreArrivals (numbers_of (over y x sram others)) (most_arrivals y.owed y.steps)
arrivals_waiting waited =
    let arrivals = waited.left.arrivals in
    record { pages = omega (arith, arrivals.pages, waited.sum, waited.began); ops = omega (arith, arrivals.ops, waited.sum); few = waited.few }

-- a program that has ended stays sound
pub sound_waiting : (y x : Machine) (sram : List ℕ) (others : ℕ) → HasWaited y x sram others → y.torn ≡ None → IsSound y → IsSound (over y x sram others)
sound_waiting y x sram others waited untorn sound =
    let bounded = sound.bounded in
    let moves = bounded.moves in
    let arrivals = arrivals_waiting waited in
    let most = most_owed y.owed y.steps in
    record {
      order = order_waiting waited untorn sound.order;
      bounded = record {
        moves = record { natural = moves.natural; entries = moves.entries; crossed = moves.crossed; since = moves.since; longest = moves.longest; most = moves.most };
        polls = bounded.polls;
        pages = omega (arith, most, arrivals.pages);
        ops = omega (arith, most, arrivals.ops);
      };
      steps = sound.steps;
    }

-- an arrival that no stub asked for is owed as before
owing_waiting : (y x : Machine) (sram : List ℕ) (others t : ℕ) → y.owed ≡ Some (record { target = t; stub = None }) → Reaches (links_in y) y.at (awaits y) (state_of y)
    → Reaches (links_in (over y x sram others)) y.at (awaits y) (state_of (over y x sram others))
owing_waiting y x sram others t owes (Reaches.Placed quiet free entry) = absurd (let e = sym (awaits_some y (record { target = t; stub = None }) owes) ∙ free in cc)
owing_waiting y x sram others t owes (Reaches.Owing stub alone owes' of) =
    let none : None ≡ stub = ap (λ (w : Awaited). w.stub) (some_same (sym (awaits_some y (record { target = t; stub = None }) owes) ∙ owes')) in
    Reaches.Owing None (λ due. refl) (owes' ∙ ap (λ s. Some (record { target = y.at; stub = s; due = awaits y })) (sym none)) tt

-- a program that owes an arrival can go on
pub going_waiting : (y x : Machine) (sram : List ℕ) (others t : ℕ) → HasWaited y x sram others → y.owed ≡ Some (record { target = t; stub = None }) → IsGoing y → IsGoing (over y x sram others)
going_waiting y x sram others t waited owes ready =
    let count = outside_count waited.own in
    let some = ready.some in
    let most = ready.most in
    let counted = ready.counted in
    record {
      order = order_waiting waited ready.untorn ready.order;
      going = ready.going;
      untorn = ready.untorn;
      top = ready.top;
      some = omega arith;
      most = omega arith;
      stands = owing_waiting y x sram others t owes ready.stands;
      counted = subst (λ c. AreBounded (numbers_of (over y x sram others)) y.crossings y.kernel.quantum c y.at) (sym count)
          (record { natural = counted.natural; entries = counted.entries; since = counted.since; longest = counted.longest; crossed = counted.crossed; within = counted.within; most = counted.most });
      arrivals = arrivals_waiting waited;
      polls = ready.polls;
      exact = outside_count waited.own ∙ ready.exact;
      fresh = ready.fresh;
    }

-- its program sees nothing of it
pub flat_waiting : (y x : Machine) (sram : List ℕ) (others : ℕ) → HasWaited y x sram others → flat_of (over y x sram others) ≡ flat_of y
flat_waiting y x sram others waited =
    let m = y.kernel.mote in
    let now : (flat_of (over y x sram others)).now ≡ (flat_of y).now =
    flat_parts _ _ _ _ _ _ y.at y.steps y.crossings _ _ _ _ _ _ refl refl (outside_stack waited.own) (outside_memory m.swap waited.own) refl (outside_pages waited.own) in
    ap (λ s. record { now = s; due = y.due }) now

pub program_waiting : (y x : Machine) (sram : List ℕ) (others : ℕ) → HasWaited y x sram others → program_of (over y x sram others).kernel ≡ program_of y.kernel
program_waiting y x sram others waited =
    ap (λ i. record { image = i; part = y.kernel.part; page_limit = length y.kernel.mote.swap; quantum = y.kernel.quantum })
    (ap (λ l. image_held (record x.kernel { layout = l })) (sym waited.layout) ∙ waited.image)

-- What the running program leaves. ------------------------------------------------------------------------

pub left_going : (m : Machine) → IsGoing m → IsLeft m
left_going m ready = record { order = ready.order; arrivals = ready.arrivals; unrefused = λ fault. absurd (let e : Some (ends.Flash fault.0) ≡ None = sym fault.1 ∙ ready.going in cc) }

pub left_stepped : (old new : Machine) (line : Option Line) → AreArrivals (numbers_of new) (most_arrivals new.owed new.steps) → StepWay old new line → IsLeft new
left_stepped old new line arrivals (StepWay.On ready quiet steps is) = left_going new ready
left_stepped old new line arrivals (StepWay.Stopped stop over' is silent steps original same) = record {
  order = over'.order;
  arrivals = arrivals;
  unrefused = λ fault. absurd (let e : Some (ends.Flash fault.0) ≡ Some (ends.Stopped stop) = sym fault.1 ∙ is in cc);
}

-- a program that comes to its own words, where no operation is to fail, is let in
pub entered_own : (old new : Machine) (result : Option End) → is_own old.kernel.part old.at ≡ true → ((op : ℕ) → is_listed new.kernel.mote.flash.failing op ≡ false) → Entering old new result
    → (result ≡ None) × IsGoing new × (new.owed ≡ None)
entered_own old new result own unfailing (Entering.In ready free inside untaken) = (refl, ready, free)
entered_own old new result own unfailing (Entering.Out over' is outside) = absurd (let e : true ≡ false = sym own ∙ outside in cc)
entered_own old new result own unfailing (Entering.Failed op over' is inside fault) = absurd (let e : true ≡ false = sym fault.listed ∙ unfailing op in cc)
