-- The acts of a run, step by step, of its moves.
use Rattle.std.proofs.Common.{◌≡◌, ℕ, zero, suc, ◌+◌, ◌≤◌, Bool, true, false, ◌&&◌, List, [], ◌∷◌, ◌++◌, map, length, refl, sym, ap, ◌∙◌, subst, arith, inl, inr, ◌-◌, ◌%◌, ◌<◌, ◌⊎◌, ap₂}
use Rattle.std.specs.Prelude.{Option, Some, None, is_some, not, ◌||◌}
use Rattle.std.proofs.lemmas.Bool.{and_parts, and_from}
use Rattle.std.proofs.lemmas.Bool.Decides.{nat_tests}
use Rattle.sram_layout.specs.Bytes.{byte_at}
use Rattle.flash_words.specs.declared.layout.Layout.{Layout}
use Rattle.flash_words.specs.Layouts.{layout_of, image_of, IsRight}
use Rattle.flash_words.proofs.LayoutLaws.{layout_right}
use Rattle.flat_machine.specs.declared.part.Part.{Part}
use Rattle.flat_machine.specs.FlatMachine.{Moment, is_own, is_taken}
use Rattle.avr_flags.specs.Status.{has_bit, interrupts}
use Rattle.mote_devices.specs.Waking.{is_enabled}
use Rattle.mote_devices.specs.declared.line.Line.{Line}
use Rattle.page_index.specs.Entries.{IsEntry}
use Rattle.nat_page.specs.Faithful.{IsFaithful}
use Rattle.nat_page.proofs.FaithfulLaws.{faithful_mapped}
use Rattle.branch_bridge.specs.Operating.{with_torn}
use Rattle.kernel_entry.specs.Parts.{image_held}
use Rattle.kernel_entry.specs.declared.kernel.End.{End}
use Rattle.step_laws.specs.Moves.{Inner, Plain, Serve, Move, Begin, Within, Arrive, Take, count_plain, count_serve}
use Rattle.step_laws.specs.Numbers.{one_if}
use Rattle.step_laws.specs.States.{State, mote_of, Awaited, admits, placed, with_store}
use Rattle.step_laws.specs.StepLaws.{Reaches}
use Rattle.step_laws.specs.Walks.{Walk, MakesArrive, MakesTake}
use Rattle.kernel_entry.specs.declared.kernel.Owed.{Owed}
use Rattle.mote_core.specs.declared.mote.Mote.{Mote}
use Rattle.program_steps.specs.Machines.{Machine, awaited, state_of, awaits, flat_of}
use Rattle.program_steps.specs.Ready.{IsGoing, IsRightPart}
use Rattle.program_steps.proofs.Awaiting.{free_of}
use Rattle.program_steps.proofs.Entered.{awaited_due, untaken_by}
use Rattle.program_steps.specs.Stepping.{Goes, links_in, ends_in_arrive}
use Rattle.program_steps.specs.Stepping as stepping
use Rattle.tk_run.specs.Running.{StandsAfter, StepsTo}
use Rattle.tk_run.specs.Running as running
use Rattle.theorem_reader.specs.Acts.{Act, Arrival, Arrives, In, Outside, Refused as RefusedThere, steps_in, services_in}
use Rattle.theorem_reader.specs.Memory.{HasState}
use Rattle.theorem_reader.specs.Pools.{IsPlaceOf}
use Rattle.theorem_reader.specs.Steps.{EndsThere, AreOwn, AreOfStep, Interrupted, There, Arriving, is_with_kernel, IsBetween, GoByStep, AreUnmade, Nothing, Refused, Stopped, IsByStep}
use Rattle.theorem_reader.proofs.Acting.{act_of, acts_of, Holds, refusal_end, arrival_is, follow}
use Rattle.theorem_reader.proofs.Holding.{has_state}
use Rattle.theorem_reader.proofs.Pooling.{place_is}
use Rattle.theorem_reader.proofs.Stopping.{Asked, inner_free, serve_on, none_owed, no_stop, stop_last, kernel_has, unmade_stops}

-- Walks. --------------------------------------------------------------------------------------------------

-- moves that are the same have the same acts
pub acts_as : (x z : State) (Are : List Act → Type 0) (moves moves' : List Move) → moves ≡ moves' → ((walk : Walk x moves' z) → Are (acts_of x moves' z walk)) → (walk : Walk x moves z)
    → Are (acts_of x moves z walk)
acts_as x z Are moves moves' same all = subst (λ ms. (walk : Walk x ms z) → Are (acts_of x ms z walk)) (sym same) all

-- walks that follow one another
acts_join : (x y z : State) (ms ns : List Move) (first : Walk x ms y) (second : Walk y ns z)
    → (walk : Walk x (ms ++ ns) z) × (acts_of x (ms ++ ns) z walk ≡ acts_of x ms y first ++ acts_of y ns z second)
acts_join x y z [] ns first second = subst (λ (s : State). (walk : Walk s ns z) × (acts_of s ns z walk ≡ acts_of y ns z second)) (sym first) (second, refl)
acts_join x y z (m ∷ ms) ns first second =
    let later = acts_join first.0 y z ms ns first.2 second in
    ((first.0, first.1, later.0), ap (λ acts. act_of m x first.0 ∷ acts) later.1)

-- The acts of one step. -----------------------------------------------------------------------------------

record Counted (rest : List Inner) (acts : List Act) : Type 0 where
  steps : steps_in acts ≡ count_plain rest
  services : services_in acts ≡ count_serve rest
  alone : length acts ≡ steps_in acts + services_in acts
  ends : EndsThere acts

counted : (x z : State) (rest : List Inner) (walk : Walk x (map Within rest) z) → Counted rest (acts_of x (map Within rest) z walk)
counted x z [] walk = record { steps = refl; services = refl; alone = refl; ends = tt }
counted x z (Plain line ∷ rest) walk =
    let later = counted walk.0 z rest walk.2 in
    record { steps = ap suc later.steps; services = later.services; alone = omega (arith, later.alone); ends = later.ends }
counted x z (Serve line stops ∷ []) walk = record { steps = refl; services = refl; alone = refl; ends = tt }
counted x z (Serve line stops ∷ inner ∷ rest) walk =
    let later = counted walk.0 z (inner ∷ rest) walk.2 in
    let next = inner_free walk.0 inner walk.2.0 walk.2.1 in
    let on = serve_on x walk.0 line stops walk.1 next.0 next.1 in
    record { steps = later.steps; services = ap suc later.services; alone = omega (arith, later.alone); ends = (on.0, on.1, later.ends) }

own_acts : (x z : State) (line : Option Line) (rest : List Inner) → count_plain rest ≤ 39 → count_serve rest ≤ 2 → (walk : Walk x (Begin line ∷ map Within rest) z)
    → AreOwn (acts_of x (Begin line ∷ map Within rest) z walk)
own_acts x z line rest few serves walk =
    let later = counted walk.0 z rest walk.2 in
    record { alone = omega (arith, later.alone); some = omega arith; steps = omega (arith, later.steps, few); services = omega (arith, later.services, serves); ends = later.ends }

-- an interrupt is one that the original program takes
take_due : (y : Machine) (z : State) (stops : Bool) → MakesTake (state_of y) stops z → is_taken (flat_of y) ≡ true
take_due y z stops makes =
    let now = and_parts _ _ makes.taken_now in
    and_from _ _ (sym (awaited_due y.owed y.due makes.owed makes.owes) ∙ now.0) (and_parts _ _ now.1).1

-- none is taken before an arrival that goes on
is_own_part : (part : Part) (words t : ℕ) → IsRightPart part words → admits part t ≡ true → t < words → (shut : Bool) → part.shut ≡ shut → is_own part t ≡ true
is_own_part part words t right admitted below true is = ap (λ b. not b || is_own part t) (sym is) ∙ admitted
is_own_part part words t right admitted below false is =
    let whole = right.whole is in
    grind (arith, nat_tests, below, whole.0, whole.1)

inside_image : (image : List ℕ) (refused : Bool) (target made : ℕ) (before after : Mote) → Arrives image refused target made before after → refused ≡ false → target < length image
inside_image image refused target made before after (In none inside code place others links page unlisted) going = inside
inside_image image refused target made before after (Outside some outside nothing same pc) going = absurd (let e : ◌≡◌ {A = Bool} true false = sym some ∙ going in cc)
inside_image image refused target made before after (RefusedThere some inside tried listed code lost others pc page) going = absurd (let e : ◌≡◌ {A = Bool} true false = sym some ∙ going in cc)

none_before : (image : List ℕ) (quantum : ℕ) (y : Machine) (x : State) (ops : ℕ) (made : Bool) → Holds image quantum (state_of y) → IsGoing y → MakesArrive (state_of y) y.at made ops x → x.end ≡ None
    → is_taken (flat_of y) ≡ false
none_before image quantum y x ops made holds ready makes going =
    let inside = inside_image image (is_some x.end) y.at (one_if made) (mote_of (state_of y)) (mote_of x) (arrival_is image quantum (state_of y) x y.at made ops holds makes).act.arrives
    (ap is_some going) in
    let own = is_own_part y.kernel.part y.kernel.layout.image_words y.at ready.order.part makes.own (omega (arith, inside, ap (λ (l : Layout). l.image_words) holds.laid)) y.kernel.part.shut refl in
    untaken_by y makes.owed makes.owes ready makes.untaken own

-- and none is taken behind an arrival
none_taken : (x y z : State) (target ops : ℕ) (made stops : Bool) → MakesArrive x target made ops y → MakesTake y stops z → ⊥
none_taken x y z target ops made stops arrives makes =
    none_owed (placed (with_store x arrives.store) arrives.arrival.place) arrives.arrival.refused makes.owed
    (sym (ap (λ (s : State). s.owed) arrives.after) ∙ makes.owes) (sym (ap (λ (s : State). s.end) arrives.after) ∙ makes.going)

-- where control stands, if no arrival is owed
pub place_by : (image : List ℕ) (quantum : ℕ) (y : Machine) (t : ℕ) (due : Bool) → Holds image quantum (state_of y) → IsGoing y → (state_of y).owed ≡ None → Reaches (links_in y) t due (state_of y)
    → IsPlaceOf image y.kernel.mote.flash.words t y.kernel.mote.cpu.pc
place_by image quantum y t due holds ready free (Reaches.Placed undue none enters) =
    let l = layout_of (length image) in
    let words = y.kernel.mote.flash.words in
    let whole : IsFaithful y.kernel.layout (image_held y.kernel) words = subst (λ torn. IsFaithful y.kernel.layout (image_held y.kernel) (with_torn words torn)) ready.untorn ready.order.faithful in
    let code : IsFaithful l image words = subst (λ i. IsFaithful l i words) holds.held (subst (λ k. IsFaithful k (image_of k words) words) holds.laid whole) in
    let few = (subst IsRight holds.laid ready.order.right).image_fits in
    place_is image words t y.kernel.mote.cpu.pc (faithful_mapped l image words (layout_right (length image) few) code) (subst (λ k. IsEntry k words t y.kernel.mote.cpu.pc) holds.laid enters.0)
place_by image quantum y t due holds ready free (Reaches.Owing stub alone owes leads) = absurd (let e : Some (record { target = t; stub = stub; due = due }) ≡ None = sym owes ∙ free in cc)

-- The machine stands where n steps lead, over the image, and between two steps.
abbrev pub HasCome : (image : List ℕ) (quantum : ℕ) (at : ℕ → Moment) (n : ℕ) (y : Machine) → Type 0
HasCome image quantum at n y = Holds image quantum (state_of y) × StandsAfter at n y × Asked (state_of y)

-- where it stands in the original program
at_is : (at : ℕ → Moment) (n : ℕ) (y : Machine) → StandsAfter at n y → y.at ≡ (at n).now.cpu.pc
at_is at n y stands = ap (λ (s : Moment). s.now.cpu.pc) stands.stands

own_here : (image : List ℕ) (quantum : ℕ) (at : ℕ → Moment) (n : ℕ) (y : Machine) (z : State) (own : List Move) → HasCome image quantum at n y → stepping.AreOwn own
    → (walk : Walk (state_of y) own z) → AreOfStep image (at n) (mote_of (state_of y)) (acts_of (state_of y) own z walk)
own_here image quantum at n y z own (holds, stands, asked) (stepping.Taking stops is) =
    acts_as (state_of y) z (AreOfStep image (at n) (mote_of (state_of y))) own (Take stops ∷ []) is
    (λ walk. Interrupted (asked walk.1.owed walk.1.owes) stops (mote_of walk.0) refl (sym (ap is_taken stands.stands) ∙ take_due y walk.0 stops walk.1))
own_here image quantum at n y z own (holds, stands, asked) (stepping.Making line rest is few serves) =
    acts_as (state_of y) z (AreOfStep image (at n) (mote_of (state_of y))) own (Begin line ∷ map Within rest) is
    (λ walk. There (sym (ap is_taken stands.stands) ∙ ap (λ b. b && (has_bit (flat_of y).now.cpu.sreg interrupts && is_enabled (flat_of y).now.devices)) (stands.quiet (free_of y walk.1.free)))
    (rw (at_is at n y stands) at (place_by image quantum y y.at (awaits y) holds stands.ready walk.1.free stands.ready.stands)) (own_acts (state_of y) z line rest few serves walk))

-- the program goes on where they begin
own_goes : (y z : State) (own : List Move) → stepping.AreOwn own → Walk y own z → y.end ≡ None
own_goes y z own (stepping.Taking stops is) walk = (subst (λ ms. Walk y ms z) is walk).1.going
own_goes y z own (stepping.Making line rest is few serves) walk = (subst (λ ms. Walk y ms z) is walk).1.going

own_behind : (x y z : State) (target ops : ℕ) (made : Bool) (own : List Move) → MakesArrive x target made ops y → stepping.AreOwn own → (walk : Walk y own z) → AreOwn (acts_of y own z walk)
own_behind x y z target ops made own arrives (stepping.Taking stops is) = acts_as y z AreOwn own (Take stops ∷ []) is (λ walk. absurd (none_taken x y walk.0 target ops made stops arrives walk.1))
own_behind x y z target ops made own arrives (stepping.Making line rest is few serves) = acts_as y z AreOwn own (Begin line ∷ map Within rest) is (own_acts y z line rest few serves)

pub step_acts : (image : List ℕ) (quantum : ℕ) (at : ℕ → Moment) (n : ℕ) (y : Machine) (z : State) (arrival own : List Move) → HasCome image quantum at n y → stepping.IsArrival y.at arrival
    → stepping.AreOwn own → (walk : Walk (state_of y) (arrival ++ own) z) → AreOfStep image (at n) (mote_of (state_of y)) (acts_of (state_of y) (arrival ++ own) z walk)
step_acts image quantum at n y z arrival own (holds, stands, asked) (stepping.NoArrival none) makes =
    acts_as (state_of y) z (AreOfStep image (at n) (mote_of (state_of y))) (arrival ++ own) own (ap (λ ms. ms ++ own) none) (own_here image quantum at n y z own (holds, stands, asked) makes)
step_acts image quantum at n y z arrival own (holds, stands, asked) (stepping.OneArrival made ops one) makes =
    acts_as (state_of y) z (AreOfStep image (at n) (mote_of (state_of y))) (arrival ++ own) (Arrive y.at made ops ∷ own) (ap (λ ms. ms ++ own) one)
    (λ walk. Arriving (asked walk.1.owed walk.1.owes) (sym (ap is_taken stands.stands) ∙ none_before image quantum y walk.0 ops made holds stands.ready walk.1 (own_goes walk.0 z own makes walk.2))
    (one_if made) ops (mote_of walk.0) (acts_of walk.0 own z walk.2)
    (ap₂ (λ refused t. Arrival refused t (one_if made) ops (mote_of (state_of y)) (mote_of walk.0) ∷ acts_of walk.0 own z walk.2) (ap is_some (own_goes walk.0 z own makes walk.2))
    (at_is at n y stands)) (own_behind (state_of y) walk.0 z y.at ops made own walk.1 makes walk.2))

-- a next step can begin
can_begin : (image : List ℕ) (quantum : ℕ) (at : ℕ → Moment) (n : ℕ) (y : Machine) → HasCome image quantum at n y
    → (is_with_kernel (mote_of (state_of y)) ≡ true) ⊎ IsPlaceOf image y.kernel.mote.flash.words (at n).now.cpu.pc y.kernel.mote.cpu.pc
can_begin image quantum at n y (holds, stands, asked) = elim stands.ready.stands [
  | Reaches.Placed undue none enters ↦ inr (rw (at_is at n y stands) at (place_by image quantum y y.at (awaits y) holds stands.ready none (Reaches.Placed undue none enters)))
  | Reaches.Owing stub alone owes leads ↦ inl (asked (record { target = y.at; stub = stub; due = awaits y }) owes)
]

some_by : (o : Option End) → (o ≡ None → ⊥) → is_some o ≡ true
some_by None some = absurd (some refl)
some_by (Some end) some = refl

-- .. and of one that isn't made
unmade_alone : (image : List ℕ) (quantum : ℕ) (at : ℕ → Moment) (n : ℕ) (y : Machine) (z : State) (arrival own : List Move) → HasCome image quantum at n y
    → own ≡ [] → stepping.IsArrival y.at arrival → (z.end ≡ None → ends_in_arrive (arrival ++ own) ≡ false) → (walk : Walk (state_of y) (arrival ++ own) z)
    → AreUnmade image (at n) (mote_of (state_of y)) (acts_of (state_of y) (arrival ++ own) z walk) z.end
unmade_alone image quantum at n y z arrival own (holds, stands, asked) nothing (stepping.NoArrival none) final =
    let same : arrival ++ own ≡ [] = ap (λ ms. ms ++ own) none ∙ nothing in
    acts_as (state_of y) z (λ acts. AreUnmade image (at n) (mote_of (state_of y)) acts z.end) (arrival ++ own) [] same
    (λ walk. Nothing refl (ap (λ (s : State). s.end) (sym walk) ∙ stands.ready.going) (can_begin image quantum at n y (holds, stands, asked)))
unmade_alone image quantum at n y z arrival own (holds, stands, asked) nothing (stepping.OneArrival made ops one) final =
    let same : arrival ++ own ≡ Arrive y.at made ops ∷ [] = ap (λ ms. ms ++ own) one ∙ ap (λ ms. Arrive y.at made ops ∷ ms) nothing in
    let over : is_some z.end ≡ true = some_by z.end (λ going. absurd (let both : ◌≡◌ {A = Bool} true false = sym (ap ends_in_arrive same) ∙ final going in cc)) in
    acts_as (state_of y) z (λ acts. AreUnmade image (at n) (mote_of (state_of y)) acts z.end) (arrival ++ own) (Arrive y.at made ops ∷ []) same (λ walk.
    let there : is_some walk.0.end ≡ true = ap (λ (s : State). is_some s.end) walk.2 ∙ over in
    Refused (asked walk.1.owed walk.1.owes) (one_if made) ops (mote_of walk.0)
    (ap₂ (λ refused t. Arrival refused t (one_if made) ops (mote_of (state_of y)) (mote_of walk.0) ∷ []) there (at_is at n y stands))
    (ap (λ (s : State). s.end) (sym walk.2) ∙ (arrival_is image quantum (state_of y) walk.0 y.at made ops holds walk.1).over there ∙ ap (λ t. Some (refusal_end image t (mote_of walk.0).flash.ops))
    (at_is at n y stands)))

-- a step that isn't made, behind n that were
unmade_acts : (image : List ℕ) (quantum : ℕ) (at : ℕ → Moment) (n : ℕ) (start y z : Machine) (before rest : List Move) (lines : List Line) → HasCome image quantum at n y
    → StepsTo at start n before y → stepping.AreOfStep y.at rest → (z.end ≡ None → ends_in_arrive rest ≡ false) → z.steps ≡ start.steps + n → (goes : Goes y z rest lines)
    → AreUnmade image (at n) (mote_of (state_of y)) (acts_of (state_of y) rest (state_of z) goes.walk) z.end
unmade_acts image quantum at n start y z before rest lines (holds, stands, asked) steps of_step final done goes =
    let all = of_step.arrival ++ of_step.own in
    let goes_all = subst (λ ms. Goes y z ms lines) of_step.parts goes in
    acts_as (state_of y) (state_of z) (λ acts. AreUnmade image (at n) (mote_of (state_of y)) acts z.end) rest all of_step.parts (λ walk. elim of_step.makes [
      | inl nothing ↦ unmade_alone image quantum at n y (state_of z) of_step.arrival of_step.own (holds, stands, asked) nothing of_step.arrives
          (λ going. sym (ap ends_in_arrive of_step.parts) ∙ final going) walk
      | inr makes ↦ (
          let over = unmade_stops at start y z n before of_step.arrival of_step.own lines steps stands.ready.going of_step.arrives makes goes_all done in
          Stopped (step_acts image quantum at n y (state_of z) of_step.arrival of_step.own (holds, stands, asked) of_step.arrives makes walk)
          (stop_last (state_of y) (of_step.arrival ++ of_step.own) (state_of z) walk stands.ready.going over) over.0 over.1)
    ]) goes.walk

-- where a row of moves doesn't end in an arrival, its last ones don't
not_last : (move other : Move) (moves : List Move) → ends_in_arrive (move ∷ other ∷ moves) ≡ ends_in_arrive (other ∷ moves)
not_last (Begin line) other moves = refl
not_last _ other moves = refl

pub last_alone : (front moves : List Move) → ends_in_arrive (front ++ moves) ≡ false → ends_in_arrive moves ≡ false
last_alone [] moves none = none
last_alone (move ∷ front) [] none = refl
last_alone (move ∷ []) (other ∷ moves) none = sym (not_last move other moves) ∙ none
last_alone (move ∷ next ∷ front) (other ∷ moves) none = last_alone (next ∷ front) (other ∷ moves) (sym (not_last move next (front ++ (other ∷ moves))) ∙ none)

-- A run. --------------------------------------------------------------------------------------------------

state_held : (at : ℕ → Moment) (n : ℕ) (y : Machine) → StandsAfter at n y → HasState (at n).now (mote_of (state_of y))
state_held at n y stands =
    has_state y.kernel y.kernel.mote y.at y.steps y.crossings (at n).now stands.ready.order.paged (ap (λ (s : Moment). s.now) stands.stands)

-- the kernel's stack is empty, COUNT is what the crossings leave of the quantum, and where an interrupt is due the kernel has control
some_awaited : (owed : Option Owed) (due : Bool) → (owed ≡ None → due ≡ false) → due ≡ true → (w : Awaited) × (awaited owed due ≡ Some w)
some_awaited None due quiet is = absurd (let e : ◌≡◌ {A = Bool} true false = sym is ∙ quiet refl in cc)
some_awaited (Some owed) due quiet is = (record { target = owed.target; stub = owed.stub; due = due }, refl)

pub between_held : (image : List ℕ) (quantum : ℕ) (at : ℕ → Moment) (n : ℕ) (y : Machine) → HasCome image quantum at n y → IsBetween quantum (at n) (mote_of (state_of y))
unfolding byte_at
between_held image quantum at n y (holds, stands, asked) = record {
  stack = stands.ready.top;
  count = stands.ready.exact ∙ ap (λ q. q - y.crossings % q) holds.counts ∙ ap (λ (s : Moment). quantum - s.now.crossings % quantum) stands.stands;
  due = λ is. let owes = some_awaited y.owed y.due stands.quiet (ap (λ (s : Moment). s.due) stands.stands ∙ is) in asked owes.0 owes.1;
}

record Led (image : List ℕ) (quantum : ℕ) (at : ℕ → Moment) (start : Machine) (n : ℕ) (moves : List Move) (z : Machine) : Type 0 where
  walk : Walk (state_of start) moves (state_of z)
  go : GoByStep image quantum at (mote_of (state_of start)) n (acts_of (state_of start) moves (state_of z) walk) (mote_of (state_of z))
  holds : Holds image quantum (state_of z)

led : (image : List ℕ) (quantum : ℕ) (at : ℕ → Moment) (start : Machine) (n : ℕ) (moves : List Move) (z : Machine) → Holds image quantum (state_of start) → Asked (state_of start) → z.end ≡ None
    → StepsTo at start n moves z → Led image quantum at start n moves z
led image quantum at start zero moves z holds first going (same, none) =
    subst (λ ms. Led image quantum at start 0 ms z) (sym none) (subst (λ (m : Machine). Led image quantum at start 0 [] m) same (record { walk = refl; go = (refl, refl); holds = holds }))
led image quantum at start (suc n) moves z holds first going (y, before, arrival, own, lines, all, steps, stands, arrives, makes, goes) =
    let earlier = led image quantum at start n before y holds first stands.ready.going steps in
    let asked = kernel_has (state_of start) before (state_of y) earlier.walk first stands.ready.going in
    let joined = acts_join (state_of start) (state_of y) (state_of z) before (arrival ++ own) earlier.walk goes.walk in
    let next = follow image quantum (state_of y) (arrival ++ own) (state_of z) goes.walk earlier.holds in
    subst (λ ms. Led image quantum at start (suc n) ms z) (sym all) (record {
      walk = joined.0;
      go = (
        mote_of (state_of y),
        acts_of (state_of start) before (state_of y) earlier.walk,
        acts_of (state_of y) (arrival ++ own) (state_of z) goes.walk,
        joined.1,
        earlier.go,
        state_held at n y stands,
        between_held image quantum at n y (earlier.holds, stands, asked),
        step_acts image quantum at n y (state_of z) arrival own (earlier.holds, stands, asked) arrives makes goes.walk,
        no_stop (state_of y) (arrival ++ own) (state_of z) goes.walk going,
        next.follow,
      );
      holds = next.holds;
    })

-- the moves of a run as acts, step by step
pub record Paced (image : List ℕ) (quantum : ℕ) (at : ℕ → Moment) (start : Machine) (n : ℕ) (moves : List Move) (z : Machine) : Type 0 where
  pub walk : Walk (state_of start) moves (state_of z)
  pub by_step : IsByStep image quantum at (mote_of (state_of start)) (acts_of (state_of start) moves (state_of z) walk) n (mote_of (state_of z)) z.end

pub paced : (image : List ℕ) (quantum : ℕ) (at : ℕ → Moment) (start : Machine) (n : ℕ) (moves : List Move) (z : Machine) → Holds image quantum (state_of start) → Asked (state_of start)
    → running.IsByStep at start z n moves → (z.end ≡ None → ends_in_arrive moves ≡ false) → z.steps ≡ start.steps + n → Paced image quantum at start n moves z
paced image quantum at start n moves z holds first is final done =
    let earlier = led image quantum at start n is.before is.last holds first is.stands.ready.going is.steps in
    let asked = kernel_has (state_of start) is.before (state_of is.last) earlier.walk first is.stands.ready.going in
    let joined = acts_join (state_of start) (state_of is.last) (state_of z) is.before is.behind earlier.walk is.goes.walk in
    subst (λ ms. Paced image quantum at start n ms z) (sym is.all) (record {
      walk = joined.0;
      by_step = record {
        last = mote_of (state_of is.last);
        earlier = acts_of (state_of start) is.before (state_of is.last) earlier.walk;
        rest = acts_of (state_of is.last) is.behind (state_of z) is.goes.walk;
        all = joined.1;
        steps = earlier.go;
        state = state_held at n is.last is.stands;
        between = between_held image quantum at n is.last (earlier.holds, is.stands, asked);
        unmade = unmade_acts image quantum at n start is.last z is.before is.behind is.lines (earlier.holds, is.stands, asked) is.steps is.of_step
            (λ going. last_alone is.before is.behind (sym (ap ends_in_arrive is.all) ∙ final going)) done is.goes;
        follow = (follow image quantum (state_of is.last) is.behind (state_of z) is.goes.walk earlier.holds).follow;
      };
    })
