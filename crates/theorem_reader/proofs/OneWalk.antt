-- From one state walks never part, so there is one way through so many steps.
use Rattle.std.proofs.Common.{◌≡◌, ℕ, zero, suc, ◌+◌, ◌≤◌, Bool, true, false, List, [], ◌∷◌, ◌++◌, map, refl, sym, ap, ap₂, ◌∙◌, subst, arith, inl, inr, append-nil}
use Rattle.std.specs.Prelude.{None}
use Rattle.flat_machine.specs.FlatMachine.{Moment}
use Rattle.step_laws.specs.Moves.{Inner, Plain, Serve, Move, Begin, Within, Arrive, Take}
use Rattle.step_laws.specs.Numbers.{Numbers, moved, numbered}
use Rattle.step_laws.specs.States.{State}
use Rattle.step_laws.specs.StepLaws.{Reaches}
use Rattle.step_laws.specs.Walks.{Walk, MakesOf}
use Rattle.step_laws.proofs.MoveLaws.{entry_high}
use Rattle.program_steps.specs.Machines.{Machine, state_of, awaits}
use Rattle.program_steps.specs.Ready.{IsGoing}
use Rattle.program_steps.specs.Stepping.{Goes, links_in, IsArrival, NoArrival, OneArrival, AreOwn, Taking, Making, ends_in_arrive}
use Rattle.tk_run.specs.Running.{StepsTo, IsByStep}
use Rattle.walk_laws.proofs.OneWalk.{free_or_owed, true_or_false, Compare, Behind, Ahead, compare, steps_walk}
use Rattle.theorem_reader.proofs.Acting.{Holds, follow}
use Rattle.theorem_reader.proofs.Pooling.{place_low}
use Rattle.theorem_reader.proofs.Stepwise.{place_by, last_alone}
use Rattle.theorem_reader.proofs.Stopping.{IsStop, none_on, serve_ends, stays_over, unmade_stops}

-- no step is taken back where the program doesn't stop by itself
pub none_back : (x z : State) (rest : List Move) (n : Numbers) → Walk x rest z → (IsStop z.end → ⊥) → n.steps ≤ (numbered rest n).steps
unfolding moved
none_back x z [] n walk on = omega arith
none_back x z (Within (Serve line true) ∷ rest) n walk on = absurd (on (stays_over walk.0 rest z walk.2 ((serve_ends x walk.0 line true walk.1).over refl)))
none_back x z (move ∷ rest) n walk on = omega (arith, none_back walk.0 z rest (moved move n) walk.2 on)

-- One step. -----------------------------------------------------------------------------------------------

-- where a step may begin, no move in the midst of one is made
no_inner : (image : List ℕ) (quantum : ℕ) (m : Machine) (z : State) (inner : Inner) (due : Bool) → Holds image quantum (state_of m) → IsGoing m → MakesOf false (state_of m) inner z
    → Reaches (links_in m) m.at due (state_of m) → ⊥
no_inner image quantum m z (Plain line) due holds ready makes (Reaches.Placed undue none enters) = makes.starts (m.at, enters.0)
no_inner image quantum m z (Plain line) due holds ready makes (Reaches.Owing stub alone owes leads) = free_or_owed (state_of m) _ makes.free owes
no_inner image quantum m z (Serve line stops) due holds ready makes (Reaches.Placed undue none enters) =
    let place = place_by image quantum m m.at due holds ready none (Reaches.Placed undue none enters) in
    let low = (place_low image m.kernel.mote.flash.words m.at m.kernel.mote.cpu.pc place).1 in
    omega (arith, low, (entry_high m.kernel makes.can))
no_inner image quantum m z (Serve line stops) due holds ready makes (Reaches.Owing stub alone owes leads) = free_or_owed (state_of m) _ makes.free owes

-- all are in the midst of a step
abbrev AreInner : List Move → Type 0
AreInner [] = Unit {0}
AreInner (Within inner ∷ moves) = AreInner moves
AreInner (_ ∷ moves) = ⊥

-- a whole step, and one behind an arrival
abbrev IsWhole : List Move → Type 0
IsWhole (Begin line ∷ moves) = AreInner moves
IsWhole (Take stops ∷ moves) = moves ≡ []
IsWhole _ = ⊥

abbrev pub IsStep : List Move → Type 0
IsStep (Arrive target made ops ∷ moves) = IsWhole moves
IsStep moves = IsWhole moves

all_inner : (rest : List Inner) → AreInner (map Within rest)
all_inner [] = tt
all_inner (inner ∷ rest) = all_inner rest

whole_is : (own : List Move) → AreOwn own → IsWhole own
whole_is own (Taking stops is) = subst IsWhole (sym is) refl
whole_is own (Making line rest is few serves) = subst IsWhole (sym is) (all_inner rest)

as_step : (own : List Move) → IsWhole own → IsStep own
as_step (Arrive target made ops ∷ moves) whole = absurd whole
as_step moves whole = whole

pub step_is : (t : ℕ) (arrival own : List Move) → IsArrival t arrival → AreOwn own → IsStep (arrival ++ own)
step_is t arrival own (NoArrival none) makes = subst (λ a. IsStep (a ++ own)) (sym none) (as_step own (whole_is own makes))
step_is t arrival own (OneArrival made ops one) makes = subst (λ a. IsStep (a ++ own)) (sym one) (whole_is own makes)

inner_behind : (ms rest : List Move) → AreInner (ms ++ rest) → AreInner rest
inner_behind [] rest all = all
inner_behind (Within inner ∷ ms) rest all = inner_behind ms rest all
inner_behind (move ∷ ms) rest all = absurd all

whole_behind : (ms rest : List Move) → IsWhole ms → IsWhole (ms ++ rest) → AreInner rest
whole_behind (Begin line ∷ ms) rest one other = inner_behind ms rest other
whole_behind (Take stops ∷ ms) rest one other = subst AreInner (sym (sym (ap (λ l. l ++ rest) one) ∙ other)) tt
whole_behind moves rest one other = absurd one

step_behind : (ms rest : List Move) → IsStep ms → IsStep (ms ++ rest) → AreInner rest
step_behind [] rest one other = absurd one
step_behind (Arrive target made ops ∷ ms) rest one other = whole_behind ms rest one other
step_behind (move ∷ ms) rest one other = whole_behind (move ∷ ms) rest one other

none_behind : (image : List ℕ) (quantum : ℕ) (m : Machine) (z : State) (rest : List Move) → Holds image quantum (state_of m) → IsGoing m → AreInner rest → Walk (state_of m) rest z
    → (rest ≡ []) × (state_of m ≡ z)
none_behind image quantum m z [] holds ready all walk = (refl, walk)
none_behind image quantum m z (Within inner ∷ rest) holds ready all walk = absurd (no_inner image quantum m walk.0 inner (awaits m) holds ready walk.1 ready.stands)
none_behind image quantum m z (move ∷ rest) holds ready all walk = absurd all

-- Many steps. ---------------------------------------------------------------------------------------------

-- the same moves lead to the same state
abbrev pub AreSame : (ms ns : List Move) (y z : Machine) → Type 0
AreSame ms ns y z = (ms ≡ ns) × (state_of y ≡ state_of z)

pub longer_none : (ms ns rest : List Move) → ns ≡ ms ++ rest → rest ≡ [] → ms ≡ ns
longer_none ms ns rest is none = sym (is ∙ ap (λ l. ms ++ l) none ∙ append-nil ms)

pub same_step : (image : List ℕ) (quantum : ℕ) (y z : Machine) (ms ns : List Move) → Holds image quantum (state_of y) → Holds image quantum (state_of z) → IsGoing y → IsGoing z → IsStep ms → IsStep ns
    → Compare ms ns (state_of y) (state_of z) → AreSame ms ns y z
same_step image quantum y z ms ns first second ready ready' one other (Behind rest is walk) =
    let none = none_behind image quantum y (state_of z) rest first ready (step_behind ms rest one (subst IsStep is other)) walk in
    (longer_none ms ns rest is none.0, none.1)
same_step image quantum y z ms ns first second ready ready' one other (Ahead rest is walk) =
    let none = none_behind image quantum z (state_of y) rest second ready' (step_behind ns rest other (subst IsStep is one)) walk in
    (sym (longer_none ns ms rest is none.0), sym none.1)

pub same_steps : (image : List ℕ) (quantum : ℕ) (at at' : ℕ → Moment) (start : Machine) (n : ℕ) (ms ns : List Move) (y z : Machine) → Holds image quantum (state_of start) → IsGoing y → IsGoing z
    → StepsTo at start n ms y → StepsTo at' start n ns z → AreSame ms ns y z
same_steps image quantum at at' start zero ms ns y z holds ready ready' (same, none) (same', none') = (none ∙ sym none', ap state_of (sym same ∙ same'))
same_steps image quantum at at' start (suc n) ms ns y z holds ready ready' (w, before, arrival, own, lines, all, steps, stands, arrives, makes, goes)
    (w', before', arrival', own', lines', all', steps', stands', arrives', makes', goes') =
    let earlier = same_steps image quantum at at' start n before before' w w' holds stands.ready stands'.ready steps steps' in
    let there = (follow image quantum (state_of start) before (state_of w) (steps_walk at start n before w steps) holds).holds in
    let other = subst (λ (s : State). Walk s (arrival' ++ own') (state_of z)) (sym earlier.1) goes'.walk in
    let first = (follow image quantum (state_of w) (arrival ++ own) (state_of y) goes.walk there).holds in
    let second = (follow image quantum (state_of w) (arrival' ++ own') (state_of z) other there).holds in
    let same = same_step image quantum y z (arrival ++ own) (arrival' ++ own') first second ready ready' (step_is w.at arrival own arrives makes) (step_is w'.at arrival' own' arrives' makes')
    (compare (state_of w) (state_of y) (state_of z) (arrival ++ own) (arrival' ++ own') stands.ready.order.right goes.walk other) in
    (all ∙ ap₂ (λ a b. a ++ b) earlier.0 same.0 ∙ sym all', same.1)

-- A run that goes on made nothing behind its last step.
quiet_behind : (last z : Machine) (arrival behind : List Move) → behind ≡ arrival → IsArrival last.at arrival → (ends_in_arrive behind ≡ false) → behind ≡ []
quiet_behind last z arrival behind is (NoArrival none) final = is ∙ none
quiet_behind last z arrival behind is (OneArrival made ops one) final = true_or_false (sym (ap ends_in_arrive (is ∙ one)) ∙ final)

pub record IsStill (at : ℕ → Moment) (start z : Machine) (n : ℕ) (moves : List Move) : Type 0 where
  pub last : Machine
  pub ready : IsGoing last
  pub steps : StepsTo at start n moves last
  pub state : state_of last ≡ state_of z

pub is_still : (at : ℕ → Moment) (start z : Machine) (n : ℕ) (moves : List Move) → IsByStep at start z n moves → z.end ≡ None → ends_in_arrive moves ≡ false → z.steps ≡ start.steps + n
    → IsStill at start z n moves
is_still at start z n moves is going final done =
    let alone = last_alone is.before is.behind (sym (ap ends_in_arrive is.all) ∙ final) in
    let of_step = is.of_step in
    let none : is.behind ≡ [] = elim of_step.makes [
      | inl nothing ↦ quiet_behind is.last z of_step.arrival is.behind (of_step.parts ∙ ap (λ l. of_step.arrival ++ l) nothing ∙ append-nil of_step.arrival) of_step.arrives alone
      | inr makes ↦
          absurd (none_on z.end (unmade_stops at start is.last z n is.before of_step.arrival of_step.own is.lines is.steps is.stands.ready.going of_step.arrives makes
          (subst (λ ms. Goes is.last z ms is.lines) of_step.parts is.goes) done) going)
    ] in
    record {
      last = is.last;
      ready = is.stands.ready;
      steps = subst (λ ms. StepsTo at start n ms is.last) (sym (is.all ∙ ap (λ l. is.before ++ l) none ∙ append-nil is.before)) is.steps;
      state = subst (λ ms. Walk (state_of is.last) ms (state_of z)) none is.goes.walk;
    }
