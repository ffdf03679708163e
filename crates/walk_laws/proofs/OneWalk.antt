-- From one state walks never part: of two the shorter is the front of the longer.
use Rattle.std.proofs.Common.{◌≡◌, ℕ, zero, suc, Bool, true, false, List, [], ◌∷◌, ◌++◌, Some, None, refl, sym, ap, ap₂, ◌∙◌, subst}
use Rattle.flash_words.specs.Layouts.{IsRight}
use Rattle.flat_machine.specs.FlatMachine.{Moment}
use Rattle.kernel_entry.specs.declared.kernel.Kernel.{Kernel}
use Rattle.kernel_entry.specs.declared.kernel.Taken.{Taken}
use Rattle.kernel_entry.specs.declared.kernel.Taken.TheVariants as taken
use Rattle.kernel_entry.specs.Interrupts as interrupts
use Rattle.kernel_entry.proofs.ServedLaws.{served_leaves}
use Rattle.kernel_entry.proofs.TakingRows.{taking_row}
use Rattle.step_laws.specs.Moves.{Plain, Serve, Move, Begin, Within, Arrive, Take}
use Rattle.step_laws.specs.States.{State, Awaited, after_taking}
use Rattle.step_laws.specs.Walks.{Walk, Makes}
use Rattle.step_laws.proofs.MoveLaws.{one_plain, one_service, one_arrival, one_interrupt, plain_or_service, arrival_or_interrupt}
use Rattle.step_laws.proofs.ServiceMoves.{kernel_served}
use Rattle.step_laws.proofs.Ways.{walks_on}
use Rattle.program_steps.specs.Machines.{Machine, state_of}
use Rattle.program_steps.proofs.Arrived.{after_arrived}
use Rattle.tk_run.specs.Running.{StepsTo}

-- Two moves. ----------------------------------------------------------------------------------------------

pub free_or_owed : {A : Type 0} → (x : State) (w : Awaited) → x.owed ≡ None → x.owed ≡ Some w → A
free_or_owed x w free owes = absurd (let e : None ≡ Some w = sym free ∙ owes in cc)

pub true_or_false : {A : Type 0} → ◌≡◌ {A = Bool} true false → A
true_or_false e = absurd (cc)

one_move : (x : State) {y z : State} (m n : Move) → IsRight x.kernel.layout → Makes x m y → Makes x n z → (m ≡ n) × (y ≡ z)
one_move x {y} {z} (Begin line) (Begin line') right one other = let same = one_plain x y z true true line line' one other in (ap (λ l. Begin l) same.1, same.2)
one_move x {y} {z} (Begin line) (Within (Plain line')) right one other = true_or_false (one_plain x y z true false line line' one other).0
one_move x {y} {z} (Begin line) (Within (Serve line' stops)) right one other = absurd (plain_or_service x y z true stops line line' right one other)
one_move x (Begin line) (Arrive target made ops) right one other = free_or_owed x other.owed one.free other.owes
one_move x (Begin line) (Take stops) right one other = free_or_owed x other.owed one.free other.owes
one_move x {y} {z} (Within (Plain line)) (Begin line') right one other = true_or_false (sym (one_plain x y z false true line line' one other).0)
one_move x {y} {z} (Within (Plain line)) (Within (Plain line')) right one other = let same = one_plain x y z false false line line' one other in (ap (λ l. Within (Plain l)) same.1, same.2)
one_move x {y} {z} (Within (Plain line)) (Within (Serve line' stops)) right one other = absurd (plain_or_service x y z false stops line line' right one other)
one_move x (Within (Plain line)) (Arrive target made ops) right one other = free_or_owed x other.owed one.free other.owes
one_move x (Within (Plain line)) (Take stops) right one other = free_or_owed x other.owed one.free other.owes
one_move x {y} {z} (Within (Serve line stops)) (Begin line') right one other = absurd (plain_or_service x z y true stops line' line right other one)
one_move x {y} {z} (Within (Serve line stops)) (Within (Plain line')) right one other = absurd (plain_or_service x z y false stops line' line right other one)
one_move x {y} {z} (Within (Serve line stops)) (Within (Serve line' stops')) right one other =
    let same = one_service x y z stops stops' line line' one other in
    (ap₂ (λ l s. Within (Serve l s)) same.0 same.1, same.2)
one_move x (Within (Serve line stops)) (Arrive target made ops) right one other = free_or_owed x other.owed one.free other.owes
one_move x (Within (Serve line stops)) (Take stops') right one other = free_or_owed x other.owed one.free other.owes
one_move x (Arrive target made ops) (Begin line) right one other = free_or_owed x one.owed other.free one.owes
one_move x (Arrive target made ops) (Within (Plain line)) right one other = free_or_owed x one.owed other.free one.owes
one_move x (Arrive target made ops) (Within (Serve line stops)) right one other = free_or_owed x one.owed other.free one.owes
one_move x {y} {z} (Arrive target made ops) (Arrive target' made' ops') right one other =
    let same = one_arrival x y z target target' ops ops' made made' one other in
    (ap (λ t. Arrive t made ops) same.0 ∙ ap₂ (λ b k. Arrive target' b k) same.1 same.2, same.3)
one_move x {y} {z} (Arrive target made ops) (Take stops) right one other = absurd (arrival_or_interrupt x y z target ops made stops one other)
one_move x (Take stops) (Begin line) right one other = free_or_owed x one.owed other.free one.owes
one_move x (Take stops) (Within (Plain line)) right one other = free_or_owed x one.owed other.free one.owes
one_move x (Take stops) (Within (Serve line stops')) right one other = free_or_owed x one.owed other.free one.owes
one_move x {y} {z} (Take stops) (Arrive target made ops) right one other = absurd (arrival_or_interrupt x z y target ops made stops other one)
one_move x {y} {z} (Take stops) (Take stops') right one other = let same = one_interrupt x y z stops stops' one other in (ap (λ s. Take s) same.0, same.1)

-- The layout stays. ---------------------------------------------------------------------------------------

pub kernel_taken : (x : State) (p : Taken × Kernel) → (after_taking x p).kernel ≡ p.1
kernel_taken x (taken.Nothing, k) = refl
kernel_taken x (taken.Vector v, k) = refl
kernel_taken x (taken.Stopped stop, k) = refl

layout_taken : (k new : Kernel) (target : ℕ) (result : Taken) → interrupts.TakesLeast k target result new → new.layout ≡ k.layout
layout_taken k new target taken.Nothing row = ap (λ (n : Kernel). n.layout) (row.stays (λ place e. absurd (cc)))
layout_taken k new target (taken.Stopped stop) row = ap (λ (n : Kernel). n.layout) (row.stays (λ place e. absurd (cc)))
layout_taken k new target (taken.Vector place) row = ap (λ (n : Kernel). n.layout) (row.taken place refl)

layout_kept : (x y : State) (move : Move) → Makes x move y → y.kernel.layout ≡ x.kernel.layout
layout_kept x y (Begin line) makes = ap (λ (s : State). s.kernel.layout) makes.result
layout_kept x y (Within (Plain line)) makes = ap (λ (s : State). s.kernel.layout) makes.result
layout_kept x y (Within (Serve line stops)) makes = ap (λ (k : Kernel). k.layout) (kernel_served x y line stops makes) ∙ (served_leaves x.kernel makes.can).layout
layout_kept x y (Arrive target made ops) makes = (after_arrived x y makes.store makes.arrival makes.after).layout
layout_kept x y (Take stops) makes =
    let p = interrupts.taken x.kernel makes.owed.target in
    ap (λ (s : State). s.kernel.layout) makes.result ∙ ap (λ (k : Kernel). k.layout) (kernel_taken x p)
    ∙ layout_taken x.kernel p.1 makes.owed.target p.0 (taking_row x.kernel makes.owed.target p.0 p.1 refl makes.paged)

-- Two walks. ----------------------------------------------------------------------------------------------

pub data Compare (ms ns : List Move) (y z : State) : Type 0 where
  Behind : (rest : List Move) → ns ≡ ms ++ rest → Walk y rest z → Compare ms ns y z
  Ahead : (rest : List Move) → ms ≡ ns ++ rest → Walk z rest y → Compare ms ns y z

one_longer : (m : Move) {ms ns : List Move} {y z : State} → Compare ms ns y z → Compare (m ∷ ms) (m ∷ ns) y z
one_longer m (Behind rest is walk) = Behind rest (ap (λ l. m ∷ l) is) walk
one_longer m (Ahead rest is walk) = Ahead rest (ap (λ l. m ∷ l) is) walk

pub compare : (x y z : State) (ms ns : List Move) → IsRight x.kernel.layout → Walk x ms y → Walk x ns z → Compare ms ns y z
compare x y z [] ns right one other = Behind ns refl (subst (λ (s : State). Walk s ns z) one other)
compare x y z (m ∷ ms) [] right one other = Ahead (m ∷ ms) refl (subst (λ (s : State). Walk s (m ∷ ms) y) other one)
compare x y z (m ∷ ms) (n ∷ ns) right one other =
    let same = one_move x m n right one.1 other.1 in
    let next = subst IsRight (sym (layout_kept x one.0 m one.1)) right in
    let there = subst (λ (s : State). Walk s ns z) (sym same.1) other.2 in
    subst (λ k. Compare (m ∷ ms) (k ∷ ns) y z) same.0 (one_longer m (compare one.0 y z ms ns next one.2 there))

-- The moves of steps. -------------------------------------------------------------------------------------

pub steps_walk : (at : ℕ → Moment) (start : Machine) (n : ℕ) (moves : List Move) (z : Machine) → StepsTo at start n moves z → Walk (state_of start) moves (state_of z)
steps_walk at start zero moves z (same, none) = subst (λ ms. Walk (state_of start) ms (state_of z)) (sym none) (ap state_of same)
steps_walk at start (suc n) moves z (y, before, arrival, own, lines, all, steps, stands, arrives, makes, goes) =
    subst (λ ms. Walk (state_of start) ms (state_of z)) (sym all) (walks_on Makes (state_of start) (state_of y) (state_of z) before (arrival ++ own) (steps_walk at start n before y steps) goes.walk)
