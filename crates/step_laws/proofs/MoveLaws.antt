-- What decides the next move: a plain step and a service exclude each other, and so do an arrival and an interrupt;
-- each has one outcome, and an ended program has no move.
use Rattle.std.proofs.Common.{◌≡◌, ℕ, ◌<◌, ◌≤◌, Bool, true, false, List, [], ◌∷◌, refl, sym, ap, ap₂, ◌∙◌, subst, arith}
use Rattle.std.specs.Prelude.{◌≢◌, Option, None}
use Rattle.std.proofs.lemmas.Option.{same_Some}
use Rattle.flash_words.specs.Layouts.{IsRight, image_of}
use Rattle.flash_words.specs.declared.layout.Layout.{Layout}
use Rattle.nat_page.proofs.FaithfulLaws.{faithful_mapped}
use Rattle.branch_bridge.specs.Arrivals.{Store, ArrivesFrom}
use Rattle.branch_bridge.specs.declared.through.Arrival.{Arrival}
use Rattle.mote_devices.specs.declared.line.Line.{Line}
use Rattle.mote_core.specs.Shown.{line_shown}
use Rattle.mote_core.proofs.OneOutcome.{one_step}
use Rattle.kernel_entry.specs.declared.kernel.Kernel.{Kernel}
use Rattle.kernel_entry.specs.declared.kernel.Taken.{Taken}
use Rattle.kernel_entry.specs.Conditions.{CanServe}
use Rattle.kernel_entry.specs.Interrupts.{taken}
use Rattle.step_laws.specs.Moves.{Plain, Serve, Move, Begin, Within, Arrive, Take}
use Rattle.step_laws.specs.States.{State, Awaited, Begins, InPool, mote_of, with_mote, after_taking, stops_taking, store_of, arrived}
use Rattle.step_laws.specs.Walks.{MakesPlain, MakesServe, MakesArrive, MakesTake, Makes, Walk}
use Rattle.step_laws.proofs.OneArrival.{one_outcome}

-- the pool lies below the kernel's entries
pub pool_low : (layout : Layout) (a : ℕ) → IsRight layout → InPool layout a → a < 0xF000
pool_low layout a right pool =
    omega arith

pub entry_high : (k : Kernel) → CanServe k → 0xF000 ≤ k.mote.cpu.pc
entry_high k (CanServe.AtBridge at) = omega arith
entry_high k (CanServe.AtQuantum at) = omega arith
entry_high k (CanServe.AtMem at shape can) = omega arith
entry_high k (CanServe.AtPushReturn at shape can) = omega arith
entry_high k (CanServe.AtReturn at shape can counts) = omega arith
entry_high k (CanServe.AtIndirect at shape can counts) = omega arith
entry_high k (CanServe.AtSelf at shape can counts) = omega arith
entry_high k (CanServe.AtFault at shape can) = omega arith

pub plain_or_service : (x y z : State) (begins stops : Bool) (line line' : Option Line) → IsRight x.kernel.layout → MakesPlain x begins line y → MakesServe x line' stops z → ⊥
plain_or_service x y z begins stops line line' right plain service =
    let low = pool_low x.kernel.layout (mote_of x).cpu.pc right plain.pool in
    let high = entry_high x.kernel service.can in
    omega arith

-- one outcome each
begins_alike : (layout : Layout) (words : List ℕ) (v : ℕ) (b c : Bool) → Begins layout words v b → Begins layout words v c → b ≡ c
begins_alike layout words v true true one other = refl
begins_alike layout words v true false one other = absurd (other one)
begins_alike layout words v false true one other = absurd (one other)
begins_alike layout words v false false one other = refl

pub one_plain : (x y z : State) (b c : Bool) (line line' : Option Line) → MakesPlain x b line y → MakesPlain x c line' z → (b ≡ c) × (line ≡ line') × (y ≡ z)
one_plain x y z b c line line' one other =
    let same = one_step (mote_of x) one.next other.next one.shown other.shown one.step other.step in (
      begins_alike x.kernel.layout (mote_of x).flash.words (mote_of x).cpu.pc b c one.starts other.starts,
      sym one.written ∙ ap line_shown same.1 ∙ other.written,
      one.result ∙ ap (with_mote x) same.0 ∙ sym other.result,
    )

pub one_service : (x y z : State) (stops stops' : Bool) (line line' : Option Line) → MakesServe x line stops y → MakesServe x line' stops' z → (line ≡ line') × (stops ≡ stops') × (y ≡ z)
one_service x y z stops stops' line line' one other =
    (sym one.written ∙ other.written, sym one.halts ∙ other.halts, one.result ∙ sym other.result)

pub arrival_or_interrupt : (x y z : State) (target ops : ℕ) (made stops : Bool) → MakesArrive x target made ops y → MakesTake x stops z → ⊥
arrival_or_interrupt x y z target ops made stops arrival interrupt =
    absurd (cc)

pub one_arrival : (x y z : State) (target target' ops ops' : ℕ) (made made' : Bool) → MakesArrive x target made ops y → MakesArrive x target' made' ops' z
    → (target ≡ target') × (made ≡ made') × (ops ≡ ops') × (y ≡ z)
one_arrival x y z target target' ops ops' made made' one other =
    let owed = same_Some one.owed other.owed (sym one.owes ∙ other.owes) in
    let there : target ≡ target' = one.at ∙ ap (λ (o : Awaited). o.target) owed ∙ sym other.at in
    let mapped = faithful_mapped x.kernel.layout (image_of x.kernel.layout (mote_of x).flash.words) (mote_of x).flash.words one.can.right one.can.faithful in
    let again = subst (λ t. ArrivesFrom x.kernel.layout (store_of x) other.store t one.owed.stub other.arrival) (sym there)
    (subst (λ (o : Awaited). ArrivesFrom x.kernel.layout (store_of x) other.store target' o.stub other.arrival) (sym owed) other.arrives) in
    let same = one_outcome x.kernel.layout (store_of x) one.store other.store target one.owed.stub one.arrival other.arrival mapped one.arrives again in
    let tried : one.store.flash.ops ≡ other.store.flash.ops = ap (λ (s : Store). s.flash.ops) same.0 in (
      there,
      sym one.makes ∙ ap (λ (a : Arrival). a.made) same.1 ∙ other.makes,
      omega (arith, tried, one.tried, other.tried),
      one.after ∙ ap₂ (arrived x) same.0 same.1 ∙ sym other.after,
    )

pub one_interrupt : (x y z : State) (stops stops' : Bool) → MakesTake x stops y → MakesTake x stops' z → (stops ≡ stops') × (y ≡ z)
one_interrupt x y z stops stops' one other =
    let same : one.owed.target ≡ other.owed.target = ap (λ (o : Awaited). o.target) (same_Some one.owed other.owed (sym one.owes ∙ other.owes)) in
    let answer = ap (taken x.kernel) same in
    (sym one.halts ∙ ap (λ (o : Taken × Kernel). stops_taking o.0) answer ∙ other.halts, one.result ∙ ap (after_taking x) answer ∙ sym other.result)

-- no move of an ended program
no_move : (x y : State) (move : Move) → x.end ≢ None → Makes x move y → ⊥
no_move x y (Begin line) ended makes = ended makes.going
no_move x y (Within (Plain line)) ended makes = ended makes.going
no_move x y (Within (Serve line stops)) ended makes = ended makes.going
no_move x y (Arrive target made ops) ended makes = ended makes.going
no_move x y (Take stops) ended makes = ended makes.going

pub ended_stays : (x z : State) (moves : List Move) → x.end ≢ None → Walk x moves z → (moves ≡ []) × (x ≡ z)
ended_stays x z [] ended walk = (refl, walk)
ended_stays x z (move ∷ moves) ended walk = absurd (no_move x walk.0 move ended walk.1)
