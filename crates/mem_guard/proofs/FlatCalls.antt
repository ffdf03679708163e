-- What a call's answer over the guarded space tells of flat memory, and of the mote's own parts.
use Rattle.std.proofs.Common.{◌≡◌, refl, sym, ap, subst, ◌∙◌}
use Rattle.std.specs.Prelude.{Result, Ok, Err, OnOk, OnErr}
use Rattle.avr_exec.specs.declared.stop.BusStop.{BusStop}
use Rattle.avr_exec.specs.Spaces.{Outcome, outcome_of}
use Rattle.avr_exec.specs.Likeness.{over, Leaves}
use Rattle.heap_frames.specs.Paged.{IsPaged}
use Rattle.flat_machine.specs.FlatSpace.{FlatSpace}
use Rattle.mem_guard.specs.Guarded.{Guarded, flat_of}
use Rattle.mem_guard.specs.Left.{IsKept}
use Rattle.mem_guard.proofs.Leaves.{kept_same}

told_flat : {A : Type 0} (result : Result A BusStop) (next : Guarded) → outcome_of result (flat_of next) ≡ over flat_of (outcome_of result next)
told_flat (Ok answer) next = refl
told_flat (Err stop) next = refl

-- the call's answer over flat memory
pub flat_answer : {A : Type 0} (result : Result A BusStop) (next : Guarded) (outcome : Outcome Guarded A) (flat : Outcome FlatSpace A)
    → outcome_of result next ≡ outcome → flat ≡ over flat_of outcome → outcome_of result (flat_of next) ≡ flat
flat_answer result next outcome flat answer alike = told_flat result next ∙ ap (over flat_of) answer ∙ sym alike

-- what the call leaves
pub kept_by : {A : Type 0} (P : Guarded → Type 0) (g next : Guarded) (result : Result A BusStop) (outcome : Outcome Guarded A) → IsPaged g.sram g.swap
    → outcome_of result next ≡ outcome → Leaves (λ n. IsKept g n × P n) outcome → OnErr result (next ≡ g) → IsKept g next
kept_by P g next (Ok done) outcome paged answer left stop = (subst (Leaves (λ n. IsKept g n × P n)) (sym answer) left).0
kept_by P g next (Err stopped) outcome paged answer left stop = subst (IsKept g) (sym stop) (kept_same g paged)

pub heap_by : {A : Type 0} (P : Guarded → Type 0) (g next : Guarded) (result : Result A BusStop) (outcome : Outcome Guarded A)
    → outcome_of result next ≡ outcome → Leaves (λ n. IsKept g n × P n) outcome → OnOk result (P next)
heap_by P g next (Ok done) outcome answer left = (subst (Leaves (λ n. IsKept g n × P n)) (sym answer) left).1
heap_by P g next (Err stopped) outcome answer left = tt
