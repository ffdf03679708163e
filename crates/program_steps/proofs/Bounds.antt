-- How far the numbers go.
use Rattle.std.proofs.Common.{◌≡◌, ℕ, ◌+◌, ◌≤◌, List, ◌∷◌, arith, map}
use Rattle.std.specs.Prelude.{◌^◌, max, Option, Some, None}
use Rattle.step_laws.specs.Moves.{Inner, Begin, Within}
use Rattle.step_laws.specs.Numbers.{Numbers, moved, numbered}
use Rattle.step_laws.specs.Bounds.{AreBounded, AreEnded}
use Rattle.kernel_entry.specs.declared.kernel.Owed.{Owed}
use Rattle.program_steps.specs.Machines.{Machine, numbers_of}
use Rattle.program_steps.specs.Ready.{IsBounded, AreArrivals, most_arrivals, count_in, IsGoing, HasBounds}
use Rattle.step_laws.proofs.NumberLaws.{SameArrivals, arrivals_within}
use Rattle.mote_devices.specs.declared.line.Line.{Line}

-- no page is made inside a step, and no operation on flash is tried
pub arrivals_first : (first : Option Line) (rest : List Inner) (n : Numbers) → SameArrivals n.pages n.ops n.began n.others (numbered (Begin first ∷ map Within rest) n)
unfolding moved
arrivals_first first rest n = arrivals_within rest (moved (Begin first) n)

pub most_owed : (owed : Option Owed) (n : ℕ) → most_arrivals owed n ≤ n + 1
most_owed (Some a) n = omega arith
most_owed None n = omega arith

-- where a step begins, and where one has stopped
pub bounded_counted : (n : Numbers) (crossings quantum count at polls : ℕ) (owed : Option Owed) → AreBounded n crossings quantum count at → AreArrivals n (most_arrivals owed n.steps)
    → polls ≤ n.steps + 2 ^ 32 → IsBounded n crossings quantum polls
bounded_counted n crossings quantum count at polls owed counted arrivals few =
    let moves : AreEnded n crossings quantum =
    record {
      natural = omega (arith, counted.natural);
      entries = omega (arith, counted.entries);
      crossed = counted.crossed;
      since = counted.since;
      longest = counted.longest;
      most = counted.most;
    } in
    record { moves = moves; polls = omega arith; pages = omega (arith, most_owed owed n.steps, arrivals.pages); ops = omega (arith, most_owed owed n.steps, arrivals.ops) }

-- where the next step can begin
pub bounds_ready : (m : Machine) → IsGoing m → HasBounds m
bounds_ready m ready = bounded_counted (numbers_of m) m.crossings m.kernel.quantum (count_in m) m.at m.kernel.mote.devices.polls m.owed ready.counted ready.arrivals ready.polls

pub bounded_stop : {n n' : Numbers} {crossings quantum : ℕ} (polls polls' : ℕ) (owed : Option Owed) → AreEnded n' crossings quantum → SameArrivals n.pages n.ops n.began n.others n'
    → n'.steps ≡ n.steps → AreArrivals n (most_arrivals owed n.steps)
    → polls ≤ n.steps + 2 ^ 32 → polls' ≤ max (polls + 1) 4294967295 → IsBounded n' crossings quantum polls'
bounded_stop {n} polls polls' owed ended same steps arrivals low more =
    record {
      moves = ended;
      polls = omega arith;
      pages = omega (arith, most_owed owed n.steps, arrivals.pages, same.pages, same.began, same.others);
      ops = omega (arith, most_owed owed n.steps, arrivals.ops, same.ops, same.others);
    }
