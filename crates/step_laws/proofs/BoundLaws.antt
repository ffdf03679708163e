-- The law of a step keeps the bounds on the numbers.
use Rattle.std.proofs.Common.{◌≡◌, ℕ, ◌+◌, ◌-◌, ◌*◌, ◌/◌, ◌%◌, ◌<◌, ◌≤◌, ◌==◌, Bool, true, false, refl, sym, ◌∙◌, arith, subst, map}
use Rattle.std.specs.Prelude.{◌≢◌, if◌then◌else◌}
use Rattle.std.proofs.lemmas.Bool.Decides.{nat_tests}
use Rattle.avr_isa.specs.Crossing.{is_crossing}
use Rattle.preempt_count.specs.Counting.{bound_per_crossing, count_over}
use Rattle.kernel_entry.specs.Seen.{count_of}
use Rattle.step_laws.specs.Moves.{Begin, Within}
use Rattle.step_laws.specs.Numbers.{Numbers, moved, numbered}
use Rattle.step_laws.specs.States.{State}
use Rattle.step_laws.specs.StepLaws.{StepLaw, moves_of, crossings_over, links_at}
use Rattle.step_laws.specs.Bounds.{AreBounded, AreEnded, KeepBounds, EndBounds}
use Rattle.step_laws.proofs.NumberLaws.{natural_is, entries_is, steps_is, since_bound, longest_bound, since_longest, arrivals_within}

-- a step that is no crossing goes up within its page
not_crossing : (from to : ℕ) → is_crossing from to ≡ false → (from < to) × (to / 128 ≡ from / 128)
not_crossing from to is = (grind (arith, nat_tests), grind (arith, nat_tests))

pub is_one : (count : ℕ) → (count == 1) ≡ true → count ≡ 1
is_one count is = grind (arith, nat_tests)

pub not_one : (count : ℕ) → (count == 1) ≡ false → count ≢ 1
not_one count more = grind (arith, nat_tests)

within_by : (quantum count from to since since' : ℕ) (b c : Bool) → is_crossing from to ≡ b → (count == 1) ≡ c → 1 ≤ count → count ≤ quantum → since ≤ 40 * (128 * (quantum - count) + from % 128)
    → since' ≤ since + 40
    → (b ≡ true → count ≡ 1 → since' ≡ 0) → since' ≤ 40 * (128 * (quantum - (if b then (if c then quantum else count - 1) else count)) + to % 128)
within_by quantum count from to since since' false c goes test some most within few reset =
    let up = not_crossing from to goes in
    let below : from < to = up.0 in
    let same : to / 128 ≡ from / 128 = up.1 in
    let higher : from % 128 < to % 128 = omega arith in
    omega arith
within_by quantum count from to since since' true true crosses test some most within few reset = let none : since' ≡ 0 = reset refl (is_one count test) in omega arith
within_by quantum count from to since since' true false crosses test some most within few reset = let apart : count ≢ 1 = not_one count test in omega arith

-- a step keeps the bound on plain steps since the last service
within_on : (quantum count from to since since' : ℕ) → 1 ≤ count → count ≤ quantum → since ≤ 40 * (128 * (quantum - count) + from % 128) → since' ≤ since + 40
    → (is_crossing from to ≡ true → count ≡ 1 → since' ≡ 0)
    → since' ≤ 40 * (128 * (quantum - count_over quantum from to count) + to % 128)
within_on quantum count from to since since' some most within few reset = within_by quantum count from to since since' (is_crossing from to) (count == 1) refl refl some most within few reset

-- so no more than this many run between two services
longest_on : (quantum count at since : ℕ) → 1 ≤ count → count ≤ quantum → since ≤ 40 * (128 * (quantum - count) + at % 128) → since + 40 ≤ bound_per_crossing * quantum
longest_on quantum count at since some most within = omega arith

at_most_one : (b : Bool) (crossings steps steps' : ℕ) → crossings ≤ steps → steps' ≡ steps + 1 → (if b then crossings + 1 else crossings) ≤ steps'
at_most_one true crossings steps steps' few more = omega arith
at_most_one false crossings steps steps' few more = omega arith

-- what any step leaves of the numbers
record Rises (n after : Numbers) (quantum : ℕ) : Type 0 where
  natural : after.natural ≤ n.natural + 40
  entries : after.entries ≤ n.entries + 2
  reach : after.since ≤ n.since + 40
  since : after.since ≤ after.longest
  longest : after.longest ≤ after.natural
  most : after.longest ≤ bound_per_crossing * quantum

rises : (x : State) (a crossings : ℕ) (law : StepLaw (links_at x) x a) (n : Numbers) → 1 ≤ count_of x.kernel → count_of x.kernel ≤ x.kernel.quantum
    → AreBounded n crossings x.kernel.quantum (count_of x.kernel) a
    → Rises n (numbered (moves_of law) n) x.kernel.quantum
unfolding moved
rises x a crossings law n some most before =
    let first = moved (Begin law.first) n in
    let after = numbered (map Within law.rest) first in
    let natural = natural_is law.rest first in
    let entries = entries_is law.rest first in
    let since = since_bound law.rest first in
    let reach = longest_on x.kernel.quantum (count_of x.kernel) a n.since some most before.within in
    record {
      natural = omega arith;
      entries = omega arith;
      reach = omega arith;
      since = since_longest law.rest first (omega arith);
      longest = longest_bound law.rest first after.natural (omega arith) (omega arith);
      most = longest_bound law.rest first (bound_per_crossing * x.kernel.quantum) (omega arith) (omega arith);
    }

pub keep_bounds : KeepBounds
unfolding moved
keep_bounds x a to crossings law n some most before goes =
    let quantum = x.kernel.quantum in
    let first = moved (Begin law.first) n in
    let after = numbered (moves_of law) n in
    let steps : after.steps ≡ n.steps + 1 = steps_is law.rest first ∙ omega arith in
    let up = rises x a crossings law n some most before in
    let within = within_on quantum (count_of x.kernel) a to n.since after.since some most before.within up.reach (λ crosses one. goes.reset crosses one first) in
    let bounds : AreBounded after (crossings_over a to crossings) quantum (count_of law.end.kernel) to = record {
      natural = omega (arith, up.natural, before.natural);
      entries = omega (arith, up.entries, before.entries);
      crossed = at_most_one (is_crossing a to) crossings n.steps after.steps before.crossed steps;
      since = up.since;
      longest = up.longest;
      within = subst (λ count. after.since ≤ 40 * (128 * (quantum - count) + to % 128)) (sym goes.count) within;
      most = up.most;
    } in
    (steps, (arrivals_within law.rest first).pages, bounds)

pub end_bounds : EndBounds
unfolding moved
end_bounds x a crossings stop law n some most before stops =
    let first = moved (Begin law.first) n in
    let steps : (numbered (moves_of law) n).steps ≡ n.steps = steps_is law.rest first ∙ omega arith in
    let up = rises x a crossings law n some most before in
    let bounds : AreEnded (numbered (moves_of law) n) crossings x.kernel.quantum = record {
      natural = omega (arith, up.natural, before.natural);
      entries = omega (arith, up.entries, before.entries);
      crossed = omega (arith, before.crossed);
      since = up.since;
      longest = up.longest;
      most = up.most;
    } in
    (steps, (arrivals_within law.rest first).pages, bounds)
