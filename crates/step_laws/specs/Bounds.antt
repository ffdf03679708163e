-- How far the numbers of a run go, step after step (docs/RUN.md, "Bounds").
use Rattle.std.specs.Prelude.{◌≡◌, ℕ, ◌+◌, ◌-◌, ◌*◌, ◌%◌, ◌≤◌}
use Rattle.preempt_count.specs.Counting.{bound_per_crossing}
use Rattle.kernel_entry.specs.declared.kernel.Stop.{Stop}
use Rattle.kernel_entry.specs.Seen.{count_of}
use Rattle.step_laws.specs.Numbers.{Numbers, numbered}
use Rattle.step_laws.specs.States.{State}
use Rattle.step_laws.specs.StepLaws.{StepLaw, moves_of, GoesTo, StopsAt, crossings_over, links_at}

-- The numbers where a step begins, at this address and with this COUNT. A step has at most 40 plain steps
-- and two services. Between crossings addresses rise within one page of 128 words, and each crossing lowers
-- COUNT; so `since` is bounded by both, and `longest` by the quantum.
pub record AreBounded (n : Numbers) (crossings quantum count at : ℕ) : Type 0 where
  pub natural : n.natural ≤ 40 * n.steps
  pub entries : n.entries ≤ 2 * n.steps
  pub crossed : crossings ≤ n.steps
  pub since : n.since ≤ n.longest
  pub longest : n.longest ≤ n.natural
  pub within : n.since ≤ 40 * (128 * (quantum - count) + at % 128)
  pub most : n.longest ≤ bound_per_crossing * quantum

-- the numbers where a program has stopped: the step that was not made may have moved
pub record AreEnded (n : Numbers) (crossings quantum : ℕ) : Type 0 where
  pub natural : n.natural ≤ 40 * (n.steps + 1)
  pub entries : n.entries ≤ 2 * (n.steps + 1)
  pub crossed : crossings ≤ n.steps
  pub since : n.since ≤ n.longest
  pub longest : n.longest ≤ n.natural
  pub most : n.longest ≤ bound_per_crossing * quantum

-- A step that goes on adds one step and keeps the bounds, where COUNT is from 1 to the quantum; one that stops adds none.
-- Neither makes a page.
abbrev pub KeepBounds : Type 0
KeepBounds = (x : State) → (a to crossings : ℕ) → (law : StepLaw (links_at x) x a) → (n : Numbers) → 1 ≤ count_of x.kernel → count_of x.kernel ≤ x.kernel.quantum
    → AreBounded n crossings x.kernel.quantum (count_of x.kernel) a → GoesTo (links_at x) x a law.line law.rest to law.end
    → (let after = numbered (moves_of law) n in (after.steps ≡ n.steps + 1) × (after.pages ≡ n.pages) × AreBounded after (crossings_over a to crossings) x.kernel.quantum (count_of law.end.kernel) to)

abbrev pub EndBounds : Type 0
EndBounds = (x : State) → (a crossings : ℕ) → (stop : Stop) → (law : StepLaw (links_at x) x a) → (n : Numbers) → 1 ≤ count_of x.kernel → count_of x.kernel ≤ x.kernel.quantum
    → AreBounded n crossings x.kernel.quantum (count_of x.kernel) a → StopsAt x a law.line law.rest stop law.end
    → (let after = numbered (moves_of law) n in (after.steps ≡ n.steps) × (after.pages ≡ n.pages) × AreEnded after crossings x.kernel.quantum)
