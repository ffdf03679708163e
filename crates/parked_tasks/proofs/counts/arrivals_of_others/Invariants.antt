use Rattle.std.proofs.Common.{◌≡◌}
use Rattle.parked_tasks.specs.Counting.{arrivals_made, sum_to}
use Rattle.parked_tasks.proofs.counts.arrivals_of_others.Given as goal

-- those of the first tasks
abbrev pub invariant-tasks : goal.invariant-tasks
invariant-tasks l = l.sum ≡ sum_to arrivals_made l.i l.tasks
