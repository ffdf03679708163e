use Rattle.std.proofs.Common.{◌≡◌}
use Rattle.parked_tasks.specs.declared.task.Task.{Task}
use Rattle.parked_tasks.specs.Counting.{sum_to}
use Rattle.parked_tasks.proofs.counts.counts_of.Given as goal

-- those of the first tasks
abbrev pub invariant-tasks : goal.invariant-tasks
invariant-tasks l = (l.natural ≡ sum_to (λ (task : Task). task.natural) l.i l.tasks) × (l.entries ≡ sum_to (λ (task : Task). task.entries) l.i l.tasks)
