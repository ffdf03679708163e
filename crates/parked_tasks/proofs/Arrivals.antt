-- How many arrivals the tasks may have made.
use Rattle.std.proofs.Common.{◌≡◌, ℕ, ◌+◌, ◌≤◌, List, length, ap, ◌∙◌, arith}
use Rattle.std.specs.Prelude.{◌^◌, slice_get, sum_by, Option, Some, None}
use Rattle.parked_tasks.specs.declared.task.Task.{Task}
use Rattle.parked_tasks.specs.Counting.{arrivals_by, arrivals_made, sum_to}
use Rattle.parked_tasks.proofs.Sums.{to_all}

most_made : (owed : Option ℕ) (steps : ℕ) → arrivals_by owed steps ≤ steps + 1
most_made None steps = omega arith
most_made (Some owed) steps = omega arith

pub arrivals_few : (tasks : List Task) → ((i : ℕ) (task : Task) → slice_get tasks i ≡ Some task → task.steps ≤ 10 ^ 12) → (i : ℕ) (task : Task) → slice_get tasks i ≡ Some task
    → arrivals_made task ≤ 10 ^ 12 + 1
arrivals_few tasks few i task there = omega (arith, few i task there, most_made task.owed task.steps)

pub all_here : (tasks : List Task) (k sum : ℕ) → sum ≡ sum_to arrivals_made k tasks → k ≡ length tasks → sum ≡ sum_by arrivals_made tasks
all_here tasks k sum is all = is ∙ ap (λ j. sum_to arrivals_made j tasks) all ∙ to_all arrivals_made tasks
