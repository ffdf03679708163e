-- Serves the contract of `arrivals_of_others`: what is counted of all tasks.
use Rattle.std.specs.Prelude.{ℕ, suc, zero, ◌+◌, List, [], ◌∷◌, Option, Some, None}
use Rattle.parked_tasks.specs.declared.task.Task.{Task}

-- how many arrivals a task may have made: one for each step, and one more where none is owed
abbrev pub arrivals_by : (owed : Option ℕ) (steps : ℕ) → ℕ
arrivals_by (Some target) steps = steps
arrivals_by None steps = steps + 1

abbrev pub arrivals_made : Task → ℕ
arrivals_made task = arrivals_by task.owed task.steps

-- the sum over the first tasks
abbrev pub sum_to : {T : Type 0} → (T → ℕ) → ℕ → List T → ℕ
sum_to f zero xs = 0
sum_to f (suc k) [] = 0
sum_to f (suc k) (x ∷ xs) = f x + sum_to f k xs
