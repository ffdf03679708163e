use Rattle.std.proofs.Common.{◌≡◌, ◌+◌, ◌∷◌, ◌++◌, length, None}
use Rattle.parked_tasks.specs.AtBoot.{at_start, waiting_from}
use Rattle.parked_tasks.proofs.boot.tasks_at_boot.Given as goal

-- the first tasks stand as at boot, and the scripts of the others are left
abbrev pub invariant-waiting : goal.invariant-waiting
invariant-waiting l = record {
  so_far : l.tasks.items ++ waiting_from l.task l.scripts.items l.quantum l.swap ≡ at_start 0 None ∷ waiting_from 1 l.fn.scripts.items l.quantum l.swap;
  left : length l.scripts.items + l.task ≡ l.behind;
}
